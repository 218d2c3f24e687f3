-- `rows::passing::left` meets its contract. The loop's invariant: what lies before the place passed. Assumes nothing.
use Prim.Native.Nat.{◌-◌}
use lib.ListN.{length}
use Rattle.rows.proofs.Blocks.{Walked}
use Rattle.rows.proofs.passing.left.Given as goal

abbrev pub invariant-loop-at : goal.invariant-loop-at
invariant-loop-at g l = Walked g.T.Test.passes l.s l.at

abbrev pub decreases-loop-at : goal.decreases-loop-at
decreases-loop-at g l = length l.s - l.at
