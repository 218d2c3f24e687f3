-- `places::gather` meets its contract. The loops' invariants: the places from k on keep the rules, and the row has what they hold; of a centre's
-- eight, those that were looked at have left their marks. Assumes nothing.
use Prim.Native.Nat.{◌*◌}
use Rattle.places.proofs.Loops.{Looked}
use Rattle.places.proofs.Marks.{Met}
use Rattle.places.proofs.gather.Given as goal

abbrev pub invariant-loop-k : goal.invariant-loop-k
invariant-loop-k l = Looked l.timeout l.resends l.places l.row l.k × Met l.marks l.row l.low l.k

abbrev pub invariant-loop-centre : goal.invariant-loop-centre
invariant-loop-centre l = Looked l.timeout l.resends l.places l.row (l.centre * 8)
