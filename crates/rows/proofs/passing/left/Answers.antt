-- `rows::passing::left` meets its contract by a turn of the walk and its end. Assumes nothing.
use native.Mathlib.Omega.{arith}
use mathlib.Core.Path.{refl}
use Rattle.rows.proofs.Blocks.{walked-more, walked-stop, walked-end}
use Rattle.rows.proofs.passing.left.Goals as goal
use Rattle.rows.proofs.passing.left.Goals.{then-loop-at-test+else-holds, else-loop-at-test}

pub loop-at-preserved : goal.loop-at-preserved
loop-at-preserved g c = walked-more _ _ _ _ _ _ c.loop-at.invariant c.holds.ensures (omega arith) c.if-holds.true c.loop-at-test.true

pub returns : goal.returns
returns g c =
    elim c.loop-at-test.branch [
      | then-loop-at-test+else-holds w ↦ walked-stop _ _ _ _ _ _ c.loop-at.invariant w.holds.ensures (omega arith) _ w.if-holds.false refl
      | else-loop-at-test w ↦ walked-end _ _ _ _ _ c.loop-at.invariant w.loop-at-test.false refl
    ]
