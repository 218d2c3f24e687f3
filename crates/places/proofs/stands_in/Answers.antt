-- `places::stands_in` meets its contract, by the invariant. Assumes nothing.
use mathlib.Core.Path.{refl}
use Rattle.places.proofs.Hitting.{hit-here, hit-on, all-hit}
use Rattle.places.proofs.stands_in.Goals as goal
use Rattle.places.proofs.stands_in.Goals.{then-n-from, else-n-from}

pub loop-n-init : goal.loop-n-init
loop-n-init c = refl

pub loop-n-preserved : goal.loop-n-preserved
loop-n-preserved c =
    elim c.if-n-from.branch [
      | then-n-from w ↦ hit-here _ _ _ c.loop-n-test.true _ c.loop-n.invariant _ _ w.if-n-from.true c.from.ensures w.hit-is
      | else-n-from w ↦ hit-on _ _ _ c.loop-n-test.true _ c.loop-n.invariant _ _ w.if-n-from.false c.from.ensures w.hit-is
    ]

pub returns : goal.returns
returns c = all-hit _ _ _ c.loop-n-test.false _ c.loop-n.invariant
