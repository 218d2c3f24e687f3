-- `places::find_fitting` meets its contract: each way out by what the pass told and by the place that was looked at. Assumes nothing.
use native.Mathlib.Omega.{arith}
use borrow.Author.Rules.{rules}
use Rattle.places.proofs.Reaching.{reached-broken, reached-outside, reached-none, reached-at, reach-other, reach-idle}
use Rattle.places.proofs.find_fitting.Goals as goal
use Rattle.places.proofs.find_fitting.Goals.{else-row-place-via-then-row-place+else-awaits, else-row-place-via-else-row-place}

pub returns-in_err-gather : goal.returns-in_err-gather
returns-in_err-gather c = search (reached-broken, rules)

pub returns-then-centre-ge2 : goal.returns-then-centre-ge2
returns-then-centre-ge2 c = reached-outside _ _ _ _ _ _ c.in_ok-gather.ensures.rows.0 c.if-centre-ge2.true

pub returns-then-awaits : goal.returns-then-awaits
returns-then-awaits c =
    let told = c.in_ok-gather.ensures.rows in
    reached-at _ _ _ _ _ _ told.0 c.if-centre-ge2.false _ c.loop-place.invariant _ told.2 (omega arith) (omega arith) _ c.if-row-place.true (omega (arith, c.from.ensures)) _ c.awaits.ensures c.if-awaits.true

pub loop-place-preserved : goal.loop-place-preserved
loop-place-preserved c =
    let told = c.in_ok-gather.ensures.rows in
    elim c.else-row-place.branch [
      | else-row-place-via-then-row-place+else-awaits w ↦
          reach-idle _ _ _ _ _ _ told.0 c.if-centre-ge2.false _ c.loop-place.invariant _ told.2 (omega arith) (omega arith) _ w.awaits.ensures w.if-awaits.false
      | else-row-place-via-else-row-place w ↦
          reach-other _ _ _ _ _ _ told.0 c.if-centre-ge2.false _ c.loop-place.invariant _ told.2 (omega arith) (omega arith) _ w.if-row-place.false (omega (arith, c.from.ensures))
    ]

pub returns : goal.returns
returns c = reached-none _ _ _ _ _ _ c.in_ok-gather.ensures.rows.0 c.if-centre-ge2.false _ c.loop-place.invariant (omega arith)
