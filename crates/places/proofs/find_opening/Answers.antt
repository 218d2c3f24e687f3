-- `places::find_opening` meets its contract: each way out by what the pass told and by the place that was looked at. Assumes nothing.
use native.Mathlib.Omega.{arith}
use borrow.Author.Rules.{rules}
use Rattle.places.proofs.Loops.{opening-broken, opening-outside, opening-full, opening-at, free-on}
use Rattle.places.proofs.find_opening.Goals as goal

pub returns-in_err-gather : goal.returns-in_err-gather
returns-in_err-gather c = search (opening-broken, rules)

pub returns-then-centre-ge2 : goal.returns-then-centre-ge2
returns-then-centre-ge2 c = opening-outside _ _ _ _ _ c.in_ok-gather.ensures.rows.0 c.if-centre-ge2.true

pub returns-then-not-is_open : goal.returns-then-not-is_open
returns-then-not-is_open c =
    let told = c.in_ok-gather.ensures.rows in
    opening-at _ _ _ _ _ told.0 c.if-centre-ge2.false _ c.loop-place.invariant _ told.1 told.2 _ _ _ c.is_open.ensures (omega arith) c.if-not-is_open.true (omega arith) c.serial_in.ensures

pub loop-place-preserved : goal.loop-place-preserved
loop-place-preserved c =
    free-on _ _ _ _ c.loop-place.invariant c.is_open.ensures (omega arith) c.if-not-is_open.false

pub returns : goal.returns
returns c = opening-full _ _ _ _ _ c.in_ok-gather.ensures.rows.0 c.if-centre-ge2.false _ c.loop-place.invariant (omega arith)
