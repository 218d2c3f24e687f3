-- `places::sweep` meets its contract: each way out by what the pass told, and each turn by the place that it looked at. Assumes nothing.
use mathlib.Core.Bool.{not}
use mathlib.Core.Path.{ap}
use borrow.Author.Rules.{rules}
use native.Mathlib.Omega.{arith}
use Rattle.places.proofs.Loops.{looked-none, looked-free, looked-open, sweep-breaks, sweep-double}
use Rattle.places.proofs.Marks.{positive, met-low, met-marked, met-free, met-open}
use Rattle.places.proofs.Sweeping.{silent, first-holds, none-swept, young-swept, old-swept, zero-swept, all-swept}
use Rattle.places.proofs.sweep.Goals as goal

pub is_taken-requires : goal.is_taken-requires
is_taken-requires c = met-marked _ _ _ _ c.loop-k.invariant.1 c.loop-k-test.true _ (omega arith)

pub returns-then-not-is_kept : goal.returns-then-not-is_kept
returns-then-not-is_kept c =
    sweep-breaks _ _ _ _ _ (positive _ _ c.loop-k-test.true) c.loop-k.invariant.0.0 _ c.weigh-weights.ensures c.if-weights-k-ne0.true _ c.is_kept.ensures
    (ap not c.if-not-is_kept.true)

pub returns-then-is_taken : goal.returns-then-is_taken
returns-then-is_taken c =
    let above = positive _ _ c.loop-k-test.true in
    let own = met-low _ _ _ _ c.loop-k.invariant.1 c.loop-k-test.true in
    sweep-double _ _ _ _ _ above c.loop-k.invariant.0.0 _ c.weigh-weights.ensures c.if-weights-k-ne0.true _ c.is_kept.ensures (ap not c.if-not-is_kept.false)
    _ _ own (omega arith) _ (c.is_taken.ensures.value, c.is_taken.ensures.serial_bound) c.if-is_taken.true

pub loop-centre-init : goal.loop-centre-init
loop-centre-init c = (looked-none _ _ _, none-swept _ _ _ (search (c.well_formed, rules)) _ (silent _ c.default-reports.ensures))

pub loop-k-preserved-then-from : goal.loop-k-preserved-then-from
loop-k-preserved-then-from c =
    let above = positive _ _ c.loop-k-test.true in
    let own = met-low _ _ _ _ c.loop-k.invariant.1 c.loop-k-test.true in
    let inv = c.loop-k.invariant.0 in (
      (
        looked-open _ _ _ _ _ above inv.0 _ c.weigh-weights.ensures c.if-weights-k-ne0.true _ c.is_kept.ensures (ap not c.if-not-is_kept.false)
            _ _ own (omega arith) _ (c.is_taken.ensures.value, c.is_taken.ensures.serial_bound) _ c.from.ensures c.if-is_taken.false,
        young-swept _ _ _ (search (c.well_formed, rules)) _ _ _ above inv.0.few inv.1
            (first-holds _ _ _ c.is_kept.ensures c.if-not-is_kept.false) _
            (omega (arith, c.if-from.true, c.from-then-weights-k-ne0.ensures, c.from-then-weights-k-ne0-2.ensures)) c.told.ensures,
      ),
      search (met-open, rules),
    )

pub loop-k-preserved-else-from : goal.loop-k-preserved-else-from
loop-k-preserved-else-from c =
    let above = positive _ _ c.loop-k-test.true in
    let own = met-low _ _ _ _ c.loop-k.invariant.1 c.loop-k-test.true in
    let inv = c.loop-k.invariant.0 in (
      (
        looked-open _ _ _ _ _ above inv.0 _ c.weigh-weights.ensures c.if-weights-k-ne0.true _ c.is_kept.ensures (ap not c.if-not-is_kept.false)
            _ _ own (omega arith) _ (c.is_taken.ensures.value, c.is_taken.ensures.serial_bound) _ c.from.ensures c.if-is_taken.false,
        old-swept _ _ _ (search (c.well_formed, rules)) _ _ _ above inv.0.few inv.1
            (first-holds _ _ _ c.is_kept.ensures c.if-not-is_kept.false) _ _
            (omega (arith, c.if-from.false, c.from-then-weights-k-ne0.ensures, c.from-then-weights-k-ne0-2.ensures)) c.denied-step.ensures c.told-else-from.ensures,
      ),
      search (met-open, rules),
    )

pub loop-k-preserved : goal.loop-k-preserved
loop-k-preserved c = (
  (search (looked-free, positive, rules), search (zero-swept, positive, rules)),
  met-free _ _ _ _ c.loop-k.invariant.1 c.loop-k-test.true,
)

pub returns : goal.returns
returns c = all-swept _ _ _ (search (c.well_formed, rules)) _ _ _ _ (omega arith) c.loop-centre.invariant.0 c.loop-centre.invariant.1
