-- `places::gather` meets its contract: each way out by what the pass told, and each turn by the place that it looked at. Assumes nothing.
use mathlib.Core.Bool.{not}
use mathlib.Core.Path.{ap}
use borrow.Author.Rules.{rules}
use native.Mathlib.Omega.{arith}
use Rattle.places.proofs.Loops.{gather-breaks, gather-double, looked-free, looked-open, gathered}
use Rattle.places.proofs.Marks.{positive, met-low, met-marked, met-free, met-open}
use Rattle.places.proofs.gather.Goals as goal
use Rattle.places.proofs.gather.Goals.{then-not-is_kept-via-then-not-is_kept, then-not-is_kept-via-else-not-is_kept+then-is_taken}

pub is_taken-requires : goal.is_taken-requires
is_taken-requires c = met-marked _ _ _ _ c.loop-k.invariant.1 c.loop-k-test.true _ (omega arith)

pub returns-then-not-is_kept : goal.returns-then-not-is_kept
returns-then-not-is_kept c =
    let above = positive _ _ c.loop-k-test.true in
    let own = met-low _ _ _ _ c.loop-k.invariant.1 c.loop-k-test.true in
    elim c.then-not-is_kept.branch [
      | then-not-is_kept-via-then-not-is_kept w ↦
          gather-breaks _ _ _ _ _ above c.loop-k.invariant.0 _ c.weigh-weights.ensures c.if-weights-k-ne0.true _ c.is_kept.ensures _ (ap not w.if-not-is_kept.true)
      | then-not-is_kept-via-else-not-is_kept+then-is_taken w ↦
          gather-double _ _ _ _ _ above c.loop-k.invariant.0 _ c.weigh-weights.ensures c.if-weights-k-ne0.true _ c.is_kept.ensures (ap not w.if-not-is_kept.false)
          _ _ own (omega arith) _ (w.is_taken.ensures.value, w.is_taken.ensures.serial_bound) _ w.if-is_taken.true
    ]

pub loop-k-preserved-then-weights-k-ne0 : goal.loop-k-preserved-then-weights-k-ne0
loop-k-preserved-then-weights-k-ne0 c =
    let above = positive _ _ c.loop-k-test.true in
    let own = met-low _ _ _ _ c.loop-k.invariant.1 c.loop-k-test.true in (
      looked-open _ _ _ _ _ above c.loop-k.invariant.0 _ c.weigh-weights.ensures c.if-weights-k-ne0.true _ c.is_kept.ensures (ap not c.if-not-is_kept.false)
          _ _ own (omega arith) _ (c.is_taken.ensures.value, c.is_taken.ensures.serial_bound) _ c.from.ensures c.if-is_taken.false,
      search (met-open, rules),
    )

pub loop-k-preserved : goal.loop-k-preserved
loop-k-preserved c = (search (looked-free, positive, rules), met-free _ _ _ _ c.loop-k.invariant.1 c.loop-k-test.true)

pub returns : goal.returns
returns c = search (gathered, rules)
