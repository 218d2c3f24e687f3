-- "For each public call the statement determines answer, state and every lent byte on all inputs; prove that no two different results
-- satisfy it": over each call's own contract, its `Post`, and not over a copy. Calls that lend nothing. Assumes nothing.
use mathlib.Core.Path.{◌≡◌, sym, ◌∙◌}
use Rattle.devices.proofs.Told.{counted-determined}
use Rattle.label.proofs.Showing.{shown-determined}
use Rattle.place.proofs.Told.{step-determined, mode-decoded, outcome-decoded}
use Rattle.verdict.proofs.Told.{told-determined, told-alone, placed-determined, decoded-determined}
use Rattle.octets.proofs.byte_at.Reads as octets-byte-at
use Rattle.octets.proofs.two_at.Reads as octets-two-at
use Rattle.octets.proofs.four_at.Reads as octets-four-at
use Rattle.octets.proofs.six_at.Reads as octets-six-at
use Rattle.octets.proofs.same_six.Reads as octets-same-six
use Rattle.octets.proofs.two_bytes.Reads as octets-two-bytes
use Rattle.octets.proofs.four_bytes.Reads as octets-four-bytes
use Rattle.octets.proofs.signed.Reads as octets-signed
use Rattle.octets.proofs.bits.Reads as octets-bits
use Rattle.octets.proofs.sum.Reads as octets-sum
use Rattle.octets.proofs.added.Reads as octets-added
use Rattle.verdict.proofs.Verdict.good.Reads as verdict-verdict-good
use Rattle.verdict.proofs.Verdict.is_good.Reads as verdict-verdict-is-good
use Rattle.verdict.proofs.all_numbers.Reads as verdict-all-numbers
use Rattle.naming.proofs.name_of.Reads as naming-name-of
use Rattle.label.proofs.Label.read_at.Reads as label-label-read-at
use Rattle.label.proofs.Label.bytes.Reads as label-label-bytes
use Rattle.label.proofs.Label.judge.Reads as label-label-judge
use Rattle.label.proofs.Label.is_allowed.Reads as label-label-is-allowed
use Rattle.label.proofs.Label.stands_in.Reads as label-label-stands-in
use Rattle.label.proofs.Label.shown.Reads as label-label-shown
use Rattle.kinds.proofs.row_of.Reads as kinds-row-of
use Rattle.kinds.proofs.length_for.Reads as kinds-length-for
use Rattle.kinds.proofs.Row.is_carried_by.Reads as kinds-row-is-carried-by
use Rattle.unit.proofs.judge_alone.Reads as unit-judge-alone
use Rattle.unit.proofs.judge_under.Reads as unit-judge-under
use Rattle.unit.proofs.object_place.Reads as unit-object-place
use Rattle.fields.proofs.Fields.of.Reads as fields-of
use Rattle.unit.proofs.judge.Reads as unit-judge
use Rattle.unit.proofs.place_in.Reads as unit-place-in
use Rattle.typed.proofs.read.Reads as typed-read
use Rattle.typed.proofs.description_place.Reads as typed-description-place
use Rattle.frame.proofs.unit_length.Reads as frame-unit-length
use Rattle.frame.proofs.judge_frame.Reads as frame-judge-frame
use Rattle.packet.proofs.judge_content.Reads as packet-judge-content
use Rattle.packet.proofs.judge.Reads as packet-judge
use Rattle.packet.proofs.header_of.Reads as packet-header-of
use Rattle.packet.proofs.read.Reads as packet-read
use Rattle.packet.proofs.unit_place.Reads as packet-unit-place
use Rattle.rows.proofs.less.Reads as rows-less
use Rattle.rows.proofs.clear.Reads as rows-clear
use Rattle.rows.proofs.noise.Reads as rows-noise
use Rattle.receiver.proofs.Receiver.fresh.Reads as receiver-receiver-fresh
use Rattle.place.proofs.is_open.Reads as place-is-open
use Rattle.place.proofs.awaits.Reads as place-awaits
use Rattle.place.proofs.all_outcomes.Reads as place-all-outcomes
use Rattle.place.proofs.Place.free.Reads as place-place-free
use Rattle.place.proofs.Place.denied.Reads as place-place-denied
use Rattle.place.proofs.Place.weight.Reads as place-place-weight
use Rattle.place.proofs.Place.replied.Reads as place-place-replied
use Rattle.places.proofs.find_opening.Reads as places-find-opening
use Rattle.places.proofs.after.Reads as places-after
use Rattle.places.proofs.find_fitting.Reads as places-find-fitting
use Rattle.places.proofs.tick_all.Reads as places-tick-all
use Rattle.exchange.proofs.Exchanges.fresh.Reads as exchange-exchanges-fresh
use Rattle.exchange.proofs.Exchanges.reply.Reads as exchange-exchanges-reply
use Rattle.exchange.proofs.Exchanges.tick.Reads as exchange-exchanges-tick
use Rattle.taking.proofs.take.Reads as taking-take
use Rattle.devices.proofs.judge.Reads as devices-judge
use Rattle.devices.proofs.find_place.Reads as devices-find-place
use Rattle.reply.proofs.Due.command.Reads as reply-due-command
use Rattle.octets.proofs.wide.Reads as octets-wide
use Rattle.verdict.proofs.Refusal.number.Reads as verdict-refusal-number
use Rattle.verdict.proofs.Refusal.name.Reads as verdict-refusal-name
use Rattle.verdict.proofs.Refusal.at.Reads as verdict-refusal-at
use Rattle.verdict.proofs.ensure.Reads as verdict-ensure
use Rattle.reading.proofs.Event.number.Reads as reading-event-number
use Rattle.reading.proofs.Event.length.Reads as reading-event-length
use Rattle.reading.proofs.Event.name.Reads as reading-event-name
use Rattle.label.proofs.Shown.number.Reads as label-shown-number
use Rattle.place.proofs.Mode.number.Reads as place-mode-number
use Rattle.place.proofs.Outcome.number.Reads as place-outcome-number
use Rattle.place.proofs.Outcome.name.Reads as place-outcome-name
use Rattle.exchange.proofs.Exchanges.untold.Reads as exchange-exchanges-untold
use Rattle.verdict.proofs.RefusalTryFromU8.try_from.Reads as verdict-refusal-try-from-u8
use Rattle.verdict.proofs.RefusedFromRefusal.from.Reads as verdict-refused-from-refusal
use Rattle.verdict.proofs.VerdictFromRefused.from.Reads as verdict-verdict-from-refused
use Rattle.verdict.proofs.VerdictFromResultRefused.from.Reads as verdict-verdict-from-result-refused
use Rattle.verdict.proofs.PartFromResultRangeUsizeRefused.from.Reads as verdict-part-from-result-range-refused
use Rattle.label.proofs.LabelFromArrayU86.from.Reads as label-label-from-array
use Rattle.label.proofs.ArrayU86FromLabel.from.Reads as label-array-from-label
use Rattle.typed.proofs.TypedFromRefused.from.Reads as typed-typed-from-refused
use Rattle.place.proofs.ModeTryFromU16.try_from.Reads as place-mode-try-from-u16
use Rattle.place.proofs.OutcomeTryFromU8.try_from.Reads as place-outcome-try-from-u8
use Rattle.exchange.proofs.AddressPartialEq.eq.Reads as exchange-address-partial-eq
use Rattle.devices.proofs.ArrayU87FromPartKey.from.Reads as devices-array-from-part-key
use Rattle.devices.proofs.JudgementFromResultCountsRefused.from.Reads as devices-judgement-from-result
use Rattle.lines.proofs.row.LineDerefSlice.deref.Reads as lines-row-line-deref

pub octets-byte-at-determined : (κs : _) (x : _) (r s : _) → octets-byte-at.Post κs x r x → octets-byte-at.Post κs x s x → r ≡ s
octets-byte-at-determined κs x r s a b = a ∙ sym b

pub octets-two-at-determined : (κs : _) (x : _) (r s : _) → octets-two-at.Post κs x r x → octets-two-at.Post κs x s x → r ≡ s
octets-two-at-determined κs x r s a b = a ∙ sym b

pub octets-four-at-determined : (κs : _) (x : _) (r s : _) → octets-four-at.Post κs x r x → octets-four-at.Post κs x s x → r ≡ s
octets-four-at-determined κs x r s a b = a ∙ sym b

pub octets-six-at-determined : (κs : _) (x : _) (r s : _) → octets-six-at.Post κs x r x → octets-six-at.Post κs x s x → r ≡ s
octets-six-at-determined κs x r s a b = a ∙ sym b

pub octets-same-six-determined : (κs : _) (x : _) (r s : _) → octets-same-six.Post κs x r x → octets-same-six.Post κs x s x → r ≡ s
octets-same-six-determined κs x r s a b = a ∙ sym b

pub octets-two-bytes-determined : (κs : _) (x : _) (r s : _) → octets-two-bytes.Post κs x r x → octets-two-bytes.Post κs x s x → r ≡ s
octets-two-bytes-determined κs x r s a b = a ∙ sym b

pub octets-four-bytes-determined : (κs : _) (x : _) (r s : _) → octets-four-bytes.Post κs x r x → octets-four-bytes.Post κs x s x → r ≡ s
octets-four-bytes-determined κs x r s a b = a ∙ sym b

pub octets-signed-determined : (κs : _) (x : _) (r s : _) → octets-signed.Post κs x r x → octets-signed.Post κs x s x → r ≡ s
octets-signed-determined κs x r s a b = a ∙ sym b

pub octets-bits-determined : (κs : _) (x : _) (r s : _) → octets-bits.Post κs x r x → octets-bits.Post κs x s x → r ≡ s
octets-bits-determined κs x r s a b = a ∙ sym b

pub octets-sum-determined : (κs : _) (x : _) (r s : _) → octets-sum.Post κs x r x → octets-sum.Post κs x s x → r ≡ s
octets-sum-determined κs x r s a b = a ∙ sym b

pub octets-added-determined : (κs : _) (x : _) (r s : _) → octets-added.Post κs x r x → octets-added.Post κs x s x → r ≡ s
octets-added-determined κs x r s a b = a.0 ∙ sym b.0

pub verdict-verdict-good-determined : (κs : _) (x : _) (r s : _) → verdict-verdict-good.Post κs x r x → verdict-verdict-good.Post κs x s x → r ≡ s
verdict-verdict-good-determined κs x r s a b = a ∙ sym b

pub verdict-verdict-is-good-determined : (κs : _) (x : _) (r s : _) → verdict-verdict-is-good.Post κs x r x → verdict-verdict-is-good.Post κs x s x → r ≡ s
verdict-verdict-is-good-determined κs x r s a b = a ∙ sym b

pub verdict-all-numbers-determined : (κs : _) (x : _) (r s : _) → verdict-all-numbers.Post κs x r x → verdict-all-numbers.Post κs x s x → r ≡ s
verdict-all-numbers-determined κs x r s a b = a ∙ sym b

pub naming-name-of-determined : (κs : _) (x : _) (r s : _) → naming-name-of.Post κs x r x → naming-name-of.Post κs x s x → r.now ≡ s.now
naming-name-of-determined κs x r s a b = a ∙ sym b

pub label-label-read-at-determined : (κs : _) (x : _) (r s : _) → label-label-read-at.Post κs x r x → label-label-read-at.Post κs x s x → r ≡ s
label-label-read-at-determined κs x r s a b = a ∙ sym b

pub label-label-bytes-determined : (κs : _) (x : _) (r s : _) → label-label-bytes.Post κs x r x → label-label-bytes.Post κs x s x → r ≡ s
label-label-bytes-determined κs x r s a b = a ∙ sym b

pub label-label-judge-determined : (κs : _) (x : _) (r s : _) → label-label-judge.Post κs x r x → label-label-judge.Post κs x s x → r ≡ s
label-label-judge-determined κs x r s a b = a ∙ sym b

pub label-label-is-allowed-determined : (κs : _) (x : _) (r s : _) → label-label-is-allowed.Post κs x r x → label-label-is-allowed.Post κs x s x → r ≡ s
label-label-is-allowed-determined κs x r s a b = a ∙ sym b

pub label-label-stands-in-determined : (κs : _) (x : _) (r s : _) → label-label-stands-in.Post κs x r x → label-label-stands-in.Post κs x s x → r ≡ s
label-label-stands-in-determined κs x r s a b = a ∙ sym b

pub label-label-shown-determined : (κs : _) (x : _) (r s : _) → label-label-shown.Post κs x r x → label-label-shown.Post κs x s x → r ≡ s
label-label-shown-determined κs x r s a b = shown-determined _ r s a b

pub kinds-row-of-determined : (κs : _) (x : _) (r s : _) → kinds-row-of.Post κs x r x → kinds-row-of.Post κs x s x → r ≡ s
kinds-row-of-determined κs x r s a b = a ∙ sym b

pub kinds-length-for-determined : (κs : _) (x : _) (r s : _) → kinds-length-for.Post κs x r x → kinds-length-for.Post κs x s x → r ≡ s
kinds-length-for-determined κs x r s a b = a ∙ sym b

pub kinds-row-is-carried-by-determined : (κs : _) (x : _) (r s : _) → kinds-row-is-carried-by.Post κs x r x → kinds-row-is-carried-by.Post κs x s x → r ≡ s
kinds-row-is-carried-by-determined κs x r s a b = a ∙ sym b

pub unit-judge-alone-determined : (κs : _) (x : _) (r s : _) → unit-judge-alone.Post κs x r x → unit-judge-alone.Post κs x s x → r ≡ s
unit-judge-alone-determined κs x r s a b = told-alone _ r s a b

pub unit-judge-under-determined : (κs : _) (x : _) (r s : _) → unit-judge-under.Post κs x r x → unit-judge-under.Post κs x s x → r ≡ s
unit-judge-under-determined κs x r s a b = told-alone _ r s a b

pub unit-object-place-determined : (κs : _) (x : _) (r s : _) → unit-object-place.Post κs x r x → unit-object-place.Post κs x s x → r ≡ s
unit-object-place-determined κs x r s a b = placed-determined _ r s a b

pub fields-of-determined : (κs : _) (x : _) (r s : _) → fields-of.Post κs x r x → fields-of.Post κs x s x → r ≡ s
fields-of-determined κs x r s a b = a ∙ sym b

pub unit-judge-determined : (κs : _) (x : _) (r s : _) → unit-judge.Post κs x r x → unit-judge.Post κs x s x → r ≡ s
unit-judge-determined κs x r s a b = told-determined _ _ r s a.0 a.1.0 b.0 b.1.0

pub unit-place-in-determined : (κs : _) (x : _) (r s : _) → unit-place-in.Post κs x r x → unit-place-in.Post κs x s x → r ≡ s
unit-place-in-determined κs x r s a b = placed-determined _ r s a b

pub rows-less-determined : (κs : _) (x : _) (r s : _) → rows-less.Post κs x r x → rows-less.Post κs x s x → r ≡ s
rows-less-determined κs x r s a b = a ∙ sym b

pub rows-clear-determined : (κs : _) (x : _) (r s : _) → rows-clear.Post κs x r x → rows-clear.Post κs x s x → r ≡ s
rows-clear-determined κs x r s a b = a ∙ sym b

pub rows-noise-determined : (κs : _) (x : _) (r s : _) → rows-noise.Post κs x r x → rows-noise.Post κs x s x → r ≡ s
rows-noise-determined κs x r s a b = a ∙ sym b

pub typed-read-determined : (κs : _) (x : _) (r s : _) → typed-read.Post κs x r x → typed-read.Post κs x s x → r ≡ s
typed-read-determined κs x r s a b = a ∙ sym b

pub typed-description-place-determined : (κs : _) (x : _) (r s : _) → typed-description-place.Post κs x r x → typed-description-place.Post κs x s x → r ≡ s
typed-description-place-determined κs x r s a b = placed-determined _ r s a b

pub frame-unit-length-determined : (κs : _) (x : _) (r s : _) → frame-unit-length.Post κs x r x → frame-unit-length.Post κs x s x → r ≡ s
frame-unit-length-determined κs x r s a b = a.0 ∙ sym b.0

pub frame-judge-frame-determined : (κs : _) (x : _) (r s : _) → frame-judge-frame.Post κs x r x → frame-judge-frame.Post κs x s x → r ≡ s
frame-judge-frame-determined κs x r s a b = told-determined _ _ r s a.0 a.1 b.0 b.1

pub packet-judge-content-determined : (κs : _) (x : _) (r s : _) → packet-judge-content.Post κs x r x → packet-judge-content.Post κs x s x → r ≡ s
packet-judge-content-determined κs x r s a b = told-alone _ r s a b

pub packet-judge-determined : (κs : _) (x : _) (r s : _) → packet-judge.Post κs x r x → packet-judge.Post κs x s x → r ≡ s
packet-judge-determined κs x r s a b = told-determined _ _ r s a.0 a.1 b.0 b.1

pub packet-header-of-determined : (κs : _) (x : _) (r s : _) → packet-header-of.Post κs x r x → packet-header-of.Post κs x s x → r ≡ s
packet-header-of-determined κs x r s a b = a ∙ sym b

pub packet-read-determined : (κs : _) (x : _) (r s : _) → packet-read.Post κs x r x → packet-read.Post κs x s x → r ≡ s
packet-read-determined κs x r s a b = a ∙ sym b

pub packet-unit-place-determined : (κs : _) (x : _) (r s : _) → packet-unit-place.Post κs x r x → packet-unit-place.Post κs x s x → r ≡ s
packet-unit-place-determined κs x r s a b = placed-determined _ r s a b

pub receiver-receiver-fresh-determined : (κs : _) (x : _) (r s : _) → receiver-receiver-fresh.Post κs x r x → receiver-receiver-fresh.Post κs x s x → r ≡ s
receiver-receiver-fresh-determined κs x r s a b = a ∙ sym b

pub place-is-open-determined : (κs : _) (x : _) (r s : _) → place-is-open.Post κs x r x → place-is-open.Post κs x s x → r ≡ s
place-is-open-determined κs x r s a b = a ∙ sym b

pub place-awaits-determined : (κs : _) (x : _) (r s : _) → place-awaits.Post κs x r x → place-awaits.Post κs x s x → r ≡ s
place-awaits-determined κs x r s a b = a ∙ sym b

pub place-place-free-determined : (κs : _) (x : _) (r s : _) → place-place-free.Post κs x r x → place-place-free.Post κs x s x → r ≡ s
place-place-free-determined κs x r s a b = a ∙ sym b

pub place-place-denied-determined : (κs : _) (x : _) (r s : _) → place-place-denied.Post κs x r x → place-place-denied.Post κs x s x → r ≡ s
place-place-denied-determined κs x r s a b = step-determined _ r s a b

pub place-place-weight-determined : (κs : _) (x : _) (r s : _) → place-place-weight.Post κs x r x → place-place-weight.Post κs x s x → r ≡ s
place-place-weight-determined κs x r s a b = a.1 ∙ sym b.1

pub place-place-replied-determined : (κs : _) (x : _) (r s : _) → place-place-replied.Post κs x r x → place-place-replied.Post κs x s x → r ≡ s
place-place-replied-determined κs x r s a b = step-determined _ r s a b

pub places-find-opening-determined : (κs : _) (x : _) (r s : _) → places-find-opening.Post κs x r x → places-find-opening.Post κs x s x → r ≡ s
places-find-opening-determined κs x r s a b = a ∙ sym b

pub places-after-determined : (κs : _) (x : _) (r s : _) → places-after.Post κs x r x → places-after.Post κs x s x → r ≡ s
places-after-determined κs x r s a b = a ∙ sym b

pub places-find-fitting-determined : (κs : _) (x : _) (r s : _) → places-find-fitting.Post κs x r x → places-find-fitting.Post κs x s x → r ≡ s
places-find-fitting-determined κs x r s a b = a ∙ sym b

pub places-tick-all-determined : (κs : _) (x : _) (r s : _) → places-tick-all.Post κs x r x → places-tick-all.Post κs x s x → r ≡ s
places-tick-all-determined κs x r s a b = a ∙ sym b

pub exchange-exchanges-fresh-determined : (κs : _) (x : _) (r s : _) → exchange-exchanges-fresh.Post κs x r x → exchange-exchanges-fresh.Post κs x s x → r ≡ s
exchange-exchanges-fresh-determined κs x r s a b = a ∙ sym b

pub exchange-exchanges-reply-determined : (κs : _) (x : _) (r s : _) → exchange-exchanges-reply.Post κs x r x → exchange-exchanges-reply.Post κs x s x → r ≡ s
exchange-exchanges-reply-determined κs x r s a b = a ∙ sym b

pub exchange-exchanges-tick-determined : (κs : _) (x : _) (r s : _) → exchange-exchanges-tick.Post κs x r x → exchange-exchanges-tick.Post κs x s x → r ≡ s
exchange-exchanges-tick-determined κs x r s a b = a ∙ sym b

pub taking-take-determined : (κs : _) (x : _) (r s : _) → taking-take.Post κs x r x → taking-take.Post κs x s x → r ≡ s
taking-take-determined κs x r s a b = a ∙ sym b

pub devices-judge-determined : (κs : _) (x : _) (r s : _) → devices-judge.Post κs x r x → devices-judge.Post κs x s x → r ≡ s
devices-judge-determined κs x r s a b = counted-determined _ r s a b

pub devices-find-place-determined : (κs : _) (x : _) (r s : _) → devices-find-place.Post κs x r x → devices-find-place.Post κs x s x → r ≡ s
devices-find-place-determined κs x r s a b = placed-determined _ r s a b

pub octets-wide-determined : (κs : _) (x : _) (r s : _) → octets-wide.Post κs x r x → octets-wide.Post κs x s x → r ≡ s
octets-wide-determined κs x r s a b = a.0 ∙ sym b.0

pub reply-due-command-determined : (κs : _) (x : _) (r s : _) → reply-due-command.Post κs x r x → reply-due-command.Post κs x s x → r ≡ s
reply-due-command-determined κs x r s a b = a ∙ sym b

pub place-all-outcomes-determined : (κs : _) (x : _) (r s : _) → place-all-outcomes.Post κs x r x → place-all-outcomes.Post κs x s x → r ≡ s
place-all-outcomes-determined κs x r s a b = a ∙ sym b

pub verdict-refusal-number-determined : (κs : _) (x : _) (r s : _) → verdict-refusal-number.Post κs x r x → verdict-refusal-number.Post κs x s x → r ≡ s
verdict-refusal-number-determined κs x r s a b = a ∙ sym b

pub verdict-refusal-name-determined : (κs : _) (x : _) (r s : _) → verdict-refusal-name.Post κs x r x → verdict-refusal-name.Post κs x s x → r.now ≡ s.now
verdict-refusal-name-determined κs x r s a b = a ∙ sym b

pub verdict-refusal-at-determined : (κs : _) (x : _) (r s : _) → verdict-refusal-at.Post κs x r x → verdict-refusal-at.Post κs x s x → r ≡ s
verdict-refusal-at-determined κs x r s a b = a ∙ sym b

pub verdict-ensure-determined : (κs : _) (x : _) (r s : _) → verdict-ensure.Post κs x r x → verdict-ensure.Post κs x s x → r ≡ s
verdict-ensure-determined κs x r s a b = a ∙ sym b

pub reading-event-number-determined : (κs : _) (x : _) (r s : _) → reading-event-number.Post κs x r x → reading-event-number.Post κs x s x → r ≡ s
reading-event-number-determined κs x r s a b = a ∙ sym b

pub reading-event-length-determined : (κs : _) (x : _) (r s : _) → reading-event-length.Post κs x r x → reading-event-length.Post κs x s x → r ≡ s
reading-event-length-determined κs x r s a b = a ∙ sym b

pub reading-event-name-determined : (κs : _) (x : _) (r s : _) → reading-event-name.Post κs x r x → reading-event-name.Post κs x s x → r.now ≡ s.now
reading-event-name-determined κs x r s a b = a ∙ sym b

pub label-shown-number-determined : (κs : _) (x : _) (r s : _) → label-shown-number.Post κs x r x → label-shown-number.Post κs x s x → r ≡ s
label-shown-number-determined κs x r s a b = a ∙ sym b

pub place-mode-number-determined : (κs : _) (x : _) (r s : _) → place-mode-number.Post κs x r x → place-mode-number.Post κs x s x → r ≡ s
place-mode-number-determined κs x r s a b = a ∙ sym b

pub place-outcome-number-determined : (κs : _) (x : _) (r s : _) → place-outcome-number.Post κs x r x → place-outcome-number.Post κs x s x → r ≡ s
place-outcome-number-determined κs x r s a b = a ∙ sym b

pub place-outcome-name-determined : (κs : _) (x : _) (r s : _) → place-outcome-name.Post κs x r x → place-outcome-name.Post κs x s x → r.now ≡ s.now
place-outcome-name-determined κs x r s a b = a ∙ sym b

pub exchange-exchanges-untold-determined : (κs : _) (x : _) (r s : _) → exchange-exchanges-untold.Post κs x r x → exchange-exchanges-untold.Post κs x s x → r ≡ s
exchange-exchanges-untold-determined κs x r s a b = a ∙ sym b

pub verdict-refusal-try-from-u8-determined : (κs : _) (x : _) (r s : _) → verdict-refusal-try-from-u8.Post κs x r x → verdict-refusal-try-from-u8.Post κs x s x → r ≡ s
verdict-refusal-try-from-u8-determined κs x r s a b = decoded-determined _ r s a b

pub verdict-refused-from-refusal-determined : (κs : _) (x : _) (r s : _) → verdict-refused-from-refusal.Post κs x r x → verdict-refused-from-refusal.Post κs x s x → r ≡ s
verdict-refused-from-refusal-determined κs x r s a b = a ∙ sym b

pub verdict-verdict-from-refused-determined : (κs : _) (x : _) (r s : _) → verdict-verdict-from-refused.Post κs x r x → verdict-verdict-from-refused.Post κs x s x → r ≡ s
verdict-verdict-from-refused-determined κs x r s a b = a ∙ sym b

pub verdict-verdict-from-result-refused-determined : (g : _) (l : _) (c : _) (h : _) (d : _) (κs : _) (x : _) (r s : _) → verdict-verdict-from-result-refused.Post g l c h d κs x r x → verdict-verdict-from-result-refused.Post g l c h d κs x s x → r ≡ s
verdict-verdict-from-result-refused-determined g l c h d κs x r s a b = a ∙ sym b

pub verdict-part-from-result-range-refused-determined : (κs : _) (x : _) (r s : _) → verdict-part-from-result-range-refused.Post κs x r x → verdict-part-from-result-range-refused.Post κs x s x → r ≡ s
verdict-part-from-result-range-refused-determined κs x r s a b = a ∙ sym b

pub label-label-from-array-determined : (κs : _) (x : _) (r s : _) → label-label-from-array.Post κs x r x → label-label-from-array.Post κs x s x → r ≡ s
label-label-from-array-determined κs x r s a b = a ∙ sym b

pub label-array-from-label-determined : (κs : _) (x : _) (r s : _) → label-array-from-label.Post κs x r x → label-array-from-label.Post κs x s x → r ≡ s
label-array-from-label-determined κs x r s a b = a ∙ sym b

pub typed-typed-from-refused-determined : (κs : _) (x : _) (r s : _) → typed-typed-from-refused.Post κs x r x → typed-typed-from-refused.Post κs x s x → r ≡ s
typed-typed-from-refused-determined κs x r s a b = a ∙ sym b

pub place-mode-try-from-u16-determined : (κs : _) (x : _) (r s : _) → place-mode-try-from-u16.Post κs x r x → place-mode-try-from-u16.Post κs x s x → r ≡ s
place-mode-try-from-u16-determined κs x r s a b = mode-decoded _ r s a b

pub place-outcome-try-from-u8-determined : (κs : _) (x : _) (r s : _) → place-outcome-try-from-u8.Post κs x r x → place-outcome-try-from-u8.Post κs x s x → r ≡ s
place-outcome-try-from-u8-determined κs x r s a b = outcome-decoded _ r s a b

pub exchange-address-partial-eq-determined : (κs : _) (x : _) (r s : _) → exchange-address-partial-eq.Post κs x r x → exchange-address-partial-eq.Post κs x s x → r ≡ s
exchange-address-partial-eq-determined κs x r s a b = a ∙ sym b

pub devices-array-from-part-key-determined : (κs : _) (x : _) (r s : _) → devices-array-from-part-key.Post κs x r x → devices-array-from-part-key.Post κs x s x → r ≡ s
devices-array-from-part-key-determined κs x r s a b = a ∙ sym b

pub devices-judgement-from-result-determined : (κs : _) (x : _) (r s : _) → devices-judgement-from-result.Post κs x r x → devices-judgement-from-result.Post κs x s x → r ≡ s
devices-judgement-from-result-determined κs x r s a b = a ∙ sym b

pub lines-row-line-deref-determined : (g : _) (l : _) (κs : _) (x : _) (r s : _) → lines-row-line-deref.Post g l κs x r x → lines-row-line-deref.Post g l κs x s x → r.now ≡ s.now
lines-row-line-deref-determined g l κs x r s a b = a ∙ sym b
