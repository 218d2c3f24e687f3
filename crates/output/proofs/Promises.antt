-- Demand 2 over the calls' definitions: an accepted packet written again from its fields has the same bytes, and a packet that we
-- write is accepted and reads back as the same fields and unit. Assumes nothing.
use Prim.Native.Nat.{ℕ, ◌+◌, ◌-◌, ◌≤◌}
use native.Mathlib.Omega.{arith}
use mathlib.Core.Bool.{Bool, true, false, cond, false≢true}
use mathlib.Core.List.{List, ◌++◌}
use mathlib.Core.Logic.{◌↔◌}
use mathlib.Core.Path.{◌≡◌, refl, sym, ap, ◌∙◌}
use borrow.Author.Tests.{le-leb}
use lib.ListN.{length, take, drop}
use lib.Seq.{take_at, drop_at}
use Rattle.frame.specs.Frame.{unit_length, frame_tests}
use Rattle.kinds.specs.declared.Row.{Row}
use Rattle.label.specs.declared.Label.{Label}
use Rattle.label.specs.Times.{label_of, judged, allowed, SHOWN_NOTHING}
use Rattle.octets.specs.Numbers.{Octets}
use Rattle.octets.specs.Parts.{part, put_at}
use Rattle.octets.proofs.Parts.{length_part, put-from, put-after}
use Rattle.packet.specs.declared.Header.{Header}
use Rattle.packet.specs.declared.Opened.{Opened}
use Rattle.packet.specs.Frames.{command_of, unit_of, header_tests, judged_content, judged_packet}
use Rattle.packet.specs.Headers.{header_of, no_header, showing, opened_packet}
use Rattle.output.specs.Packets.{packet_bytes}
use Rattle.unit.specs.Units.{is_command, judged_under}
use Rattle.verdict.specs.declared.Verdict.{Verdict}
use Rattle.verdict.specs.Orders.{in_order, is_good}
use Rattle.verdict.proofs.Order.{good-held, all-passed}
use Rattle.output.specs.Writing.{room_tests, field_tests, packet_verdict, written_packet}
use Rattle.output.proofs.Judging.{packet-roomy, sealed}
use Rattle.output.proofs.Back.{accepted, packet-back}
use Rattle.output.proofs.Sent.{Fitting, header-sent, length-sent, unit-sent, judged-sent, sent-long}

-- bytes put at the front of a row are its beginning
pub front : (o q : List ℕ) → length q ≤ length o → take (length q) (put_at o 0 q) ≡ q
front o q h = ap (take (length q)) (put-from o 0 q (omega arith)) ∙ take_at q (drop (0 + length q) o) (length q) refl

-- an accepted packet, and any output with room for it in which its unit stands
module _ (rs : List Row) (p : List ℕ) (bytes : Octets p) (g : is_good (judged_packet rs p) ≡ true) (out : List ℕ)
    (room : 30 + unit_length p ≤ length out) (stands : part out 27 (27 + unit_length p) ≡ unit_of p) where
  -- the writer takes the packet's own fields
  pub again-good : is_good (packet_verdict rs out (header_of p) (unit_length p)) ≡ true
  unfolding packet_verdict judged_packet judged_content
  again-good =
      let ok = accepted rs p g in
      let content = (good-held (frame_tests 1024 p) (judged_content rs p) refl g).1 in
      let h = good-held (header_tests p) (judged_under rs (command_of p) (unit_of p)) refl content in
      ap is_good
      (all-passed (room_tests out (unit_length p) 30) _ (le-leb (unit_length p) 1024 ok.frame.few, (le-leb (30 + unit_length p) (length out) room, tt))
      ∙ all-passed (field_tests (header_of p)) _ (h.0.1.0, (h.0.1.1.0, tt))
      ∙ ap (judged_under rs (command_of p)) stands)
      ∙ h.1

  -- "An accepted packet, written again from its fields, has the same bytes"; "A writer leaves bytes beyond what it writes as they were"
  pub written-again : written_packet rs out (header_of p) (unit_length p) ≡ p ++ drop (30 + unit_length p) out
  written-again =
      let ok = accepted rs p g in
      let end : 0 + length p ≡ 30 + unit_length p = omega (arith, ok.frame.long) in
      sym (sealed rs out (header_of p) (unit_length p) again-good)
      ∙ ap (λ (u : List ℕ). put_at out 0 (packet_bytes (header_of p) u)) stands
      ∙ ap (put_at out 0) (packet-back p bytes ok)
      ∙ put-from out 0 p (omega (arith, ok.frame.long))
      ∙ ap (λ (n : ℕ). p ++ drop n out) end

  pub again-there : take (30 + unit_length p) (written_packet rs out (header_of p) (unit_length p)) ≡ p
  again-there =
      ap (take (30 + unit_length p)) written-again ∙ take_at p (drop (30 + unit_length p) out) (30 + unit_length p) (accepted rs p g).frame.long

  pub again-beyond : drop (30 + unit_length p) (written_packet rs out (header_of p) (unit_length p)) ≡ drop (30 + unit_length p) out
  again-beyond =
      ap (drop (30 + unit_length p)) written-again ∙ drop_at p (drop (30 + unit_length p) out) (30 + unit_length p) (accepted rs p g).frame.long

-- what the reader answers of an accepted packet
pub opened-is : (rs : List Row) (p : List ℕ) → is_good (opened_packet rs p).verdict ≡ true
    → (is_good (judged_packet rs p) ≡ true)
    × ◌≡◌ {A = Opened} (opened_packet rs p) (showing (judged_packet rs p) (header_of p) (unit_length p))
unfolding opened_packet
opened-is rs p = by-test (is_good (judged_packet rs p)) refl
  where
    v : Verdict
    v = judged_packet rs p

    taken : Opened
    taken = showing v (header_of p) (unit_length p)

    refused : Opened
    refused = record { verdict = v; header = no_header; shown = SHOWN_NOTHING; length = 0 }

    by-test : (b : Bool) → is_good v ≡ b → is_good (cond b taken refused).verdict ≡ true → (is_good v ≡ true) × (cond b taken refused ≡ taken)
    by-test true e g = (e, refl)
    by-test false e g = (g, absurd (false≢true (sym e ∙ g)))

module _ (rs : List Row) (out : List ℕ) (h : Header) (l : ℕ) (fit : Fitting h) (g : is_good (packet_verdict rs out h l) ≡ true) where
  room : (l ≤ 1024) × (30 + l ≤ length out)
  room = packet-roomy rs out h l g

  u-long : length (part out 27 (27 + l)) ≡ l
  u-long = let n : 27 + l - 27 ≡ l = omega arith in length_part out 27 (27 + l) (omega arith) (omega (arith, room)) ∙ n

  few : length (part out 27 (27 + l)) ≤ 1024
  few = omega (arith, u-long, room)

  -- what was written stands at the front of the output
  pub sent-there : take (30 + l) (written_packet rs out h l) ≡ packet_bytes h (part out 27 (27 + l))
  sent-there =
      let q : List ℕ = packet_bytes h (part out 27 (27 + l)) in
      let long : length q ≡ 30 + l = sent-long h (part out 27 (27 + l)) fit few ∙ ap (λ (n : ℕ). 30 + n) u-long in
      ap (λ (n : ℕ). take n (written_packet rs out h l)) (sym long)
      ∙ ap (take (length q)) (sym (sealed rs out h l g))
      ∙ front out q (omega (arith, room))

  -- "a packet we write reads back as the same fields"
  fields-held : (is_command h.command ≡ true) × (allowed (judged h.label) ≡ true) × (is_good (judged_under rs h.command (part out 27 (27 + l))) ≡ true)
  unfolding packet_verdict
  fields-held =
      let under : Verdict = judged_under rs h.command (part out 27 (27 + l)) in
      let rest = (good-held (room_tests out l 30) (in_order (field_tests h) under) refl g).1 in
      let f = good-held (field_tests h) under refl rest in
      (f.0.0, f.0.1.0, f.1)

  pub sent-good : is_good (judged_packet rs (packet_bytes h (part out 27 (27 + l)))) ≡ true
  sent-good = ap is_good (judged-sent h (part out 27 (27 + l)) fit few rs fields-held.0 fields-held.1) ∙ fields-held.2

  pub sent-opened : ◌≡◌ {A = Opened} (opened_packet rs (packet_bytes h (part out 27 (27 + l)))) (showing (judged_packet rs (packet_bytes h (part out 27 (27 + l)))) h l)
  unfolding opened_packet
  sent-opened =
      let q : List ℕ = packet_bytes h (part out 27 (27 + l)) in
      let u : List ℕ = part out 27 (27 + l) in
      let v : Verdict = judged_packet rs q in
      simp sent-good (λ i. showing v (header-sent h u fit few i) ((length-sent h u fit few ∙ u-long) i))

  pub sent-unit : unit_of (packet_bytes h (part out 27 (27 + l))) ≡ part out 27 (27 + l)
  sent-unit = unit-sent h (part out 27 (27 + l)) fit few

  pub sent-beyond : drop (30 + l) (written_packet rs out h l) ≡ drop (30 + l) out
  sent-beyond =
      let q : List ℕ = packet_bytes h (part out 27 (27 + l)) in
      let long : 30 + l ≡ 0 + length q = omega (arith, sent-long h (part out 27 (27 + l)) fit few, u-long) in
      ap (drop (30 + l)) (sym (sealed rs out h l g))
      ∙ ap (λ (n : ℕ). drop n (put_at out 0 q)) long
      ∙ put-after out 0 q (omega (arith, room))
      ∙ ap (λ (n : ℕ). drop n out) (sym long)

-- the writer refuses nothing that its order does not name: its verdict is good exactly when there is room and the judge takes the packet made of the header and the unit
module _ (rs : List Row) (out : List ℕ) (h : Header) (l : ℕ) (fit : Fitting h) where
  taken-good : l ≤ 1024 → 30 + l ≤ length out → is_good (judged_packet rs (packet_bytes h (part out 27 (27 + l)))) ≡ true → is_good (packet_verdict rs out h l) ≡ true
  unfolding packet_verdict judged_packet judged_content
  taken-good few room g =
      let u : List ℕ = part out 27 (27 + l) in
      let q : List ℕ = packet_bytes h u in
      let long : length u ≡ 27 + l - 27 = length_part out 27 (27 + l) (omega arith) (omega arith) in
      let short : length u ≤ 1024 = omega (arith, long) in
      let command : command_of q ≡ h.command = ap (λ (x : Header). x.command) (header-sent h u fit short) in
      let label : label_of (drop 6 q) ≡ h.label = ap (λ (x : Header). x.label) (header-sent h u fit short) in
      let content = (good-held (frame_tests 1024 q) (judged_content rs q) refl g).1 in
      let k = good-held (header_tests q) (judged_under rs (command_of q) (unit_of q)) refl content in
      ap is_good
      (all-passed (room_tests out l 30) _ (le-leb l 1024 few, (le-leb (30 + l) (length out) room, tt))
      ∙ all-passed (field_tests h) _
      (ap is_command (sym command) ∙ k.0.1.0, (ap (λ (x : Label). allowed (judged x)) (sym label) ∙ k.0.1.1.0, tt))
      ∙ ap (λ (c : ℕ). judged_under rs c u) (sym command)
      ∙ ap (judged_under rs (command_of q)) (sym (unit-sent h u fit short)))
      ∙ k.1

  pub good-when : (is_good (packet_verdict rs out h l) ≡ true)
      ↔ ((l ≤ 1024) × (30 + l ≤ length out) × (is_good (judged_packet rs (packet_bytes h (part out 27 (27 + l)))) ≡ true))
  good-when = (
    λ g. ((packet-roomy rs out h l g).0, (packet-roomy rs out h l g).1, sent-good rs out h l fit g),
    λ t. taken-good t.0 t.1 t.2,
  )
