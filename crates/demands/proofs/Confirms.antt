-- Document 02, Q-2, confirms that carry something: what a confirm or a deny carries is kept as bytes, written and read back, and gets no reply. Assumes nothing.
use Prim.Native.Nat.{ℕ, ◌+◌, ◌≤◌, ◌<◌}
use native.Mathlib.Omega.{arith}
use mathlib.Core.Bool.{true, false}
use mathlib.Core.List.{List, []}
use mathlib.Core.Logic.{◌↔◌}
use mathlib.Core.Path.{◌≡◌, refl, sym, ap, ◌∙◌}
use borrow.Author.Tests.{le-leb, leb-true}
use lib.ListN.{length, take}
use Rattle.std.specs.Prelude.{None}
use Rattle.exchange.specs.declared.Exchanges.{Exchanges}
use Rattle.exchange.specs.Table.{answered as replied}
use Rattle.frame.specs.Frame.{unit_length, frame_tests}
use Rattle.kinds.specs.Table.{rows}
use Rattle.label.specs.declared.Label.{Label}
use Rattle.label.specs.Times.{judged, allowed}
use Rattle.octets.specs.Numbers.{Octets}
use Rattle.octets.specs.Parts.{part, put_at}
use Rattle.octets.proofs.Numbers.{low-bound}
use Rattle.output.specs.Writing.{room_tests, field_tests, packet_verdict}
use Rattle.output.proofs.Carried.{kept-written}
use Rattle.output.proofs.Promises.{front}
use Rattle.output.proofs.Sent.{Fitting, length-sent, sent-long, unit-sent}
use Rattle.packet.specs.declared.Header.{Header}
use Rattle.packet.specs.declared.Opened.{Opened}
use Rattle.packet.specs.Frames.{command_of, unit_of, header_tests, judged_content, judged_packet, unit_place}
use Rattle.packet.specs.Headers.{header_of, opened_packet}
use Rattle.packet.proofs.Carried.{kept-packet}
use Rattle.place.specs.declared.Reply.TheVariants.{Confirm, Deny}
use Rattle.reply.specs.Dues.{Due, Nothing, Answer}
use Rattle.reply.specs.Replies.{is_due, command_for, due_to, reply_header, reply_bytes, due_tests, reply_tests, reply_verdict, answered, written_reply}
use Rattle.reply.proofs.Promises.{none-to-kept}
use Rattle.taking.specs.Takes.{taken}
use Rattle.taking.proofs.Promises.{taken-confirm, taken-deny}
use Rattle.unit.specs.Units.{is_kept, is_command, judged_unit, judged_under}
use Rattle.unit.proofs.Under.{by-kept, kept-command, unit-short, short-told, unit-stays, unit-only}
use Rattle.verdict.specs.declared.Verdict.{Verdict}
use Rattle.verdict.specs.declared.Part.{Part}
use Rattle.verdict.specs.Orders.{in_order, refusal, good, is_good, part_by, part_in}
use Rattle.verdict.specs.Refusals.{UNIT}
use Rattle.verdict.proofs.Order.{all-passed, good-held, goes_on}
use Rattle.demands.proofs.Demand2.{WrittenAgain, ReadsBack, packet-again, packet-read-back}
use Rattle.demands.proofs.NoTime.{packet_verdict_lem}

-- "For 3 and 6 a unit of 0 to 1,024 bytes is accepted .. and not judged as a unit": frame and header alone decide on such a packet
pub confirm-judged : (p : List ℕ) → is_kept (command_of p) ≡ true → judged_packet rows p ≡ in_order (frame_tests 1024 p) (in_order (header_tests p) good)
confirm-judged = kept-packet rows

-- ".. kept as bytes": the unit of any good packet, and so of such a one, is handed back as the part of it from byte 28 on, L bytes
pub unit-handed-back : (p : List ℕ) → is_good (judged_packet rows p) ≡ true
    → ◌≡◌ {A = Part} (unit_place rows p) (record { verdict = judged_packet rows p; from = 27; to = 27 + unit_length p }) × (part_in p (unit_place rows p) ≡ unit_of p)
unfolding unit_place part_by
unit-handed-back p g = (simp g, simp g)

-- ".. and the writer can send one": length, room, command and label alone decide on it
pub confirm-written : (out : List ℕ) (h : Header) (l : ℕ) → is_kept h.command ≡ true → packet_verdict rows out h l ≡ in_order (room_tests out l 30) (in_order (field_tests h) good)
confirm-written = kept-written rows

-- DEMAND 2 of such packets: whatever bytes stand in the output, what is written is accepted and reads back as the same header, length and bytes
pub confirm-read-back : (out : List ℕ) (h : Header) (l : ℕ) → Fitting h → is_kept h.command ≡ true → allowed (judged h.label) ≡ true → l ≤ 1024 → 30 + l ≤ length out
    → (packet_verdict rows out h l ≡ good) × ReadsBack out h l
confirm-read-back out h l fit e stands few room = (taken-so, packet-read-back out h l fit (ap is_good taken-so))
  where
    taken-so : packet_verdict rows out h l ≡ good
    taken-so =
        confirm-written out h l e
        ∙ all-passed (room_tests out l 30) _ (le-leb l 1024 few, (le-leb (30 + l) (length out) room, tt))
        ∙ all-passed (field_tests h) good (kept-command h.command e, (stands, tt))

-- and one that is accepted, o being what the reader answers of it, written again around the same bytes, has the same bytes
pub confirm-again : (p out : List ℕ) (o : Opened) → Octets p → o ≡ opened_packet rows p → is_kept (command_of p) ≡ true
    → is_good (in_order (frame_tests 1024 p) (in_order (header_tests p) good)) ≡ true
    → 30 + o.length ≤ length out → part out 27 (27 + o.length) ≡ unit_of p → WrittenAgain p out o
confirm-again p out o bytes read e g =
    packet-again p out o bytes read (ap (λ (x : Opened). is_good x.verdict) read ∙ ap is_good ((packet_verdict_lem p).0 ∙ confirm-judged p e) ∙ g)

module _ (p : List ℕ) (t : Label) (out : List ℕ) (e : is_kept (command_of p) ≡ true) (g : is_good (in_order (frame_tests 1024 p) good) ≡ true) where
  none-due : due_to rows p ≡ Nothing
  unfolding due_to
  none-due = none-to-kept (command_of p) (is_good (judged_content rows p)) e

  none-asked : reply_verdict rows p t out ≡ good
  unfolding reply_verdict in_order
  none-asked = goes_on (frame_tests 1024 p) _ refl g ∙ ap (λ (d : Due). in_order (reply_tests d t out) good) none-due

  -- to a confirm or a deny no reply is due, good or refused, whatever it carries: neither label nor room is asked for, and nothing is written
  pub none-to-a-confirm : ◌≡◌ {A = Answer} (answered rows p t out) (record { verdict = good; due = Nothing }) × (written_reply rows p t out ≡ out)
  unfolding answered written_reply
  none-to-a-confirm = (simp (none-asked, none-due), simp (none-asked, none-due))

-- "Our own replies stay empty": what is written where one is due is 30 bytes, with an L of 0 and no unit
module _ (p : List ℕ) (t : Label) (out : List ℕ) (bytes : Octets p) (g : is_good (reply_verdict rows p t out) ≡ true) (due : is_due (due_to rows p) ≡ true) where
  reply-room : 30 ≤ length out
  unfolding reply_verdict
  reply-room =
      let behind = (good-held (frame_tests 1024 p) (in_order (reply_tests (due_to rows p) t out) good) refl g).1 in
      let tests : is_good (in_order (due_tests t out) good) ≡ true = simp due at behind in
      leb-true 30 (length out) (good-held (due_tests t out) good refl tests).0.1.0

  pub reply-carries-nothing : (take 30 (written_reply rows p t out) ≡ reply_bytes p t (due_to rows p))
      × (unit_length (take 30 (written_reply rows p t out)) ≡ 0)
      × (unit_of (take 30 (written_reply rows p t out)) ≡ [])
  unfolding written_reply
  reply-carries-nothing =
      let h = reply_header (header_of p) t (command_for (due_to rows p)) in
      let fit : Fitting h = record { serial = low-bound p 2 2 bytes; source = refl; destination = refl } in
      let q : List ℕ = reply_bytes p t (due_to rows p) in
      let long : length q ≡ 30 = sent-long h [] fit (omega arith) in
      let there : take 30 (written_reply rows p t out) ≡ q =
      simp (g, due) (ap (λ (n : ℕ). take n (put_at out 0 q)) (sym long) ∙ front out q (omega (arith, long, reply-room))) in
      (there, ap unit_length there ∙ length-sent h [] fit (omega arith), ap unit_of there ∙ unit-sent h [] fit (omega arith))

-- to the exchange table a good confirm or deny is what its command, serial and source say, whatever it carries: as an empty one would be
pub confirm-taken : (x : Exchanges) (p q : List ℕ) → is_good (judged_packet rows p) ≡ true → is_good (judged_packet rows q) ≡ true → is_kept (command_of p) ≡ true
    → command_of p ≡ command_of q → (header_of p).source ≡ (header_of q).source → (header_of p).serial ≡ (header_of q).serial → taken rows x p ≡ taken rows x q
confirm-taken x p q g k e command source serial =
    by-kept (λ (n : ℕ). command_of p ≡ n → taken rows x p ≡ taken rows x q) (command_of p) e
    (λ c. taken-confirm rows x p g c ∙ (λ i. replied x (source i) (serial i) Confirm) ∙ sym (taken-confirm rows x q k (sym command ∙ c)))
    (λ c. taken-deny rows x p g c ∙ (λ i. replied x (source i) (serial i) Deny) ∙ sym (taken-deny rows x q k (sym command ∙ c)))
    refl

-- "UNIT stays for a unit under 2 bytes, under 1, 2, 4, 5 or alone", exactly
pub unit-refused-when : (c : ℕ) (u : List ℕ)
    → ((judged_under rows c u ≡ refusal UNIT 0) ↔ ((is_command c ≡ true) × (is_kept c ≡ false) × (length u < 2)))
    × ((judged_unit rows None u ≡ refusal UNIT 0) ↔ (length u < 2))
unit-refused-when c u = (
  (λ e. unit-only rows c u (ap (λ (v : Verdict). v.number) e), λ w. unit-stays rows c u w.0 w.1 w.2),
  (λ e. short-told rows None u (ap (λ (v : Verdict). v.number) e), λ h. unit-short rows None u h),
)
