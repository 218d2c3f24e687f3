-- Demand 1 of the tender: what is refused leaves state and lent memory as they were; last one list of the calls that a box links, each over
-- its own contract. Assumes nothing.
use Prim.Native.Nat.{ℕ, ◌+◌, ◌-◌, ◌≤◌, ◌<◌}
use native.Mathlib.Omega.{arith}
use mathlib.Core.Bool.{Bool, true, false, cond, false≢true}
use mathlib.Core.List.{List, ◌++◌}
use mathlib.Core.Logic.{◌⊎◌, ⊎_elim}
use mathlib.Core.Path.{◌≡◌, refl, sym, ap, subst, ◌∙◌}
use denote.MutBor.{MutBor}
use denote.Ref.{Bor}
use borrow.Author.Tests.{lt-leb, leb-true}
use lib.ListN.{length, take, drop, replicate, take-append-drop}
use Rattle.exchange.specs.declared.Exchanges.{Exchanges}
use Rattle.exchange.specs.Begins.{unbegun}
use Rattle.exchange.specs.Calls.{Asked, begun_by, Call, verdict_of, after}
use Rattle.exchange.specs.declared.Begun.{Begun}
use Rattle.exchange.specs.declared.Draft.{Draft}
use Rattle.exchange.specs.declared.Address.{Address}
use Rattle.exchange.specs.declared.Made.{Made}
use Rattle.exchange.specs.declared.Replied.{Replied}
use Rattle.exchange.specs.declared.Ticked.{Ticked}
use Rattle.exchange.specs.Table.{blank, made, untold, unticked}
use Rattle.exchange.specs.Table as exchanges
use Rattle.exchange.proofs.Changes.{refused-same, begin-refused, begin-unwritten, reply-refused, tick-refused}
use Rattle.fields.specs.declared.Fields.{Fields}
use Rattle.frame.specs.Frame.{room}
use Rattle.kinds.specs.Table.{table, rows}
use Rattle.label.specs.declared.Label.{Label}
use Rattle.naming.specs.Names.{letters}
use Rattle.naming.proofs.Fronts.{front-refused}
use Rattle.objects.specs.Writing.{write_verdict, written_unit}
use Rattle.objects.specs.Texts.{text_verdict, written_text}
use Rattle.octets.specs.Parts.{part, put_at}
use Rattle.octets.proofs.Parts.{part-is, length_part, put_same}
use Rattle.output.specs.Writing.{room_tests, packet_verdict, written_packet}
use Rattle.output.specs.Objects.{object_verdict, written_object, output_text_verdict, written_output_text}
use Rattle.output.proofs.Judging.{kept, roomy}
use Rattle.packet.specs.declared.Header.{Header}
use Rattle.place.specs.declared.Reply.{Reply}
use Rattle.place.specs.declared.Reply.TheVariants.{Confirm, Answer, Deny, BadAnswer}
use Rattle.reading.specs.Events.Event.{Refused}
use Rattle.reading.specs.Values.{told}
use Rattle.reading.specs.Finding.{first}
use Rattle.reading.specs.Calls.{State, held_bytes, sound, call_tests, answer_by, called}
use Rattle.reading.specs.Calls.{Answer as Called}
use Rattle.reading.proofs.Call.{call-refused}
use Rattle.reading.proofs.Demand.{call-good}
use Rattle.reading.proofs.Events.{refuses, first_taken, number-taken}
use Rattle.reading.specs.Events.{Event}
use Rattle.receiver.specs.Receivers.{lent, served_of}
use Rattle.reply.specs.Replies.{command_for, reply_verdict, answered, written_reply}
use Rattle.taking.proofs.Promises.{taken-kept}
use Rattle.trawnosz.specs.declared.AnswerC.{AnswerC}
use Rattle.trawnosz.specs.declared.ServedC.{ServedC}
use Rattle.trawnosz.proofs.trawnosz_exchanges_fresh.Reads as exchanges-fresh
use Rattle.trawnosz.proofs.trawnosz_begin_and_write.Reads as begin-and-write
use Rattle.trawnosz.proofs.trawnosz_reply_confirm.Reads as reply-confirm
use Rattle.trawnosz.proofs.trawnosz_reply_answer.Reads as reply-answer
use Rattle.trawnosz.proofs.trawnosz_reply_deny.Reads as reply-deny
use Rattle.trawnosz.proofs.trawnosz_reply_bad_answer.Reads as reply-bad-answer
use Rattle.trawnosz.proofs.trawnosz_take_packet.Reads as take-packet
use Rattle.trawnosz.proofs.trawnosz_tick.Reads as tick
use Rattle.trawnosz.proofs.trawnosz_receive.Reads as receive
use Rattle.trawnosz.proofs.trawnosz_write_packet.Reads as write-packet
use Rattle.trawnosz.proofs.trawnosz_write_packet_object.Reads as write-packet-object
use Rattle.trawnosz.proofs.trawnosz_write_packet_text.Reads as write-packet-text
use Rattle.trawnosz.proofs.trawnosz_answer_to.Reads as answer-to
use Rattle.trawnosz.proofs.trawnosz_write_object.Reads as write-object
use Rattle.trawnosz.proofs.trawnosz_write_text.Reads as write-text
use Rattle.trawnosz.proofs.trawnosz_name.Reads as name
use Rattle.trawnosz.proofs.trawnosz_release.Reads as release
use Rattle.trawnosz.specs.Calls.{served_to}
use Rattle.trawnosz.specs.Releases.{release as number}
use Rattle.verdict.specs.declared.Part.{Part}
use Rattle.verdict.specs.declared.Verdict.{Verdict}
use Rattle.verdict.specs.Orders.{in_order, refusal, good, is_good, no_part}
use Rattle.verdict.specs.Refusals.{STATE, ROOM}
use Rattle.verdict.proofs.Order.{passed, failed, good-held, goes_on}

-- DEMAND 1: "What it will not take it refuses by number; the state comes back as it was given and the lent memory is untouched."
pub refused-packet : (out : List ℕ) (h : Header) (l : ℕ) → is_good (packet_verdict rows out h l) ≡ false → written_packet rows out h l ≡ out
refused-packet out h l e = sym (kept rows out h l e)

pub refused-object : (u : List ℕ) (k : ℕ) (f : Fields) (d : List ℕ) → is_good (write_verdict rows u k f d) ≡ false → written_unit table u k f d ≡ u
unfolding written_unit
refused-object u k f d e = simp e

pub refused-text : (out t : List ℕ) → is_good (text_verdict out t) ≡ false → written_text out t ≡ out
unfolding written_text
refused-text out t e = simp e

-- the same from byte 28 of a packet's output
pub refused-output-text : (out t : List ℕ) → is_good (output_text_verdict out t) ≡ false → written_output_text out t ≡ out
unfolding written_output_text
refused-output-text out t e = ap (λ (u : List ℕ). take 27 out ++ u) (refused-text (drop 27 out) t e) ∙ take-append-drop 27 out

pub refused-output : (out : List ℕ) (l k : ℕ) (f : Fields) (d : List ℕ) → is_good (object_verdict rows out l k f d) ≡ false → written_object table out l k f d ≡ out
unfolding object_verdict written_object
refused-output out l k f d e = by-test (is_good (in_order (room_tests out l 27) good)) refl
  where
    u : List ℕ
    u = part out 27 (27 + l)

    by-test : (b : Bool) → is_good (in_order (room_tests out l 27) good) ≡ b → cond b (put_at out 27 (written_unit table u k f d)) out ≡ out
    by-test false g = refl
    by-test true g =
        let fits : 27 + l ≤ length out = (roomy out l 27 g).1 in
        let n : 27 + l - 27 ≡ l = omega arith in
        let long : length u ≡ l = length_part out 27 (27 + l) (omega arith) fits ∙ n in
        let verdict : is_good (write_verdict rows u k f d) ≡ false = ap is_good (sym (goes_on (room_tests out l 27) (write_verdict rows u k f d) refl g)) ∙ e in
        ap (put_at out 27) (refused-object u k f d verdict)
        ∙ put_same out 27 u (omega (arith, long)) (part-is out 27 (27 + l) (omega arith) fits ∙ ap (λ (m : ℕ). take m (drop 27 out)) (n ∙ sym long))

pub refused-reply : (p : List ℕ) (t : Label) (out : List ℕ) → is_good (reply_verdict rows p t out) ≡ false → written_reply rows p t out ≡ out
unfolding written_reply
refused-reply p t out e = simp e

-- a receiver's call: its event is the refusal, nothing is taken, the state is the one given and nothing is written
pub refused_call_lem : (st : State) (piece out : List ℕ) → is_good (in_order (call_tests 1024 st out) good) ≡ false
    → called 1024 st piece out
    ≡ record { event = Refused (in_order (call_tests 1024 st out) good).number; skipped = 0; taken = 0; state = st; out = out }
refused_call_lem st piece out e = call-refused 1024 st piece out _ refl e

pub refused-exchange : (x : Exchanges) (c : Call) → is_good (verdict_of x c) ≡ false → after x c ≡ x
refused-exchange = refused-same

refused-due : (p : List ℕ) (t : Label) (out : List ℕ) → is_good (reply_verdict rows p t out) ≡ false → command_for (answered rows p t out).due ≡ 0
unfolding answered
refused-due p t out e = simp e

not_made : (t m : ℕ) (a b : List ℕ) → is_good (made t m a b).verdict ≡ false → (made t m a b).state ≡ blank 0 0 (replicate 6 0) (replicate 6 0)
unfolding made
not_made t m a b e = simp e

-- THE LIST: each call that a box links, whatever answer meets its contract.
-- These take no state and are lent nothing to write in:
-- trawnosz_judge_packet, trawnosz_read_packet, trawnosz_find_unit, trawnosz_judge_unit, trawnosz_judge_unit_under, trawnosz_unit_length, trawnosz_find_object,
-- trawnosz_read_object, trawnosz_find_description, trawnosz_judge_table, trawnosz_find_part.
-- This one refuses nothing: trawnosz_fresh.

-- trawnosz_receive: with the held bytes and the count that were given, zero for all else; the hold and the buffer as they were
abbrev pub not_served : ℕ → ℕ → ℕ → ServedC
not_served event held count = record { event = event; length = 0; skipped = 0; taken = 0; held = held; count = count }

module _ (κs : _) (hold h : MutBor (List ℕ)) (held count : ℕ) (piece : Bor (List ℕ)) (out o : MutBor (List ℕ)) (r : ServedC)
    (p : receive.Post κs (hold, (held, (count, (piece, (out, tt))))) r (h, (held, (count, (piece, (o, tt)))))) where
  abbrev st : State
  st = lent hold.now held count

  as-given : (v : Verdict) → in_order (call_tests 1024 st out.now) good ≡ v → is_good v ≡ false
      → (r ≡ not_served v.number held count) × (h.now ≡ hold.now) × (o.now ≡ out.now)
  unfolding told
  as-given v e b =
      let c = call-refused 1024 st piece.now out.now v e b in
      (p.0 ∙ ap (λ (a : Called). served_to (served_of a)) c, p.1.0 ∙ ap (λ (a : Called). a.state.hold) c, p.1.1 ∙ ap (λ (a : Called). a.out) c)

  pub refused-state : sound 1024 st ≡ false → (r ≡ not_served STATE held count) × (h.now ≡ hold.now) × (o.now ≡ out.now)
  refused-state s = as-given (refusal STATE 0) (failed _ _ good s) refl

  pub refused-room : sound 1024 st ≡ true → length out.now < 1054 → (r ≡ not_served ROOM held count) × (h.now ≡ hold.now) × (o.now ≡ out.now)
  unfolding room
  refused-room s k = as-given (refusal ROOM 0) (passed _ _ good s ∙ failed _ _ good (lt-leb 1054 (length out.now) k)) refl

  -- a box knows a refused call by its event
  pub refused-receive : (r.event ≡ STATE) ⊎ (r.event ≡ ROOM) → (r ≡ not_served r.event held count) × (h.now ≡ hold.now) × (o.now ≡ out.now)
  unfolding answer_by refuses
  refused-receive which = by-test (is_good (in_order (call_tests 1024 st out.now) good)) refl
    where
      by-test : (b : Bool) → is_good (in_order (call_tests 1024 st out.now) good) ≡ b
          → (r ≡ not_served r.event held count) × (h.now ≡ hold.now) × (o.now ≡ out.now)
      by-test false g =
          let q = as-given (in_order (call_tests 1024 st out.now) good) refl g in
          (q.0 ∙ ap (λ (a : ServedC). not_served a.event held count) (sym q.0), q.1, q.2)
      by-test true g =
          let k = (good-held (call_tests 1024 st out.now) good refl g).0 in
          let c = call-good 1024 st piece.now out.now k.0 (leb-true (room 1024) (length out.now) k.1.0) in
          let e : Event = (first 1024 count (held_bytes st ++ piece.now)).event in
          let n : r.event ≡ (told e).number = ap (λ (a : ServedC). a.event) p.0 ∙ ap (λ (a : Called). (told a.event).number) c in
          let none : refuses e ≡ false = first_taken 1024 count (held_bytes st ++ piece.now) in
          let other = number-taken e (λ m q. false≢true (sym none ∙ ap refuses q)) in
          absurd (⊎_elim (λ q. other.0 (sym n ∙ q)) (λ q. other.1 (sym n ∙ q)) which)

-- trawnosz_write_packet
pub refused-write-packet : (κs : _) (out o : MutBor (List ℕ)) (h : Header) (l : ℕ) (r : Verdict)
    → write-packet.Post κs (out, (h, (l, tt))) r (o, (h, (l, tt))) → is_good r ≡ false → o.now ≡ out.now
refused-write-packet κs out o h l r p e = p.1 ∙ refused-packet out.now h l (ap is_good (sym p.0) ∙ e)

-- trawnosz_write_packet_object
pub refused-write-packet-object : (κs : _) (out o : MutBor (List ℕ)) (l k : ℕ) (f : Fields) (d : Bor (List ℕ)) (r : Verdict)
    → write-packet-object.Post κs (out, (l, (k, (f, (d, tt))))) r (o, (l, (k, (f, (d, tt))))) → is_good r ≡ false → o.now ≡ out.now
refused-write-packet-object κs out o l k f d r p e = p.1 ∙ refused-output out.now l k f d.now (ap is_good (sym p.0) ∙ e)

-- trawnosz_write_packet_text
pub refused-write-packet-text : (κs : _) (out o : MutBor (List ℕ)) (t : Bor (List ℕ)) (r : Verdict)
    → write-packet-text.Post κs (out, (t, tt)) r (o, (t, tt)) → is_good r ≡ false → o.now ≡ out.now
refused-write-packet-text κs out o t r p e = p.1 ∙ refused-output-text out.now t.now (ap is_good (sym p.0) ∙ e)

-- trawnosz_write_object
pub refused-write-object : (κs : _) (u v : MutBor (List ℕ)) (k : ℕ) (f : Fields) (d : Bor (List ℕ)) (r : Verdict)
    → write-object.Post κs (u, (k, (f, (d, tt)))) r (v, (k, (f, (d, tt)))) → is_good r ≡ false → v.now ≡ u.now
refused-write-object κs u v k f d r p e = p.1 ∙ refused-object u.now k f d.now (ap is_good (sym p.0) ∙ e)

-- trawnosz_write_text
pub refused-write-text : (κs : _) (out o : MutBor (List ℕ)) (t : Bor (List ℕ)) (r : Verdict)
    → write-text.Post κs (out, (t, tt)) r (o, (t, tt)) → is_good r ≡ false → o.now ≡ out.now
refused-write-text κs out o t r p e = p.1 ∙ refused-text out.now t.now (ap is_good (sym p.0) ∙ e)

-- trawnosz_answer_to
pub refused-answer-to : (κs : _) (p : Bor (List ℕ)) (t : Label) (out o : MutBor (List ℕ)) (r : AnswerC)
    → answer-to.Post κs (p, (t, (out, tt))) r (p, (t, (o, tt))) → is_good r.verdict ≡ false → (r.command ≡ 0) × (o.now ≡ out.now)
unfolding answered
refused-answer-to κs p t out o r q e =
    let no : is_good (reply_verdict rows p.now t out.now) ≡ false = ap (λ (a : AnswerC). is_good a.verdict) (sym q.0) ∙ e in
    (ap (λ (a : AnswerC). a.command) q.0 ∙ refused-due p.now t out.now no, q.1 ∙ refused-reply p.now t out.now no)

-- trawnosz_exchanges_fresh, which takes no state: "making a table: SETTING, with a table of zeros"
abbrev pub zeros : Exchanges
zeros = blank 0 0 (replicate 6 0) (replicate 6 0)

pub refused-exchanges-fresh : (t m : ℕ) (a b : Address) (r : Made) → exchanges-fresh.Post tt (t, (m, (a, (b, tt)))) r (t, (m, (a, (b, tt))))
    → is_good r.verdict ≡ false → r.state ≡ zeros
refused-exchanges-fresh t m a b r p = subst (λ (y : Made). is_good y.verdict ≡ false → y.state ≡ zeros) (sym p) (not_made t m a.bytes b.bytes)

-- trawnosz_begin_and_write: with the table that was given, zero for all else, and nothing written
pub refused-begin-and-write : (κs : _) (x : Exchanges) (n : ℕ) (out o : MutBor (List ℕ)) (d : Draft) (l : ℕ) (r : Begun)
    → begin-and-write.Post κs (x, (n, (out, (d, (l, tt))))) r (x, (n, (o, (d, (l, tt)))))
    → is_good r.verdict ≡ false → (r ≡ unbegun x r.verdict) × (o.now ≡ out.now)
refused-begin-and-write κs x n out o d l r p e =
    let a : Asked = record { centre = n; out = out.now; draft = d; size = l } in
    let no : is_good (begun_by x a).verdict ≡ false = ap (λ (b : Begun). is_good b.verdict) (sym p.0) ∙ e in
    (p.0 ∙ begin-refused x a no ∙ ap (λ (b : Begun). unbegun x b.verdict) (sym p.0), p.1 ∙ begin-unwritten x a no)

-- trawnosz_reply_confirm, trawnosz_reply_answer, trawnosz_reply_deny and trawnosz_reply_bad_answer
not-replied : (x : Exchanges) (a : List ℕ) (s : ℕ) (w : Reply) (r : Replied) → r ≡ exchanges.answered x a s w
    → is_good r.verdict ≡ false → r ≡ untold x r.verdict
not-replied x a s w r p = subst (λ (b : Replied). is_good b.verdict ≡ false → b ≡ untold x b.verdict) (sym p) (reply-refused x a s w)

pub refused-reply-confirm : (x : Exchanges) (a : Address) (s : ℕ) (r : Replied) → reply-confirm.Post tt (x, (a, (s, tt))) r (x, (a, (s, tt)))
    → is_good r.verdict ≡ false → r ≡ untold x r.verdict
refused-reply-confirm x a s r p = not-replied x a.bytes s Confirm r p

pub refused-reply-answer : (x : Exchanges) (a : Address) (s : ℕ) (r : Replied) → reply-answer.Post tt (x, (a, (s, tt))) r (x, (a, (s, tt)))
    → is_good r.verdict ≡ false → r ≡ untold x r.verdict
refused-reply-answer x a s r p = not-replied x a.bytes s Answer r p

pub refused-reply-deny : (x : Exchanges) (a : Address) (s : ℕ) (r : Replied) → reply-deny.Post tt (x, (a, (s, tt))) r (x, (a, (s, tt)))
    → is_good r.verdict ≡ false → r ≡ untold x r.verdict
refused-reply-deny x a s r p = not-replied x a.bytes s Deny r p

pub refused-reply-bad-answer : (x : Exchanges) (a : Address) (s : ℕ) (r : Replied) → reply-bad-answer.Post tt (x, (a, (s, tt))) r (x, (a, (s, tt)))
    → is_good r.verdict ≡ false → r ≡ untold x r.verdict
refused-reply-bad-answer x a s r p = not-replied x a.bytes s BadAnswer r p

-- trawnosz_take_packet: the table that was given, whether the packet is refused or the reply that it is
pub refused-take-packet : (κs : _) (x : Exchanges) (p : Bor (List ℕ)) (r : Replied) → take-packet.Post κs (x, (p, tt)) r (x, (p, tt))
    → is_good r.verdict ≡ false → r ≡ untold x r.verdict
refused-take-packet κs x p r q =
    subst (λ (b : Replied). is_good b.verdict ≡ false → b ≡ untold x b.verdict) (sym q) (taken-kept rows x p.now)

-- trawnosz_tick
pub refused-tick : (x : Exchanges) (r : Ticked) → tick.Post tt (x, tt) r (x, tt) → is_good r.verdict ≡ false → r ≡ unticked x r.verdict
refused-tick x r p = subst (λ (b : Ticked). is_good b.verdict ≡ false → b ≡ unticked x b.verdict) (sym p) (tick-refused x)

-- trawnosz_name and trawnosz_release: from 0 to 0, and nothing written
pub refused-name : (κs : _) (n : ℕ) (out o : MutBor (List ℕ)) (r : Part) → name.Post κs (n, (out, tt)) r (n, (o, tt))
    → is_good r.verdict ≡ false → (r ≡ no_part r.verdict) × (o.now ≡ out.now)
refused-name κs n out o r p = front-refused (letters n) out.now o.now r p.0 p.1

pub refused-release : (κs : _) (out o : MutBor (List ℕ)) (r : Part) → release.Post κs (out, tt) r (o, tt)
    → is_good r.verdict ≡ false → (r ≡ no_part r.verdict) × (o.now ≡ out.now)
refused-release κs out o r p = front-refused number out.now o.now r p.0 p.1
