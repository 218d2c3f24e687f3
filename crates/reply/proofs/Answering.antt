-- One law for each answer of the reply maker, in the words of what it was told. Assumes nothing.
use Prim.Native.Nat.{ℕ, ◌+◌, ◌-◌}
use native.Mathlib.Nat.{sub_self}
use mathlib.Core.Bool.{Bool, true, false, cond, ◌&&◌, false≢true}
use mathlib.Core.List.{List, []}
use mathlib.Core.Path.{◌≡◌, refl, sym, ap, ◌∙◌}
use lib.ListN.{take, drop}
use Rattle.std.specs.Prelude.{Option, Some, Result, Ok, Err, IsErr, IsErrAnd, ⊤}
use Rattle.frame.specs.Frame.{frame_tests}
use Rattle.kinds.specs.declared.Row.{Row}
use Rattle.label.specs.declared.Label.{Label}
use Rattle.label.specs.Times.{judged, allowed}
use Rattle.octets.specs.Parts.{within, part, put_at}
use Rattle.output.specs.Writing.{packet_verdict, written_packet}
use Rattle.packet.specs.declared.Header.{Header}
use Rattle.packet.specs.Headers.{header_of}
use Rattle.output.specs.Packets.{packet_bytes}
use Rattle.unit.specs.Units.{judged_under}
use Rattle.verdict.specs.declared.Refused.{Refused}
use Rattle.verdict.specs.declared.Verdict.{Verdict}
use Rattle.verdict.specs.Orders.{in_order, refusal, good, is_good, told}
use Rattle.verdict.specs.Refusals.{number_of}
use Rattle.verdict.proofs.Order.{stays, goes_on}
use Rattle.verdict.proofs.Told.{not-good}
use Rattle.reply.specs.declared.Due.{Due as Sent}
use Rattle.reply.specs.declared.Due.TheVariants as sent
use Rattle.reply.specs.Dues.{Due, Nothing, Answer, due_told, answer_told}
use Rattle.reply.specs.Replies.{due_to, command_for, is_due, reply_header, reply_bytes, due_tests, reply_tests, reply_verdict, answered, written_reply_as, written_reply}

-- a part of no bytes
part-empty : (s : List ℕ) (a : ℕ) → part s a a ≡ []
unfolding part
part-empty s a = by-test (within s a a)
  where
    by-test : (b : Bool) → cond b (take (a - a) (drop a s)) [] ≡ []
    by-test true = ap (λ (n : ℕ). take n (drop a s)) (sub_self a)
    by-test false = refl

-- the packet writer on a reply of header h whose label may stand: its verdict is that on the room, and the packet is the reply
module _ (rs : List Row) (p : List ℕ) (t : Label) (out : List ℕ) (d : Sent) (k : ℕ) (h : Header) (command : k ≡ command_for (due_told (Some d)))
    (header : h ≡ reply_header (header_of p) t k) (a : allowed (judged t) ≡ true) where
  header-is : h ≡ reply_header (header_of p) t (command_for (due_told (Some d)))
  header-is = header ∙ ap (reply_header (header_of p) t) command

  pub room_decides : (v : Verdict) → v ≡ packet_verdict rs out h 0 → v ≡ in_order (due_tests t out) good
  unfolding packet_verdict in_order judged_under
  room_decides v e = e ∙ ap (λ (x : Header). packet_verdict rs out x 0) header-is ∙ by-due d
    where
      by-due : (d : Sent) → packet_verdict rs out (reply_header (header_of p) t (command_for (due_told (Some d)))) 0 ≡ in_order (due_tests t out) good
      by-due sent.Confirm = simp (a, part-empty out 27)
      by-due sent.Deny = simp (a, part-empty out 27)

  pub reply_written : (w : List ℕ) → w ≡ written_packet rs out h 0 → w ≡ written_reply_as p t out (in_order (due_tests t out) good) (due_told (Some d))
  unfolding written_packet
  reply_written w e =
      e
      ∙ ap (λ (b : Verdict). cond (is_good b) (put_at out 0 (packet_bytes h (part out 27 (27 + 0)))) out) (room_decides (packet_verdict rs out h 0) refl)
      ∙ ap (λ (x : List ℕ). cond (is_good (in_order (due_tests t out) good)) (put_at out 0 (packet_bytes h x)) out) (part-empty out 27)
      ∙ ap (λ (x : Header). cond (is_good (in_order (due_tests t out) good)) (put_at out 0 (packet_bytes x [])) out) header-is
      ∙ by-due d (is_good (in_order (due_tests t out) good)) (put_at out 0 (reply_bytes p t (due_told (Some d))))
    where
      by-due : (d : Sent) (g : Bool) (x : List ℕ) → cond g x out ≡ cond (g && is_due (due_told (Some d))) x out
      by-due sent.Confirm true x = refl
      by-due sent.Confirm false x = refl
      by-due sent.Deny true x = refl
      by-due sent.Deny false x = refl

-- a label that passed its test may stand
pub may_stand : (t : Label) (g : Bool) (e : Refused) → g ≡ allowed (judged t) → ◌≡◌ {A = Result ⊤ Refused} (Ok tt) (cond g (Ok tt) (Err e)) → allowed (judged t) ≡ true
may_stand t true e q h = sym q
may_stand t false e q h = cc

-- what a frame that is refused says comes back, and nothing is written
module _ (rs : List Row) (p : List ℕ) (t : Label) (out : List ℕ) where
  answers : (v : Verdict) (d : Due) → v ≡ reply_verdict rs p t out → d ≡ cond (is_good v) (due_to rs p) Nothing
      → ◌≡◌ {A = Answer} (record { verdict = v; due = d }) (answered rs p t out)
  unfolding answered
  answers v d e q = λ i. record { verdict = e i; due = (q ∙ ap (λ (x : Verdict). cond (is_good x) (due_to rs p) Nothing) e) i }

  leaves : (v : Verdict) → v ≡ reply_verdict rs p t out → is_good v && is_due (due_to rs p) ≡ false → out ≡ written_reply rs p t out
  unfolding written_reply
  leaves v e b = simp (sym (ap (λ (x : Verdict). is_good x && is_due (due_to rs p)) e) ∙ b)

  module _ (f : Refused) (e : told {A = Option Sent} (Err f) ≡ in_order (frame_tests 1024 p) good) where
    frame-is : told {A = Option Sent} (Err f) ≡ reply_verdict rs p t out
    unfolding reply_verdict
    frame-is = e ∙ sym (stays (frame_tests 1024 p) (in_order (reply_tests (due_to rs p) t out) good) (ap is_good (sym e) ∙ not-good f.refusal f.place))

  pub frame_refuses : (x : Result (Option Sent) Refused) → IsErr x → told x ≡ in_order (frame_tests 1024 p) good → answer_told x ≡ answered rs p t out
  frame_refuses (Ok d) h e = absurd (false≢true h)
  frame_refuses (Err f) h e = answers (told {A = Option Sent} (Err f)) Nothing (frame-is f e) (simp (not-good f.refusal f.place))

  pub frame_leaves : {A : Type 0} (x : Result A Refused) → IsErr x → told x ≡ in_order (frame_tests 1024 p) good → out ≡ written_reply rs p t out
  frame_leaves (Ok d) h e = absurd (false≢true h)
  frame_leaves (Err f) h e = leaves (told {A = Option Sent} (Err f)) (frame-is f e) (simp (not-good f.refusal f.place))

  module _ (framed : good ≡ in_order (frame_tests 1024 p) good) where
    verdict-is : (d : Due) → d ≡ due_to rs p → in_order (reply_tests d t out) good ≡ reply_verdict rs p t out
    unfolding reply_verdict
    verdict-is d e =
        ap (λ (x : Due). in_order (reply_tests x t out) good) e
        ∙ sym (goes_on (frame_tests 1024 p) (in_order (reply_tests (due_to rs p) t out) good) refl (ap is_good (sym framed)))

    -- none is due
    module _ (none : Nothing ≡ due_to rs p) where
      none-is : good ≡ reply_verdict rs p t out
      unfolding in_order
      none-is = verdict-is Nothing none

      pub none_due : ◌≡◌ {A = Answer} (record { verdict = good; due = Nothing }) (answered rs p t out)
      none_due = answers good Nothing none-is none

      pub none_leaves : out ≡ written_reply rs p t out
      none_leaves = leaves good none-is (ap is_due (sym none))

    -- one is due
    module _ (d : Sent) (due : due_told (Some d) ≡ due_to rs p) where
      due-is : in_order (due_tests t out) good ≡ reply_verdict rs p t out
      due-is = ap (λ (b : Bool). in_order (cond b (due_tests t out) []) good) (is-due d) ∙ verdict-is (due_told (Some d)) due
        where
          is-due : (d : Sent) → true ≡ is_due (due_told (Some d))
          is-due sent.Confirm = refl
          is-due sent.Deny = refl

      pub not_sent : (x : Result (Option Sent) Refused) (f : Refused) → IsErrAnd x (λ e. e ≡ f) → refusal (number_of f.refusal) f.place ≡ in_order (due_tests t out) good
          → answer_told x ≡ answered rs p t out
      not_sent (Ok d) f h e = absurd h
      not_sent (Err g) f h e =
          answers (told {A = Option Sent} (Err g)) Nothing (ap (λ (x : Refused). refusal (number_of x.refusal) x.place) h ∙ e ∙ due-is) (simp (not-good g.refusal g.place))

      pub sent_due : good ≡ in_order (due_tests t out) good → ◌≡◌ {A = Answer} (record { verdict = good; due = due_told (Some d) }) (answered rs p t out)
      sent_due e = answers good (due_told (Some d)) (e ∙ due-is) due

      pub sent_written : (w : List ℕ) → w ≡ written_reply_as p t out (in_order (due_tests t out) good) (due_told (Some d)) → w ≡ written_reply rs p t out
      unfolding written_reply
      sent_written w e =
          e
          ∙ ap (λ (v : Verdict). written_reply_as p t out v (due_told (Some d))) due-is
          ∙ ap (written_reply_as p t out (reply_verdict rs p t out)) due

pub ruleset answering = (frame_refuses, frame_leaves, none_due, none_leaves, sent_due)
