-- A reply is itself an accepted packet, and no reply is due to one. Assumes nothing.
use Prim.Native.Nat.{ℕ}
use mathlib.Core.Bool.{Bool, true, false, cond, false≢true}
use mathlib.Core.List.{List, []}
use mathlib.Core.Path.{◌≡◌, refl, ap, ◌∙◌}
use lib.Dec.{lit≤}
use Rattle.kinds.specs.declared.Row.{Row}
use Rattle.label.specs.declared.Label.{Label}
use Rattle.label.specs.Times.{judged, allowed}
use Rattle.octets.specs.Numbers.{Octets}
use Rattle.octets.proofs.Numbers.{low-bound}
use Rattle.output.proofs.Sent.{Fitting, header-sent, judged-sent}
use Rattle.packet.specs.declared.Header.{Header}
use Rattle.packet.specs.Frames.{command_of, judged_content, judged_packet}
use Rattle.packet.specs.Headers.{header_of}
use Rattle.unit.specs.Units.{is_kept, judged_under}
use Rattle.unit.proofs.Under.{by-kept}
use Rattle.verdict.specs.Orders.{in_order, good, is_good}
use Rattle.reply.specs.Dues.{Due, Nothing, Confirm, Deny}
use Rattle.reply.specs.Replies.{to_good, to_refused, due_to, is_due, reply_header, reply_bytes}

-- to a confirm, an answer or a denial no reply is due, whatever the judge says of it
pub none-to : (rs : List Row) (p : List ℕ) (c : ℕ) → command_of p ≡ c → to_good c ≡ Nothing → to_refused c ≡ Nothing → due_to rs p ≡ Nothing
unfolding due_to
none-to rs p c e a b = by-test (is_good (judged_content rs p))
  where
    by-test : (g : Bool) → cond g (to_good (command_of p)) (to_refused (command_of p)) ≡ Nothing
    by-test true = ap to_good e ∙ a
    by-test false = ap to_refused e ∙ b

-- nor where the bytes are kept (document 02, Q-2), whether the packet is good or not
pub none-to-kept : (c : ℕ) (g : Bool) → is_kept c ≡ true → cond g (to_good c) (to_refused c) ≡ Nothing
none-to-kept c g e = by-kept (λ (k : ℕ). cond g (to_good k) (to_refused k) ≡ Nothing) c e (either g) (either g)
  where
    either : (b : Bool) → cond b Nothing Nothing ≡ Nothing
    either true = refl
    either false = refl

module _ (rs : List Row) (p : List ℕ) (bytes : Octets p) (t : Label) (a : allowed (judged t) ≡ true) where
  fit : (c : ℕ) → Fitting (reply_header (header_of p) t c)
  fit c = record { serial = low-bound p 2 2 bytes; source = refl; destination = refl }

  pub reply-accepted : (d : Due) → is_due d ≡ true → judged_packet rs (reply_bytes p t d) ≡ good
  unfolding judged_under in_order
  reply-accepted Nothing e = absurd (false≢true e)
  reply-accepted Confirm e = judged-sent (reply_header (header_of p) t 3) [] (fit 3) (lit≤ tt) rs refl a
  reply-accepted Deny e = judged-sent (reply_header (header_of p) t 6) [] (fit 6) (lit≤ tt) rs refl a

  -- "Denying a denial"
  pub none-to-a-reply : (d : Due) → is_due d ≡ true → due_to rs (reply_bytes p t d) ≡ Nothing
  none-to-a-reply Nothing e = absurd (false≢true e)
  none-to-a-reply Confirm e = none-to rs (reply_bytes p t Confirm) 3 (ap (λ (h : Header). h.command) (header-sent (reply_header (header_of p) t 3) [] (fit 3) (lit≤ tt))) refl refl
  none-to-a-reply Deny e = none-to rs (reply_bytes p t Deny) 6 (ap (λ (h : Header). h.command) (header-sent (reply_header (header_of p) t 6) [] (fit 6) (lit≤ tt))) refl refl
