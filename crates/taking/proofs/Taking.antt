-- One law for each answer of the call that takes a packet. Assumes nothing.
use Prim.Native.Nat.{ℕ}
use mathlib.Core.Bool.{false, false≢true}
use mathlib.Core.List.{List}
use mathlib.Core.Path.{◌≡◌, refl, sym, ap, ◌∙◌}
use lib.ListN.{take, drop}
use Rattle.std.specs.Prelude.{Option, Result, Ok, Err, IsErr}
use Rattle.exchange.specs.declared.Exchanges.{Exchanges}
use Rattle.exchange.specs.declared.Replied.{Replied}
use Rattle.exchange.specs.Table.{untold, answered}
use Rattle.frame.specs.Frame.{frame_tests}
use Rattle.kinds.specs.declared.Row.{Row}
use Rattle.octets.specs.Numbers.{low_first}
use Rattle.octets.specs.Parts.{one_by_one}
use Rattle.packet.specs.Frames.{command_of, judged_content, judged_packet}
use Rattle.packet.specs.Headers.{header_of}
use Rattle.packet.proofs.Contents.{frame-decides, content-decides}
use Rattle.place.specs.declared.Reply.{Reply}
use Rattle.verdict.specs.declared.Refused.{Refused}
use Rattle.verdict.specs.declared.Verdict.{Verdict}
use Rattle.verdict.specs.Orders.{in_order, good, is_good, told}
use Rattle.verdict.proofs.Told.{not-good}
use Rattle.taking.specs.Roles.{Role, Other, Is, Heard, asked, verdict_asked, role_in_answer, heard_told}
use Rattle.taking.specs.Takes.{role_in, role_of, heard_as, taken_as, taken}

-- a refusal is not good
pub refused_bad : (e : Refused) → is_good (told {A = ℕ} (Err e)) ≡ false
refused_bad e = not-good e.refusal e.place

module _ (rs : List Row) (p : List ℕ) where
  heard-so : (v : Verdict) (r : Role) → v ≡ judged_packet rs p → r ≡ role_of rs p → asked (record { verdict = v; role = r }) ≡ asked (heard_as rs p)
  heard-so v r e q = λ i. asked (record { verdict = e i; role = q i })

  -- a frame that is refused
  pub frame_heard : (x : Result (Option Reply) Refused) → IsErr x → told x ≡ in_order (frame_tests 1024 p) good → heard_told x ≡ asked (heard_as rs p)
  unfolding role_of
  frame_heard (Ok o) h e = absurd (false≢true h)
  frame_heard (Err f) h e =
      heard-so (told {A = ℕ} (Err f)) Other (frame-decides rs p {A = ℕ} (Err f) h e) (simp (ap is_good (sym e) ∙ not-good f.refusal f.place))

  -- and one that is not: v is what was told of its content, and h what was heard of it
  pub content_heard : (v : Verdict) (k : ℕ) (h : Heard) → good ≡ in_order (frame_tests 1024 p) good → v ≡ judged_content rs p → k ≡ command_of p
      → h ≡ asked (record { verdict = v; role = role_in (is_good v) k }) → h ≡ asked (heard_as rs p)
  unfolding role_of
  content_heard v k h framed content command e =
      let r : role_in (is_good v) k ≡ role_of rs p =
      ap (λ (w : Verdict). role_in (is_good w) k) content
      ∙ ap (role_in (is_good (judged_content rs p))) command
      ∙ simp (ap is_good (sym framed)) in
      e ∙ heard-so v (role_in (is_good v) k) (content-decides rs p v framed content) r

pub ruleset hearing = (frame_heard, content_heard)

-- h is what was heard, a what is handed back
module _ (rs : List Row) (x : Exchanges) (p : List ℕ) (a : Replied) where
  so : (r : Role) (v : Verdict) → ◌≡◌ {A = Heard} (record { verdict = v; role = r }) (asked (heard_as rs p))
      → taken_as r x (header_of p).source (header_of p).serial v ≡ taken rs x p
  unfolding taken taken_as
  so r v e =
      ap (λ (h : Heard). taken_as h.role x (header_of p).source (header_of p).serial h.verdict) e
      ∙ by-role (role_of rs p)
    where
      by-role : (r : Role) → taken_as r x (header_of p).source (header_of p).serial (verdict_asked r (judged_packet rs p))
          ≡ taken_as r x (header_of p).source (header_of p).serial (judged_packet rs p)
      by-role Other = refl
      by-role (Is w) = refl

  pub reply_taken : (w : Reply) (l : List ℕ) (s : ℕ) → ◌≡◌ {A = Heard} (record { verdict = good; role = Is w }) (asked (heard_as rs p)) → l ≡ one_by_one p 12 6
      → s ≡ low_first (take 2 (drop 2 p)) → a ≡ answered x l s w → a ≡ taken rs x p
  unfolding taken_as
  reply_taken w l s e k q t = t ∙ (λ i. answered x (k i) (q i) w) ∙ so (Is w) good e

  pub other_taken : (h : Result (Option Reply) Refused) (v : Verdict) → heard_told h ≡ asked (heard_as rs p) → role_in_answer h ≡ Other → v ≡ told h → a ≡ untold x v
      → a ≡ taken rs x p
  unfolding taken_as
  other_taken h v e other k t = t ∙ ap (untold x) k ∙ so Other (told h) ((λ i. record { verdict = told h; role = sym other i }) ∙ e)

pub ruleset takes = (reply_taken, other_taken)
