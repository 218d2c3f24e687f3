-- The laws of the judge of a packet: a frame that is refused decides, and of one that is not what stands in it. Assumes nothing.
use Prim.Native.Nat.{ℕ}
use mathlib.Core.Bool.{false≢true}
use mathlib.Core.List.{List}
use mathlib.Core.Path.{◌≡◌, refl, sym, ap, ◌∙◌}
use Rattle.std.specs.Prelude.{Result, Ok, Err, IsErr}
use Rattle.frame.specs.Frame.{frame_tests}
use Rattle.kinds.specs.declared.Row.{Row}
use Rattle.verdict.specs.declared.Refused.{Refused}
use Rattle.verdict.specs.declared.Verdict.{Verdict}
use Rattle.verdict.specs.Orders.{in_order, good, is_good, told}
use Rattle.verdict.proofs.Order.{stays, goes_on}
use Rattle.verdict.proofs.Told.{not-good}
use Rattle.packet.specs.Frames.{judged_content, judged_packet}

module _ (rs : List Row) (p : List ℕ) where
  pub frame-decides : {A : Type 0} (x : Result A Refused) → IsErr x → told x ≡ in_order (frame_tests 1024 p) good → told x ≡ judged_packet rs p
  unfolding judged_packet
  frame-decides (Ok l) h e = absurd (false≢true h)
  frame-decides (Err f) h e = e ∙ sym (stays (frame_tests 1024 p) (judged_content rs p) (ap is_good (sym e) ∙ not-good f.refusal f.place))

  pub content-decides : (v : Verdict) → good ≡ in_order (frame_tests 1024 p) good → v ≡ judged_content rs p → v ≡ judged_packet rs p
  unfolding judged_packet
  content-decides v framed e = e ∙ sym (goes_on (frame_tests 1024 p) (judged_content rs p) refl (ap is_good (sym framed)))

pub ruleset judging = (frame-decides, content-decides)
