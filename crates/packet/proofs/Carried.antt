-- What a packet carries: L bytes, and under 3 and 6 any (document 02, Q-2). Assumes nothing.
use Prim.Native.Nat.{ℕ, ◌+◌, ◌≤◌}
use native.Mathlib.Omega.{arith}
use mathlib.Core.Bool.{true}
use mathlib.Core.List.{List}
use mathlib.Core.Path.{◌≡◌, refl, ap, ◌∙◌}
use lib.ListN.{length}
use Rattle.frame.specs.Frame.{unit_length, frame_tests}
use Rattle.frame.proofs.Framed.{good-framed}
use Rattle.kinds.specs.declared.Row.{Row}
use Rattle.octets.proofs.Parts.{length_part}
use Rattle.unit.specs.Units.{is_kept}
use Rattle.unit.proofs.Under.{kept-good}
use Rattle.verdict.specs.Orders.{in_order, good, is_good}
use Rattle.verdict.proofs.Order.{exchanged}
use Rattle.packet.specs.Frames.{command_of, unit_of, header_tests, judged_content, judged_packet}

pub unit-long : (p : List ℕ) → is_good (in_order (frame_tests 1024 p) good) ≡ true → (length (unit_of p) ≡ unit_length p) × (unit_length p ≤ 1024)
unit-long p g =
    let f = good-framed 1024 p g in
    (length_part p 27 (27 + unit_length p) (omega arith) (omega (arith, f.long)) ∙ omega arith, f.few)

-- "For 3 and 6 a unit of 0 to 1,024 bytes is accepted .. and not judged as a unit": frame and header alone decide on such a packet
pub kept-packet : (rs : List Row) (p : List ℕ) → is_kept (command_of p) ≡ true → judged_packet rs p ≡ in_order (frame_tests 1024 p) (in_order (header_tests p) good)
unfolding judged_packet judged_content
kept-packet rs p e =
    exchanged (frame_tests 1024 p) _ _ refl
    (λ g. let fits = unit-long p g in ap (in_order (header_tests p)) (kept-good rs (command_of p) (unit_of p) e (omega (arith, fits.0, fits.1))))
