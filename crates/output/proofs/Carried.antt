-- What an output with room carries: L bytes, and under 3 and 6 any (document 02, Q-2). Assumes nothing.
use Prim.Native.Nat.{ℕ, ◌+◌, ◌≤◌}
use native.Mathlib.Omega.{arith}
use mathlib.Core.Bool.{true}
use mathlib.Core.List.{List}
use mathlib.Core.Path.{◌≡◌, refl, ap, ◌∙◌}
use lib.ListN.{length}
use Rattle.kinds.specs.declared.Row.{Row}
use Rattle.octets.specs.Parts.{part}
use Rattle.octets.proofs.Parts.{length_part}
use Rattle.packet.specs.declared.Header.{Header}
use Rattle.unit.specs.Units.{is_kept}
use Rattle.unit.proofs.Under.{kept-good}
use Rattle.verdict.specs.Orders.{in_order, good, is_good}
use Rattle.verdict.proofs.Order.{exchanged}
use Rattle.output.specs.Writing.{room_tests, field_tests, packet_verdict}
use Rattle.output.proofs.Judging.{roomy}

pub output-long : (out : List ℕ) (l : ℕ) → is_good (in_order (room_tests out l 30) good) ≡ true → (length (part out 27 (27 + l)) ≡ l) × (l ≤ 1024)
output-long out l g =
    let r = roomy out l 30 g in
    (length_part out 27 (27 + l) (omega arith) (omega (arith, r.1)) ∙ omega arith, r.0)

-- ".. and the writer can send one": length, room, command and label alone decide on it
pub kept-written : (rs : List Row) (out : List ℕ) (h : Header) (l : ℕ) → is_kept h.command ≡ true
    → packet_verdict rs out h l ≡ in_order (room_tests out l 30) (in_order (field_tests h) good)
unfolding packet_verdict
kept-written rs out h l e =
    exchanged (room_tests out l 30) _ _ refl
    (λ g. let fits = output-long out l g in ap (in_order (field_tests h)) (kept-good rs h.command (part out 27 (27 + l)) e (omega (arith, fits.0, fits.1))))
