-- A text written to the front of a lent row: what its two answers come to. Assumes nothing.
use Prim.Native.Nat.{ℕ, ◌≤◌, ◌<◌}
use native.Mathlib.Omega.{arith}
use mathlib.Core.Bool.{Bool, true, false, true≢false}
use mathlib.Core.List.{List}
use mathlib.Core.Path.{◌≡◌, refl, sym, ap, ◌∙◌}
use borrow.Author.Tests.{leb-false, le-leb, lt-leb}
use lib.Dec.{leb}
use lib.ListN.{length}
use Rattle.octets.specs.Parts.{put_at}
use Rattle.octets.proofs.Parts.{put-none}
use Rattle.verdict.specs.declared.Part.{Part}
use Rattle.verdict.specs.Orders.{in_order, refusal, good, is_good, no_part, part_by}
use Rattle.verdict.specs.Refusals.{ROOM}
use Rattle.naming.specs.Fronts.{front_part}

-- a text that is longer than the row
pub short_part : (t out : List ℕ) → length out < length t → front_part t out ≡ no_part (refusal ROOM 0)
unfolding front_part part_by in_order
short_part t out h = simp (lt-leb (length t) (length out) h)

pub short_kept : (t out : List ℕ) → length out < length t → put_at out 0 t ≡ out
short_kept t out h = put-none out 0 t (omega arith)

-- and one that fits
pub room_part : (t out : List ℕ) → length t ≤ length out → front_part t out ≡ record { verdict = good; from = 0; to = length t }
unfolding front_part part_by in_order
room_part t out h = simp (le-leb (length t) (length out) h)

-- a refusal writes nothing and stands nowhere
pub front-refused : (t out o : List ℕ) (p : Part) → p ≡ front_part t out → o ≡ put_at out 0 t → is_good p.verdict ≡ false → (p ≡ no_part p.verdict) × (o ≡ out)
unfolding front_part part_by in_order
front-refused t out o p e q bad = by-room (leb (length t) (length out)) refl
  where
    by-room : (b : Bool) → leb (length t) (length out) ≡ b → (p ≡ no_part p.verdict) × (o ≡ out)
    by-room true k =
        let written : p ≡ record { verdict = good; from = 0; to = length t } = e ∙ simp k in
        absurd (true≢false (sym (ap (λ (x : Part). is_good x.verdict) written) ∙ bad))
    by-room false k =
        let short : p ≡ no_part (refusal ROOM 0) = e ∙ simp k in
        (short ∙ ap (λ (x : Part). no_part x.verdict) (sym short), q ∙ put-none out 0 t (omega (arith, leb-false (length t) (length out) k)))
