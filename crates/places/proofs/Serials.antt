-- Serials one after the other, past 65,535 to 0, and that the serial given is not open: no more serials are open than there are places.
-- Assumes nothing.
use Prim.Native.Nat.{ℕ, suc, ◌+◌, ◌-◌, ◌<◌}
use native.Mathlib.Omega.{arith}
use mathlib.Core.Bool.{Bool, true, false}
use mathlib.Core.List.{List}
use mathlib.Core.Path.{◌≡◌, refl, sym, ◌∙◌}
use borrow.Author.Tests.{not-true, not-false}
use Rattle.octets.specs.Searches.{first_fit}
use Rattle.octets.proofs.Searches.{first-none}
use Rattle.place.specs.declared.Place.{Place}
use Rattle.place.specs.Rules.{holds}
use Rattle.place.proofs.Kept.{holds-is}
use Rattle.places.specs.Rows.{place_at, holds_at, is_open_as, upward, unopened, serial_for}
use Rattle.places.proofs.Counting.{Single, first-unheld}

pub upward-none : (s : ℕ) → s < 65536 → s ≡ upward s 0
upward-none s h = omega arith

pub upward-more : (s j : ℕ) → upward (upward s j) 1 ≡ upward s (j + 1)
upward-more s j = omega arith

-- serials nearer to one another than 65,536 are different
pub upward-apart : (s j k : ℕ) → j < k → k - j < 65536 → upward s j ≡ upward s k → ⊥
upward-apart s j k l h e = omega arith

module _ (ps : List Place) (from to next : ℕ) where
  -- a place is open under one of them at most
  single : to - from < 65536 → (k : ℕ) → Single (λ j. holds_at ps (upward next j) k) 0 (suc (to - from))
  single few k i j l u v e = by-test (holds (upward next j) (place_at ps k)) refl
    where
      by-test : (t : Bool) → holds (upward next j) (place_at ps k) ≡ t → t ≡ false
      by-test false q = refl
      by-test true q =
          absurd
          (upward-apart next i j u (omega arith)
          (sym (holds-is (upward next i) (place_at ps k) e).1 ∙ (holds-is (upward next j) (place_at ps k) q).1))

  -- "Giving out a serial still open" does not happen, whatever the places hold
  pub serial-unopened : to - from < 65536 → is_open_as ps from to (serial_for ps from to next) ≡ false
  unfolding is_open_as serial_for
  serial-unopened few = not-true _ (first-unheld (λ k j. holds_at ps (upward next j) k) from (to - from) (single few))

  -- and it is the first: each serial from the next one up to it is open
  pub serial-first : (j : ℕ) → j < first_fit (unopened ps from to next) 0 (to - from) → is_open_as ps from to (upward next j) ≡ true
  serial-first j h = not-false (is_open_as ps from to (upward next j)) (first-none (unopened ps from to next) 0 (to - from) j (omega arith) h)
