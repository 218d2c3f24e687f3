-- A row that is filled from its end with the images of another row's elements: before the first turn, a turn of the loop that fills, and one that has
-- nothing to change. By induction on both rows. Assumes nothing.
use Prim.Native.Nat.{ℕ, zero, suc, ◌<◌}
use native.Mathlib.Nat.{not-suc-le-zero, le_of_suc-le-suc}
use native.Mathlib.Omega.{arith}
use mathlib.Core.Path.{◌≡◌, refl, ap}
use mathlib.Core.List.{List, [], ◌∷◌, map}
use lib.ListN.{length, get_or, set}

module _ {A B : Type 0} (f : A → B) where
  -- the first i elements are as they were, the rest are images; of all, where i is 0
  unfoldable pub filled_from : List B → List A → ℕ → List B
  filled_from d s zero = map f s
  filled_from [] s (suc i) = []
  filled_from (x ∷ d) [] (suc i) = []
  filled_from (x ∷ d) (a ∷ s) (suc i) = x ∷ filled_from d s i

  pub fill_none : (d : List B) (s : List A) → length d ≡ length s → d ≡ filled_from d s (length s)
  unfolding filled_from
  fill_none [] [] e = refl
  fill_none (x ∷ d) [] e = absurd (omega arith)
  fill_none [] (a ∷ s) e = absurd (omega arith)
  fill_none (x ∷ d) (a ∷ s) e = ap (λ (l : List B). x ∷ l) (fill_none d s (omega arith))

  pub fill-all : (d : List B) (s : List A) → filled_from d s 0 ≡ map f s
  unfolding filled_from
  fill-all d s = refl

  pub fill-turn : (d : List B) (s : List A) (i : ℕ) (z : A) → length d ≡ length s → i < length s
      → set (filled_from d s (suc i)) i (f (get_or s i z)) ≡ filled_from d s i
  unfolding filled_from
  fill-turn d [] i z e h = absurd (not-suc-le-zero h)
  fill-turn [] (a ∷ s) i z e h = absurd (omega arith)
  fill-turn (x ∷ d) (a ∷ s) zero z e h = refl
  fill-turn (x ∷ d) (a ∷ s) (suc i) z e h = ap (λ (l : List B). x ∷ l) (fill-turn d s i z (omega arith) (le_of_suc-le-suc h))

  -- where the element is its own image
  pub fill_on : (d : List B) (s : List A) (i : ℕ) (y : B) (z : A) → length d ≡ length s → i < length s → get_or d i y ≡ f (get_or s i z)
      → filled_from d s (suc i) ≡ filled_from d s i
  unfolding filled_from
  fill_on d [] i y z e h q = absurd (not-suc-le-zero h)
  fill_on [] (a ∷ s) i y z e h q = absurd (omega arith)
  fill_on (x ∷ d) (a ∷ s) zero y z e h q = ap (λ (b : B). b ∷ map f s) q
  fill_on (x ∷ d) (a ∷ s) (suc i) y z e h q = ap (λ (l : List B). x ∷ l) (fill_on d s i y z (omega arith) (le_of_suc-le-suc h) q)
