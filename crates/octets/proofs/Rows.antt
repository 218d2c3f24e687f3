-- The laws of lists that two crates want and the library lacks. Assumes nothing.
use Prim.Native.Nat.{ℕ, zero, suc, ◌-◌, ◌<◌}
use native.Mathlib.Nat.{not-suc-le-zero, le_of_suc-le-suc, le_of_eq, zero-sub, suc-sub-suc, sub-zero}
use mathlib.Core.Path.{◌≡◌, refl, sym, ap, ◌∙◌}
use mathlib.Core.List.{List, [], ◌∷◌, ◌++◌}
use lib.ListN.{length, get_or, take, drop}
use lib.Seq.{take-nil}

-- inside a list, what would stand behind its end does not matter
pub get_or-inside : {A : Type 0} (l : List A) (n : ℕ) (d e : A) → n < length l → get_or l n d ≡ get_or l n e
get_or-inside [] n d e h = absurd (not-suc-le-zero h)
get_or-inside (x ∷ l) zero d e h = refl
get_or-inside (x ∷ l) (suc n) d e h = get_or-inside l n d e (le_of_suc-le-suc h)

pub no-elements : {A : Type 0} (l : List A) → length l ≡ 0 → l ≡ []
no-elements [] h = refl
no-elements (x ∷ l) h = absurd (not-suc-le-zero (le_of_eq h))

-- two rows read as one: what stands behind a place, and before it
pub drop-over : {A : Type 0} (k : ℕ) (a b : List A) → drop k (a ++ b) ≡ drop k a ++ drop (k - length a) b
drop-over zero a b = simp (zero-sub (length a))
drop-over (suc k) [] b = simp (sub-zero (suc k))
drop-over (suc k) (x ∷ a) b = simp (suc-sub-suc k (length a)) (drop-over k a b)

pub take-over : {A : Type 0} (n : ℕ) (a b : List A) → take n (a ++ b) ≡ take n a ++ take (n - length a) b
take-over zero a b = simp (zero-sub (length a))
take-over (suc n) [] b = simp (sub-zero (suc n))
take-over {A} (suc n) (x ∷ a) b = simp (suc-sub-suc n (length a)) (ap (λ (t : List A). x ∷ t) (take-over n a b))

-- a part of a beginning is a beginning of the part
pub drop-take : {A : Type 0} (k n : ℕ) (l : List A) → drop k (take n l) ≡ take (n - k) (drop k l)
drop-take zero n l = ap (λ (m : ℕ). take m l) (sym (sub-zero n))
drop-take (suc k) zero l = ap (λ (m : ℕ). take m (drop (suc k) l)) (sym (zero-sub (suc k)))
drop-take (suc k) (suc n) [] = sym (take-nil (suc n - suc k))
drop-take (suc k) (suc n) (x ∷ l) = drop-take k n l ∙ ap (λ (m : ℕ). take m (drop k l)) (sym (suc-sub-suc n k))
