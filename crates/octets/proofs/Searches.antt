-- The laws of the searches: a turn of the loop that searches, what the place found has, and what the places before it lack.
-- By induction on the number of places left. Assumes nothing.
use Prim.Native.Nat.{ℕ, zero, suc, ◌+◌, ◌-◌, ◌≤◌, ◌<◌}
use native.Mathlib.Nat.{eq-or-lt_of_le}
use native.Mathlib.Numerals.{add-one}
use native.Mathlib.Omega.{arith}
use mathlib.Core.Bool.{Bool, true, false, not, cond, ◌&&◌, ◌||◌, and_assoc, true≢false, false≢true}
use mathlib.Core.List.{List, [], ◌∷◌, ◌++◌}
use mathlib.Core.Logic.{⊎_elim}
use borrow.Author.Tests.{not-true, not-false, ltb-true, ltb-false}
use mathlib.Core.Path.{◌≡◌, refl, sym, ap, subst, ◌∙◌}
use lib.Dec.{ltb}
use Rattle.octets.specs.Searches.{first_fit, any_fits, all_fit, every}
use Rattle.octets.proofs.Flags.{by-test}

left : (i n : ℕ) → i < n → n - i ≡ suc (n - (i + 1))
left i n h = omega arith

module _ (f : ℕ → Bool) where
  -- a loop from i up to n has come to the end
  pub first-end : (i n : ℕ) → n ≤ i → first_fit f i (n - i) ≡ i
  unfolding first_fit
  first-end i n h = let none : n - i ≡ 0 = omega arith in simp none

  -- it has come to a place that fits
  pub first-here : (i n : ℕ) → i < n → f i ≡ true → first_fit f i (n - i) ≡ i
  unfolding first_fit
  first-here i n h e = simp (left i n h, e)

  -- to one that does not, and goes on
  pub first_on : (i n : ℕ) → i < n → f i ≡ false → first_fit f i (n - i) ≡ first_fit f (i + 1) (n - (i + 1))
  unfolding first_fit
  first_on i n h e = simp (left i n h, e, add-one i)

  -- the place found lies in the run or at its end
  pub first-from : (i n : ℕ) → i ≤ first_fit f i n
  unfolding first_fit
  first-from i zero = omega arith
  first-from i (suc n) = by-test (f i) (first-from (suc i) n)
    where
      by-test : (t : Bool) → suc i ≤ first_fit f (suc i) n → i ≤ cond t i (first_fit f (suc i) n)
      by-test true ih = omega arith
      by-test false ih = omega arith

  pub first_to : (i n : ℕ) → first_fit f i n ≤ i + n
  unfolding first_fit
  first_to i zero = omega arith
  first_to i (suc n) = by-test (f i) (first_to (suc i) n)
    where
      by-test : (t : Bool) → first_fit f (suc i) n ≤ suc i + n → cond t i (first_fit f (suc i) n) ≤ i + suc n
      by-test true ih = omega arith
      by-test false ih = omega arith

  -- it fits, unless it is the end
  pub first_fits : (i n : ℕ) → first_fit f i n < i + n → f (first_fit f i n) ≡ true
  unfolding first_fit
  first_fits i zero h = absurd (omega arith)
  first_fits i (suc n) h = by-test (f i) refl h (first_fits (suc i) n)
    where
      by-test : (t : Bool) → f i ≡ t → cond t i (first_fit f (suc i) n) < i + suc n → (first_fit f (suc i) n < suc i + n → f (first_fit f (suc i) n) ≡ true) → f (cond t i (first_fit f (suc i) n)) ≡ true
      by-test true e k ih = e
      by-test false e k ih = ih (omega arith)

  -- and none before it does
  pub first-none : (i n k : ℕ) → i ≤ k → k < first_fit f i n → f k ≡ false
  unfolding first_fit
  first-none i zero k l h = absurd (omega arith)
  first-none i (suc n) k l h = by-test (f i) refl h (first-none (suc i) n k)
    where
      by-test : (t : Bool) → f i ≡ t → k < cond t i (first_fit f (suc i) n) → (suc i ≤ k → k < first_fit f (suc i) n → f k ≡ false) → f k ≡ false
      by-test true e h ih = absurd (omega arith)
      by-test false e h ih =
          ⊎_elim (λ (q : i ≡ k). subst (λ (m : ℕ). f m ≡ false) q e) (λ (q : i < k). ih q h) (eq-or-lt_of_le l)

  -- where no place of the run fits, the end is found
  pub first_absent : (i n : ℕ) → ((k : ℕ) → i ≤ k → k < i + n → f k ≡ false) → first_fit f i n ≡ i + n
  unfolding first_fit
  first_absent i zero h = omega arith
  first_absent i (suc n) h =
      simp (h i (omega arith) (omega arith)) (omega (arith, first_absent (suc i) n (λ k l u. h k (omega arith) (omega arith))))

  pub first-all : (i n : ℕ) → ((k : ℕ) → f k ≡ false) → first_fit f i n ≡ i + n
  first-all i n h = first_absent i n (λ k l u. h k)

  -- the place found, from what it has and those before it lack
  pub first-is : (i n m : ℕ) → i ≤ m → m < i + n → f m ≡ true → ((k : ℕ) → i ≤ k → k < m → f k ≡ false) → first_fit f i n ≡ m
  first-is i n m l b here before =
      by-test (ltb (first_fit f i n) m)
      (λ t.
      let low = ltb-true (first_fit f i n) m t in
      absurd (false≢true (sym (before (first_fit f i n) (first-from i n) low) ∙ first_fits i n (omega (arith, low, b)))))
      (λ e. by-test (ltb m (first_fit f i n))
      (λ t. absurd (false≢true (sym (first-none i n m l (ltb-true m (first_fit f i n) t)) ∙ here)))
      (λ g. omega (arith, ltb-false (first_fit f i n) m e, ltb-false m (first_fit f i n) g)))

  -- the three turns again, for whether any fits
  pub any-end : (i n : ℕ) → n ≤ i → any_fits f i (n - i) ≡ false
  unfolding any_fits
  any-end i n h = let none : n - i ≡ 0 = omega arith in simp none

  pub any_here : (i n : ℕ) → i < n → f i ≡ true → any_fits f i (n - i) ≡ true
  unfolding any_fits
  any_here i n h e = simp (left i n h, e)

  pub any-on : (i n : ℕ) → i < n → f i ≡ false → any_fits f i (n - i) ≡ any_fits f (i + 1) (n - (i + 1))
  unfolding any_fits
  any-on i n h e = simp (left i n h, e, add-one i)

  -- where none fits, each place says so
  pub any_none : (i n k : ℕ) → any_fits f i n ≡ false → i ≤ k → k < i + n → f k ≡ false
  unfolding any_fits
  any_none i zero k a l h = absurd (omega arith)
  any_none i (suc n) k a l h = by-test (f i) refl a (any_none (suc i) n k)
    where
      by-test : (t : Bool) → f i ≡ t → t || any_fits f (suc i) n ≡ false → (any_fits f (suc i) n ≡ false → suc i ≤ k → k < suc i + n → f k ≡ false) → f k ≡ false
      by-test true e a ih = absurd (true≢false a)
      by-test false e a ih =
          ⊎_elim (λ (q : i ≡ k). subst (λ (m : ℕ). f m ≡ false) q e) (λ (q : i < k). ih a q (omega arith)) (eq-or-lt_of_le l)

  -- where any fits, the first that does is in the run
  pub any-first : (i n : ℕ) → any_fits f i n ≡ true → first_fit f i n < i + n
  unfolding any_fits first_fit
  any-first i zero a = absurd (false≢true a)
  any-first i (suc n) a = by-test (f i) a (any-first (suc i) n)
    where
      by-test : (t : Bool) → t || any_fits f (suc i) n ≡ true → (any_fits f (suc i) n ≡ true → first_fit f (suc i) n < suc i + n) → cond t i (first_fit f (suc i) n) < i + suc n
      by-test true a ih = omega arith
      by-test false a ih = let h : first_fit f (suc i) n < suc i + n = ih a in omega arith

  -- where each place of a run refuses, none fits
  pub none-fits : (i n : ℕ) → ((k : ℕ) → i ≤ k → k < i + n → f k ≡ false) → any_fits f i n ≡ false
  unfolding any_fits
  none-fits i zero h = refl
  none-fits i (suc n) h =
      simp (h i (omega arith) (omega arith)) (none-fits (suc i) n (λ k l u. h k (omega arith) (omega arith)))

-- two tests that agree on a run find the same place
pub first-same : (f g : ℕ → Bool) (i n : ℕ) → ((k : ℕ) → i ≤ k → k < i + n → f k ≡ g k) → first_fit f i n ≡ first_fit g i n
unfolding first_fit
first-same f g i zero h = refl
first-same f g i (suc n) h =
    (λ j. cond (h i (omega arith) (omega arith) j) i (first_fit f (suc i) n))
    ∙ ap (cond (g i) i) (first-same f g (suc i) n (λ k l u. h k (omega arith) (omega arith)))

-- two searches find something where what one finds the other finds too
module _ (f g : ℕ → Bool) (i n j m : ℕ) where
  pub found-there : ((k : ℕ) → i ≤ k → k < i + n → f k ≡ true → (j ≤ k) × (k < j + m) × (g k ≡ true)) → any_fits f i n ≡ true → any_fits g j m ≡ true
  found-there to e =
      let k = first_fit f i n in
      let h = any-first f i n e in
      let there = to k (first-from f i n) h (first_fits f i n h) in
      by-test (any_fits g j m) (λ t. t) (λ none. absurd (false≢true (sym (any_none g j m k none there.0 there.1) ∙ there.2)))

-- one list after another
pub every_append : {A : Type 0} (f : A → Bool) (s t : List A) → every f (s ++ t) ≡ (every f s && every f t)
unfolding every
every_append f [] t = refl
every_append f (x ∷ s) t = ap (λ (b : Bool). f x && b) (every_append f s t) ∙ sym (and_assoc (f x) (every f s) (every f t))

-- a rule that a computed test shows at every place of a table
pub all_fit_lem : (f : ℕ → Bool) (n k : ℕ) → all_fit f 0 n ≡ true → k < n → f k ≡ true
all_fit_lem f n k a h =
    not-false (f k) (any_none (λ (j : ℕ). not (f j)) 0 n k (not-true (any_fits (λ (j : ℕ). not (f j)) 0 n) a) (omega arith) (omega arith))
