-- Counting: where each of n holders holds one of the candidates at most, one of n + 1 candidates is held by none.
-- By induction on the run that is counted. Assumes nothing.
use Prim.Native.Nat.{ℕ, zero, suc, ◌+◌, ◌≤◌, ◌<◌}
use native.Mathlib.Nat.{eq-or-lt_of_le}
use native.Mathlib.Omega.{arith}
use mathlib.Core.Bool.{Bool, true, false, not, cond, ◌||◌, true≢false, false≢true}
use mathlib.Core.Logic.{⊎_elim}
use mathlib.Core.Path.{◌≡◌, refl, sym, subst}
use borrow.Author.Tests.{not-false}
use Rattle.octets.specs.Searches.{first_fit, any_fits}
use Rattle.octets.proofs.Searches.{first_to, first_fits, first-none}

-- how many of a run of n places from i on fit
unfoldable pub how_many : (ℕ → Bool) → ℕ → ℕ → ℕ
how_many f i zero = 0
how_many f i (suc n) = cond (f i) 1 0 + how_many f (suc i) n

many-or : (f g : ℕ → Bool) (i n : ℕ) → how_many (λ k. f k || g k) i n ≤ how_many f i n + how_many g i n
unfolding how_many
many-or f g i zero = omega arith
many-or f g i (suc n) = by-test (f i) (g i) (how_many (λ k. f k || g k) (suc i) n) (how_many f (suc i) n) (how_many g (suc i) n) (many-or f g (suc i) n)
  where
    by-test : (a b : Bool) (m x y : ℕ) → m ≤ x + y → cond (a || b) 1 0 + m ≤ cond a 1 0 + x + (cond b 1 0 + y)
    by-test true true m x y ih = omega arith
    by-test true false m x y ih = omega arith
    by-test false true m x y ih = omega arith
    by-test false false m x y ih = omega arith

module _ (f : ℕ → Bool) where
  many-none : (i n : ℕ) → ((k : ℕ) → i ≤ k → k < i + n → f k ≡ false) → how_many f i n ≡ 0
  unfolding how_many
  many-none i zero h = refl
  many-none i (suc n) h = by-test (f i) (h i (omega arith) (omega arith)) (many-none (suc i) n (λ k l u. h k (omega arith) (omega arith)))
    where
      by-test : (t : Bool) → t ≡ false → how_many f (suc i) n ≡ 0 → cond t 1 0 + how_many f (suc i) n ≡ 0
      by-test true e ih = absurd (true≢false e)
      by-test false e ih = omega arith

  many-all : (i n : ℕ) → ((k : ℕ) → i ≤ k → k < i + n → f k ≡ true) → how_many f i n ≡ n
  unfolding how_many
  many-all i zero h = refl
  many-all i (suc n) h = by-test (f i) (h i (omega arith) (omega arith)) (many-all (suc i) n (λ k l u. h k (omega arith) (omega arith)))
    where
      by-test : (t : Bool) → t ≡ true → how_many f (suc i) n ≡ n → cond t 1 0 + how_many f (suc i) n ≡ suc n
      by-test true e ih = omega arith
      by-test false e ih = absurd (false≢true e)

  -- no two fit
  abbrev pub Single : ℕ → ℕ → Type 0
  Single i n = (j k : ℕ) → i ≤ j → j < k → k < i + n → f j ≡ true → f k ≡ false

  many-one : (i n : ℕ) → Single i n → how_many f i n ≤ 1
  unfolding how_many
  many-one i zero h = omega arith
  many-one i (suc n) h = by-test (f i) refl (many-one (suc i) n (λ j k l u v. h j k (omega arith) u (omega arith)))
    where
      by-test : (t : Bool) → f i ≡ t → how_many f (suc i) n ≤ 1 → cond t 1 0 + how_many f (suc i) n ≤ 1
      by-test true e ih =
          let none = many-none (suc i) n (λ k l u. h i k (omega arith) l (omega arith) e) in
          omega arith
      by-test false e ih = omega arith

-- n holders hold n candidates at most
many-any : (h : ℕ → ℕ → Bool) (i m : ℕ) → ((k : ℕ) → Single (h k) i m) → (from n : ℕ) → how_many (λ j. any_fits (λ k. h k j) from n) i m ≤ n
unfolding any_fits
many-any h i m one from zero = let none = many-none (λ j. false) i m (λ k l u. refl) in omega arith
many-any h i m one from (suc n) =
    let ih = many-any h i m one (suc from) n in
    let both = many-or (h from) (λ j. any_fits (λ k. h k j) (suc from) n) i m in
    let one' = many-one (h from) i m (one from) in
    omega arith

-- so the first of the candidates that none holds is among the first n + 1
pub first-unheld : (h : ℕ → ℕ → Bool) (from n : ℕ) → ((k : ℕ) → Single (h k) 0 (suc n))
    → not (any_fits (λ k. h k (first_fit (λ j. not (any_fits (λ k. h k j) from n)) 0 n)) from n) ≡ true
first-unheld h from n one =
    ⊎_elim
    (λ (e : at ≡ n). subst (λ (j : ℕ). unheld j ≡ true) (sym e) (by-test (unheld n) refl e))
    (λ (l : at < n). first_fits unheld 0 n (omega arith))
    (eq-or-lt_of_le (let l = first_to unheld 0 n in omega arith))
  where
    unheld : ℕ → Bool
    unheld j = not (any_fits (λ k. h k j) from n)

    at : ℕ
    at = first_fit unheld 0 n

    held : (k : ℕ) → at ≡ n → k ≤ n → unheld n ≡ false → any_fits (λ i. h i k) from n ≡ true
    held k e l q =
        not-false (any_fits (λ i. h i k) from n)
        (⊎_elim (λ (same : k ≡ n). subst (λ (j : ℕ). unheld j ≡ false) (sym same) q)
        (λ (below : k < n). first-none unheld 0 n k (omega arith) (omega arith)) (eq-or-lt_of_le l))

    by-test : (t : Bool) → unheld n ≡ t → at ≡ n → t ≡ true
    by-test true q e = refl
    by-test false q e =
        let all = many-all (λ j. any_fits (λ k. h k j) from n) 0 (suc n) (λ k l u. held k e (omega arith) q) in
        let few = many-any h 0 (suc n) one from n in
        absurd (omega arith)
