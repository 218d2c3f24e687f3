-- The searches that the documents' sentences speak of: "the first bad object", "the lowest free place", "no such part".
-- Each is over a test and a run of n places from i on, the last over a list. Assumes nothing.
use Rattle.std.specs.Prelude.{ℕ, zero, suc, Bool, true, false, not, cond, ◌&&◌, ◌||◌, List, [], ◌∷◌, eqb}

-- the first place that fits, the end of the run where none does
unfoldable pub first_fit : (ℕ → Bool) → ℕ → ℕ → ℕ
first_fit f i zero = i
first_fit f i (suc n) = cond (f i) i (first_fit f (suc i) n)

-- the first place that the test refuses
abbrev pub first_refused : (ℕ → Bool) → ℕ → ℕ → ℕ
first_refused f = first_fit (λ k. not (f k))

-- whether any fits
unfoldable pub any_fits : (ℕ → Bool) → ℕ → ℕ → Bool
any_fits f i zero = false
any_fits f i (suc n) = f i || any_fits f (suc i) n

-- whether all do
abbrev pub all_fit : (ℕ → Bool) → ℕ → ℕ → Bool
all_fit f i n = not (any_fits (λ k. not (f k)) i n)

-- whether every element of a list passes a test
unfoldable pub every : {A : Type 0} → (A → Bool) → List A → Bool
every f [] = true
every f (x ∷ xs) = f x && every f xs

-- whether two lists have the same numbers
unfoldable pub same : List ℕ → List ℕ → Bool
same [] [] = true
same [] (y ∷ ys) = false
same (x ∷ xs) [] = false
same (x ∷ xs) (y ∷ ys) = eqb x y && same xs ys

-- "reads zero"
abbrev pub all_zero : List ℕ → Bool
all_zero = every (λ b. eqb b 0)
