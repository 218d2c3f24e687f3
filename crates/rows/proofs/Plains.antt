-- The bytes before the first 64, counted block by block and then one by one. Assumes nothing.
use Prim.Native.Nat.{ℕ, zero, suc, ◌+◌, ◌-◌, ◌≤◌, ◌<◌, min}
use native.Mathlib.Omega.{arith}
use mathlib.Core.Bool.{Bool, true, false, not, cond, and-eq-true_iff}
use mathlib.Core.List.{List, [], ◌∷◌}
use mathlib.Core.Path.{◌≡◌, refl, sym, ap, ◌∙◌}
use borrow.Author.Tests.{eqb-true, eq-eqb, not-true, ltb-false}
use lib.Dec.{eqb, ltb}
use lib.ListN.{length, get_or, take, drop}
use Rattle.std.specs.List.{position, position_or_len}
use Rattle.std.specs.Option.{unwrap_or}
use Rattle.std.specs.Prelude.{Option, Some, None}
use Rattle.std.proofs.lemmas.List.Recursion.{is_position_or_len}
use Rattle.octets.specs.Searches.{every}
use Rattle.rows.specs.Runs.{plain_run, no64}
use Rattle.rows.specs.Blocks.{Passed}

plain-long : (xs : List ℕ) → plain_run xs ≤ length xs
unfolding plain_run
plain-long [] = omega arith
plain-long (x ∷ xs) = by-test (eqb x 64) (plain-long xs)
  where
    by-test : (t : Bool) → plain_run xs ≤ length xs → cond t 0 (suc (plain_run xs)) ≤ suc (length xs)
    by-test true ih = omega arith
    by-test false ih = omega arith

pub plain-zero : (xs : List ℕ) (r : ℕ) → r ≡ get_or xs 0 0 → r ≡ 64 → 0 ≡ plain_run xs
unfolding plain_run
plain-zero [] r e t = refl
plain-zero (x ∷ xs) r e t = rw (eq-eqb x 64 (sym e ∙ t)) refl

-- bytes without a 64 among them are before the first
plain-block : (n : ℕ) (xs : List ℕ) → n ≤ length xs → no64 (take n xs) ≡ true → plain_run xs ≡ n + plain_run (drop n xs)
unfolding plain_run every
plain-block zero xs h a = omega arith
plain-block (suc n) [] h a = absurd (omega arith)
plain-block (suc n) (x ∷ xs) h a =
    let both = (and-eq-true_iff (not (eqb x 64)) (no64 (take n xs))).0 a in
    rw (not-true (eqb x 64) both.0) (omega (arith, plain-block n xs (omega arith) both.1))

-- what is left after bytes without a 64, and the first of it
pub plain-left : (s rest : List ℕ) (r : ℕ) → Passed (λ b. not (eqb b 64)) s rest → r ≡ plain_run rest → length s - length rest + r ≡ plain_run s
plain-left s rest r p e =
    let at = length s - length rest in
    omega (arith, e, plain-block at s (omega arith) p.pass, ap plain_run p.is)

pub plain-fits : (s rest : List ℕ) (r : ℕ) → Passed (λ b. not (eqb b 64)) s rest → r ≡ plain_run rest → length s - length rest + r ≤ length s
plain-fits s rest r p e = omega (arith, plain-left s rest r p e, plain-long s)

-- std's search for the first 64, which answers none behind the end
plain_is : (s : List ℕ) → plain_run s ≡ position_or_len (λ b. eqb b 64) s
unfolding plain_run
plain_is s = is_position_or_len plain_run (λ b. eqb b 64) refl (λ x xs. by-test (eqb x 64) (plain_run xs)) s
  where
    by-test : (t : Bool) (n : ℕ) → cond t 0 (suc n) ≡ cond t 0 (1 + n)
    by-test true n = refl
    by-test false n = omega arith

pub plain-first : (s : List ℕ) (o : Option ℕ) (r : ℕ) → o ≡ position (λ b. eqb b 64) s → r ≡ unwrap_or o (length s) → r ≡ plain_run s
plain-first s o r e u = u ∙ ap (λ (o : Option ℕ). unwrap_or o (length s)) e ∙ by-test (ltb (position_or_len (λ b. eqb b 64) s) (length s)) refl
  where
    by-test : (t : Bool) → ltb (position_or_len (λ b. eqb b 64) s) (length s) ≡ t
        → unwrap_or (cond t (Some (position_or_len (λ b. eqb b 64) s)) None) (length s) ≡ plain_run s
    by-test true e = sym (plain_is s)
    by-test false e = omega (arith, ltb-false (position_or_len (λ b. eqb b 64) s) (length s) e, plain_is s, plain-long s)

-- as many of them as a limit lets be seen
pub plain-take : (k : ℕ) (xs : List ℕ) → plain_run (take k xs) ≡ min k (plain_run xs)
unfolding plain_run
plain-take zero xs = omega arith
plain-take (suc k) [] = omega arith
plain-take (suc k) (x ∷ xs) = by-test (eqb x 64) (plain-take k xs)
  where
    by-test : (t : Bool) → plain_run (take k xs) ≡ min k (plain_run xs) → cond t 0 (suc (plain_run (take k xs))) ≡ min (suc k) (cond t 0 (suc (plain_run xs)))
    by-test true ih = omega arith
    by-test false ih = omega arith

-- behind them stands a 64, where they do not reach the end
pub plain-next : (xs : List ℕ) → plain_run xs < length xs → get_or xs (plain_run xs) 0 ≡ 64
unfolding plain_run
plain-next [] h = absurd (omega arith)
plain-next (x ∷ xs) h = by-test (eqb x 64) refl h (plain-next xs)
  where
    by-test : (t : Bool) → eqb x 64 ≡ t → cond t 0 (suc (plain_run xs)) < suc (length xs) → (plain_run xs < length xs → get_or xs (plain_run xs) 0 ≡ 64)
        → get_or (x ∷ xs) (cond t 0 (suc (plain_run xs))) 0 ≡ 64
    by-test true e h ih = eqb-true x 64 e
    by-test false e h ih = ih (omega arith)

pub ruleset plains = (plain-zero, plain-left, plain-fits, plain-first)
