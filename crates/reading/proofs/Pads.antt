-- The laws of a row that reads zero behind its held bytes. Assumes nothing.
use Prim.Native.Nat.{ℕ, zero, suc, ◌-◌, ◌≤◌}
use native.Mathlib.Omega.{arith}
use mathlib.Core.Bool.{true, and-eq-true_iff}
use mathlib.Core.List.{List, [], ◌∷◌, ◌++◌}
use mathlib.Core.Path.{◌≡◌, refl, sym, ap, ◌∙◌}
use borrow.Author.Tests.{eqb-true}
use lib.Dec.{eqb}
use lib.ListN.{length, take, drop, replicate, length-append, length-replicate, length-drop, take-append-drop}
use lib.Seq.{take-append_seam, drop-append_seam, length-take-le}
use Rattle.octets.specs.Searches.{every, all_zero}
use Rattle.reading.specs.Calls.{pad_to}

pub pad-long : (n : ℕ) (xs : List ℕ) → length xs ≤ n → length (pad_to n xs) ≡ n
unfolding pad_to
pad-long n xs h = omega (arith, length-append xs (replicate (n - length xs) 0), length-replicate {A = ℕ} (n - length xs) 0)

pub pad-front : (n : ℕ) (xs : List ℕ) → take (length xs) (pad_to n xs) ≡ xs
unfolding pad_to
pad-front n xs = take-append_seam xs (replicate (n - length xs) 0)

pub zeros-zero : (n : ℕ) → all_zero (replicate n 0) ≡ true
unfolding every
zeros-zero zero = refl
zeros-zero (suc n) = zeros-zero n

pub zero-zeros : (xs : List ℕ) → all_zero xs ≡ true → xs ≡ replicate (length xs) 0
unfolding every
zero-zeros [] a = refl
zero-zeros (x ∷ xs) a =
    let both = (and-eq-true_iff (eqb x 0) (all_zero xs)).0 a in
    simp (eqb-true x 0 both.0) (ap (λ (t : List ℕ). 0 ∷ t) (zero-zeros xs both.1))

pub pad-behind : (n : ℕ) (xs : List ℕ) → all_zero (drop (length xs) (pad_to n xs)) ≡ true
unfolding pad_to
pad-behind n xs = ap all_zero (drop-append_seam xs (replicate (n - length xs) 0)) ∙ zeros-zero (n - length xs)

-- a row that is zero behind its first k bytes is those, and zero behind them
pub pad-is : (n k : ℕ) (row : List ℕ) → length row ≡ n → k ≤ n → all_zero (drop k row) ≡ true → row ≡ pad_to n (take k row)
unfolding pad_to
pad-is n k row long h a =
    let size : length (drop k row) ≡ n - length (take k row) = omega (arith, length-drop k row, length-take-le k row (omega arith)) in
    sym (take-append-drop k row)
    ∙ ap (λ (t : List ℕ). take k row ++ t) (zero-zeros (drop k row) a ∙ ap (λ (m : ℕ). replicate m 0) size)
