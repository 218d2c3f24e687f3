-- The laws of a label's ranges: six zeros, which are out of range, and a day of 0. Assumes nothing.
use Prim.Native.Nat.{ℕ}
use native.Mathlib.Omega.{arith}
use mathlib.Core.Bool.{Bool, true, false, ◌&&◌, and-eq-true_iff}
use mathlib.Core.List.{List, [], ◌∷◌}
use mathlib.Core.Path.{◌≡◌, refl, ap, ◌∙◌}
use borrow.Author.Tests.{eqb-true, leb-true, le-leb, eq-eqb}
use lib.Dec.{eqb, leb}
use lib.ListN.{length, get_or, take, drop, replicate}
use Rattle.octets.specs.Numbers.{low_first}
use Rattle.octets.specs.Searches.{same}
use Rattle.octets.proofs.Flags.{both-or-none}
use Rattle.octets.proofs.Alike.{same-is}
use Rattle.octets.proofs.Numbers.{low-two, low-four}
use Rattle.label.specs.declared.Label.{Label}
use Rattle.label.specs.Times.{label_of, label_bytes, ranges, in_ranges, zeros, is_no_time}

-- bytes that are all 0 are those in the range of 0 alone
pub all_zero_lem : (bytes : List ℕ) → same bytes (replicate (length bytes) 0) ≡ in_ranges (replicate (length bytes) (0, 0)) bytes
unfolding same in_ranges
all_zero_lem [] = refl
all_zero_lem (b ∷ bytes) = λ i. one i && all_zero_lem bytes i
  where
    in-it : eqb b 0 ≡ true → (leb 0 b && leb b 0) ≡ true
    in-it e = simp (le-leb 0 b (omega arith), le-leb b 0 (omega (arith, eqb-true b 0 e)))

    is-it : (leb 0 b && leb b 0) ≡ true → eqb b 0 ≡ true
    is-it e = eq-eqb b 0 (omega (arith, leb-true b 0 ((and-eq-true_iff (leb 0 b) (leb b 0)).0 e).1))

    one : eqb b 0 ≡ (leb 0 b && leb b 0)
    one = both-or-none (eqb b 0) (leb 0 b && leb b 0) in-it is-it

-- "six zero bytes"
pub no-time-zeros : (l : Label) → is_no_time l ≡ true → label_bytes l ≡ replicate 6 0
no-time-zeros l e = same-is (label_bytes l) (replicate 6 0) (all_zero_lem (label_bytes l) ∙ e)

-- are not in range: their day is 0
zeros-out : in_ranges ranges (replicate 6 0) ≡ false
unfolding in_ranges
zeros-out = refl

pub no-time-out : (l : Label) → is_no_time l ≡ true → in_ranges ranges (label_bytes l) ≡ false
no-time-out l e = ap (in_ranges ranges) (no-time-zeros l e) ∙ zeros-out

-- a label with a day of 0 is none that is in range
pub no-day-out : (l : Label) → l.day ≡ 0 → in_ranges ranges (label_bytes l) ≡ false
unfolding in_ranges
no-day-out l e =
    ap (λ (d : ℕ). in_ranges ranges (l.second ∷ l.minute ∷ l.hour ∷ d ∷ l.month ∷ l.year ∷ [])) e
    ∙ by-test (leb 0 l.second && leb l.second 59) (leb 0 l.minute && leb l.minute 59) (leb 0 l.hour && leb l.hour 23)
  where
    by-test : (a b c : Bool) → a && (b && (c && false)) ≡ false
    by-test true true true = refl
    by-test true true false = refl
    by-test true false c = refl
    by-test false b c = refl

zeros-zero : in_ranges zeros (replicate 6 0) ≡ true
unfolding in_ranges
zeros-zero = refl

-- six bytes as two numbers, low byte first: zero where each of them is
pub by_two_numbers : (s : List ℕ) (low high : ℕ) → low ≡ low_first (take 4 (drop 0 s)) → high ≡ low_first (take 2 (drop 4 s))
    → (eqb low 0 && eqb high 0) ≡ is_no_time (label_of s)
by_two_numbers s low high a b = both-or-none (eqb low 0 && eqb high 0) (is_no_time (label_of s)) zero-bytes zero-numbers
  where
    zero-bytes : (eqb low 0 && eqb high 0) ≡ true → is_no_time (label_of s) ≡ true
    zero-bytes e =
        let both = (and-eq-true_iff (eqb low 0) (eqb high 0)).0 e in
        let left = eqb-true low 0 both.0 in
        let right = eqb-true high 0 both.1 in
        let is : (k : ℕ) → Type 0 = λ k. get_or s k 0 ≡ 0 in
        let second : is 0 = omega (arith, a, left, low-four s 0, low-two s 0, low-two s 2) in
        let minute : is 1 = omega (arith, a, left, low-four s 0, low-two s 0, low-two s 2) in
        let hour : is 2 = omega (arith, a, left, low-four s 0, low-two s 0, low-two s 2) in
        let day : is 3 = omega (arith, a, left, low-four s 0, low-two s 0, low-two s 2) in
        let month : is 4 = omega (arith, b, right, low-two s 4) in
        let year : is 5 = omega (arith, b, right, low-two s 4) in
        (λ i. in_ranges zeros (second i ∷ minute i ∷ hour i ∷ day i ∷ month i ∷ year i ∷ [])) ∙ zeros-zero

    zero-numbers : is_no_time (label_of s) ≡ true → (eqb low 0 && eqb high 0) ≡ true
    zero-numbers e =
        let all = no-time-zeros (label_of s) e in
        let byte : (k : ℕ) → get_or (label_bytes (label_of s)) k 0 ≡ get_or (replicate 6 0) k 0 = λ k. ap (λ (x : List ℕ). get_or x k 0) all in
        simp (
          eq-eqb low 0 (omega (arith, a, low-four s 0, low-two s 0, low-two s 2, byte 0, byte 1, byte 2, byte 3)),
          eq-eqb high 0 (omega (arith, b, low-two s 4, byte 4, byte 5)),
        )

-- and so of a label's own six bytes
pub zero_by_value : (l : Label) (s : List ℕ) (low high : ℕ) (z : Bool) → s ≡ label_bytes l → low ≡ low_first (take 4 (drop 0 s)) → high ≡ low_first (take 2 (drop 4 s))
    → z ≡ (eqb low 0 && eqb high 0) → z ≡ is_no_time l
zero_by_value l s low high z is a b told = told ∙ by_two_numbers s low high a b ∙ ap (λ (x : List ℕ). is_no_time (label_of x)) is
