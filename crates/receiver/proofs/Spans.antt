-- A line in two parts, read as one: a byte, what is left behind some bytes, a part, and a sum. Assumes nothing.
use Prim.Native.Nat.{ℕ, ◌+◌, ◌-◌, ◌%◌, ◌≤◌, ◌<◌}
use native.Mathlib.Omega.{arith}
use mathlib.Core.List.{List, [], ◌++◌, append-nil}
use mathlib.Core.Path.{◌≡◌, sym, ap, ◌∙◌}
use borrow.Author.Rules.{rules}
use lib.ListN.{length, get_or, take, drop, length-take, length-append, length-drop, get_or-append, drop_of_length-le}
use lib.Seq.{get_or-append-add, take_all, take-append-le, drop-append-le}
use Rattle.octets.specs.Sums.{total}
use Rattle.octets.proofs.Rows.{drop-over, take-over}
use Rattle.octets.proofs.Parts.{rest-is}
use Rattle.octets.proofs.Sums.{total-append}
use Rattle.frame.specs.Frame.{sum_of}

pub byte-front : (a b : List ℕ) (i : ℕ) → i < length a → get_or a i 0 ≡ get_or (a ++ b) i 0
byte-front a b i h = sym (get_or-append a b 0 i h)

pub byte-back : (a b : List ℕ) (i r : ℕ) → length a ≤ i → r ≡ get_or b (i - length a) 0 → r ≡ get_or (a ++ b) i 0
byte-back a b i r h e =
    let place : length a + (i - length a) ≡ i = omega arith in
    e ∙ sym (get_or-append-add a b (i - length a) 0) ∙ ap (λ (k : ℕ). get_or (a ++ b) k 0) place

-- what is left behind a place in the first part, and behind one in the second
pub left-front : (a b : List ℕ) (at : ℕ) → at < length a → take (length a - at) (drop at a) ++ b ≡ drop at (a ++ b)
left-front a b at h = ap (λ (l : List ℕ). l ++ b) (rest-is a at) ∙ sym (drop-append-le at a b (omega arith))

pub left-back : (a b : List ℕ) (at : ℕ) → length a ≤ at → take (length b - (at - length a)) (drop (at - length a) b) ++ [] ≡ drop at (a ++ b)
left-back a b at h =
    append-nil (take (length b - (at - length a)) (drop (at - length a) b))
    ∙ rest-is b (at - length a)
    ∙ sym (drop-over at a b ∙ ap (λ (l : List ℕ). l ++ drop (at - length a) b) (drop_of_length-le a h))

pub left-inside : (a b : List ℕ) (at : ℕ) → at ≤ length (a ++ b) → at - length a ≤ length b
left-inside a b at h = omega (arith, length-append a b)

-- bytes at the head, in the first part or in both
pub head-front : (a b : List ℕ) (n : ℕ) → n ≤ length a → take n a ++ [] ≡ take n (a ++ b)
head-front a b n h = append-nil (take n a) ∙ sym (take-append-le n a b h)

pub head-both : (a b : List ℕ) (n : ℕ) → length a < n → a ++ take (n - length a) b ≡ take n (a ++ b)
head-both a b n h = ap (λ (l : List ℕ). l ++ take (n - length a) b) (sym (take_all n a (omega arith))) ∙ sym (take-over n a b)

pub head-inside : (a b : List ℕ) (n : ℕ) → n ≤ length (a ++ b) → n - length a ≤ length b
head-inside a b n h = omega (arith, length-append a b)

-- both parts of what is summed added up, then dropped
pub sum_both : (l : ℕ) (xs rest front back : List ℕ) (r x y : ℕ) → rest ≡ drop 2 xs → front ++ back ≡ take (25 + l) rest → l ≤ 1024
    → r ≡ (x + y) % 256 → x ≡ total (take 1049 front) → y ≡ total (take 1049 back) → r ≡ sum_of l xs
sum_both l xs rest front back r x y left are few e s t =
    let size : length front + length back ≤ 25 + l = omega (arith, length-append front back, ap length are, length-take (25 + l) rest) in
    omega (
      arith,
      e,
      s ∙ ap total (take_all 1049 front (omega arith)),
      t ∙ ap total (take_all 1049 back (omega arith)),
      total-append front back,
      ap total (are ∙ ap (take (25 + l)) left),
    )

pub ruleset parts =
    (rules, byte-front, byte-back, left-front, left-back, left-inside, head-front, head-both, head-inside, sum_both, length-drop)
