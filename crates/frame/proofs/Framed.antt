-- What a good frame is: its tests in words of its bytes, and that a frame at the front of a row of bytes is good whatever follows it.
-- Assumes nothing.
use Prim.Native.Nat.{ℕ, ◌+◌, ◌≤◌}
use native.Mathlib.Omega.{arith}
use mathlib.Core.Bool.{true, and-eq-true_iff}
use mathlib.Core.List.{List, ◌++◌}
use mathlib.Core.Path.{◌≡◌, refl, sym, ap, ◌∙◌}
use borrow.Author.Tests.{le-leb, eq-eqb, leb-true, eqb-true}
use lib.ListN.{length, get_or, take, drop, length-drop, get_or-append, take-append-drop}
use lib.Seq.{take-append-le, drop-append-le, length-take-le, get_or-take}
use Rattle.octets.specs.Numbers.{low_first}
use Rattle.verdict.specs.Orders.{Held, in_order, good, is_good}
use Rattle.verdict.proofs.Order.{all-passed, good-held}
use Rattle.verdict.proofs.Walking.{both_hold}
use Rattle.frame.specs.Frame.{packet_length, unit_length, ended, sum_of, summed, frame_tests}

-- a row of bytes that is one frame and nothing more
pub record Framed (M : ℕ) (p : List ℕ) : Type 0 where
  pub first : get_or p 0 0 ≡ 64
  pub second : get_or p 1 0 ≡ 64
  pub few : unit_length p ≤ M
  pub long : length p ≡ packet_length (unit_length p)
  pub ends : ended (unit_length p) p ≡ true
  pub sums : summed (unit_length p) p ≡ true

-- where the tests held it is one
pub held-framed : (M : ℕ) (p : List ℕ) → Held (frame_tests M p) → Framed M p
held-framed M p h =
    let start = (and-eq-true_iff _ _).0 h.1.0 in
    record {
      first = eqb-true (get_or p 0 0) 64 start.0;
      second = eqb-true (get_or p 1 0) 64 start.1;
      few = leb-true (unit_length p) M h.1.1.0;
      long = eqb-true (length p) (packet_length (unit_length p)) h.1.1.1.0;
      ends = h.1.1.1.1.0;
      sums = h.1.1.1.1.1.0;
    }

pub good-framed : (M : ℕ) (p : List ℕ) → is_good (in_order (frame_tests M p) good) ≡ true → Framed M p
good-framed M p g = held-framed M p (good-held (frame_tests M p) good refl g).0

-- and of such a one they hold
pub framed-held : (M : ℕ) (p : List ℕ) → Framed M p → Held (frame_tests M p)
framed-held M p f =
    let long = le-leb 30 (length p) (omega (arith, f.long)) in
    let start = both_hold _ _ (eq-eqb (get_or p 0 0) 64 f.first) (eq-eqb (get_or p 1 0) 64 f.second) in
    let few = le-leb (unit_length p) M f.few in
    let whole = eq-eqb (length p) (packet_length (unit_length p)) f.long in
    (long, (start, (few, (whole, (f.ends, (f.sums, tt))))))

pub framed-good : (M : ℕ) (p : List ℕ) → Framed M p → in_order (frame_tests M p) good ≡ good
framed-good M p f = all-passed (frame_tests M p) good (framed-held M p f)

-- the bytes that a good end and a good sum are
pub end_is : (l : ℕ) (p : List ℕ) → ended l p ≡ true → (get_or p (28 + l) 0 ≡ 35) × (get_or p (29 + l) 0 ≡ 35)
unfolding ended
end_is l p e =
    let both = (and-eq-true_iff _ _).0 e in
    (eqb-true (get_or p (28 + l) 0) 35 both.0, eqb-true (get_or p (29 + l) 0) 35 both.1)

pub sum-byte : (l : ℕ) (p : List ℕ) → summed l p ≡ true → sum_of l p ≡ get_or p (27 + l) 0
unfolding summed
sum-byte l p e = eqb-true (sum_of l p) (get_or p (27 + l) 0) e

pub byte-sum : (l : ℕ) (p : List ℕ) → sum_of l p ≡ get_or p (27 + l) 0 → summed l p ≡ true
unfolding summed
byte-sum l p e = eq-eqb (sum_of l p) (get_or p (27 + l) 0) e

-- what the tests read survives more bytes
module _ (xs ys : List ℕ) where
  pub unit_kept : 26 ≤ length xs → unit_length (xs ++ ys) ≡ unit_length xs
  unfolding unit_length
  unit_kept h =
      ap low_first
      (ap (take 2) (drop-append-le 24 xs ys (omega arith))
      ∙ take-append-le 2 (drop 24 xs) ys (omega (arith, length-drop 24 xs)))

  pub ended-kept : (l : ℕ) → packet_length l ≤ length xs → ended l (xs ++ ys) ≡ ended l xs
  unfolding ended
  ended-kept l h = simp (get_or-append xs ys 0 (28 + l) (omega arith), get_or-append xs ys 0 (29 + l) (omega arith))

  pub summed_kept : (l : ℕ) → packet_length l ≤ length xs → summed l (xs ++ ys) ≡ summed l xs
  unfolding summed
  summed_kept l h =
      let part : take (25 + l) (drop 2 (xs ++ ys)) ≡ take (25 + l) (drop 2 xs) =
      ap (take (25 + l)) (drop-append-le 2 xs ys (omega arith))
      ∙ take-append-le (25 + l) (drop 2 xs) ys (omega (arith, length-drop 2 xs)) in
      simp (part, get_or-append xs ys 0 (27 + l) (omega arith))

-- a frame that stands whole at the front of a row of bytes, alone
pub framed-front : (M l : ℕ) (xs : List ℕ) → get_or xs 0 0 ≡ 64 → get_or xs 1 0 ≡ 64 → l ≡ unit_length xs → l ≤ M → packet_length l ≤ length xs
    → ended l xs ≡ true → summed l xs ≡ true → Framed M (take (packet_length l) xs)
framed-front M l xs a b u few there e s =
    let p : List ℕ = take (packet_length l) xs in
    let rest : List ℕ = drop (packet_length l) xs in
    let whole : xs ≡ p ++ rest = sym (take-append-drop (packet_length l) xs) in
    let long : length p ≡ packet_length l = length-take-le (packet_length l) xs there in
    let unit : unit_length p ≡ l = sym (u ∙ ap unit_length whole ∙ unit_kept p rest (omega arith)) in
    let fits : packet_length l ≤ length p = omega arith in
    record {
      first = get_or-take (packet_length l) xs 0 0 (omega arith) ∙ a;
      second = get_or-take (packet_length l) xs 1 0 (omega arith) ∙ b;
      few = omega arith;
      long = long ∙ ap packet_length (sym unit);
      ends = ap (λ (n : ℕ). ended n p) unit ∙ sym (ended-kept p rest l fits) ∙ ap (ended l) (sym whole) ∙ e;
      sums = ap (λ (n : ℕ). summed n p) unit ∙ sym (summed_kept p rest l fits) ∙ ap (summed l) (sym whole) ∙ s;
    }
