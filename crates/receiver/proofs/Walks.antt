-- The laws by which `search` walks what stands at the head of a line, past each test by the byte or the length that was read, to the
-- answer. Assumes nothing.
use Prim.Native.Nat.{ℕ, ◌+◌, ◌*◌, ◌≤◌, ◌<◌}
use native.Mathlib.Omega.{arith}
use mathlib.Core.Bool.{cond}
use mathlib.Core.List.{List}
use mathlib.Core.Path.{◌≡◌, sym, ap, ◌∙◌}
use borrow.Author.Tests.{le-leb, lt-leb, eq-eqb, ne_eqb}
use lib.Dec.{leb, eqb}
use lib.ListN.{length, get_or}
use Rattle.octets.proofs.Numbers.{low-two}
use Rattle.frame.specs.Frame.{packet_length, unit_length, ended, sum_of, summed}
use Rattle.reading.specs.Events.Event.{Length, End, Sum, Packet}
use Rattle.reading.specs.Events.{Standing}
use Rattle.reading.specs.Events.Standing.{Wait, Skip, Hit}
use Rattle.reading.specs.Standing.{when_there, judged_frame, started, stands}

module _ (v w : Standing) where
  -- so many bytes are there, or too few
  pub goes_on : (n m : ℕ) (xs : List ℕ) → m ≡ length xs → n ≤ m → v ≡ w → v ≡ when_there n xs w
  unfolding when_there
  goes_on n m xs long h e = simp (le-leb n (length xs) (omega (arith, long))) e

  pub waits : (n m : ℕ) (xs : List ℕ) → m ≡ length xs → m < n → v ≡ Wait → v ≡ when_there n xs w
  unfolding when_there
  waits n m xs long h e = simp (lt-leb n (length xs) (omega (arith, long))) e

  module _ (z : Standing) where
    -- a byte that was read is the one asked for, or another
    pub byte-is : (r x n : ℕ) → r ≡ x → r ≡ n → v ≡ w → v ≡ cond (eqb x n) w z
    byte-is r x n p t e = simp (eq-eqb x n (sym p ∙ t)) e

    pub byte-other : (r x n : ℕ) → r ≡ x → (r ≡ n → ⊥) → v ≡ z → v ≡ cond (eqb x n) w z
    byte-other r x n p t e = simp (ne_eqb x n (λ q. t (p ∙ q))) e

    -- a length is small enough, or too large
    pub length-fits : (l M : ℕ) → l ≤ M → v ≡ w → v ≡ cond (leb l M) w z
    length-fits l M h e = simp (le-leb l M h) e

    pub length_over : (l M : ℕ) → M < l → v ≡ z → v ≡ cond (leb l M) w z
    length_over l M h e = simp (lt-leb l M h) e

    -- the last two bytes of a frame
    module _ (l r s : ℕ) (xs : List ℕ) (p : r ≡ get_or xs (28 + l) 0) where
      pub end-right : s ≡ get_or xs (29 + l) 0 → r ≡ 35 → s ≡ 35 → v ≡ w → v ≡ cond (ended l xs) w z
      unfolding ended
      end-right q t u e = simp (eq-eqb _ 35 (sym p ∙ t), eq-eqb _ 35 (sym q ∙ u)) e

      pub end-half : s ≡ get_or xs (29 + l) 0 → r ≡ 35 → (s ≡ 35 → ⊥) → v ≡ z → v ≡ cond (ended l xs) w z
      unfolding ended
      end-half q t u e = simp (eq-eqb _ 35 (sym p ∙ t), ne_eqb _ 35 (λ k. u (q ∙ k))) e

    pub end-wrong : (l r : ℕ) (xs : List ℕ) → r ≡ get_or xs (28 + l) 0 → (r ≡ 35 → ⊥) → v ≡ z → v ≡ cond (ended l xs) w z
    unfolding ended
    end-wrong l r xs p t e = simp (ne_eqb _ 35 (λ k. t (p ∙ k))) e

    -- its sum and the byte that says it
    module _ (l s r : ℕ) (xs : List ℕ) (p : s ≡ sum_of l xs) (q : r ≡ get_or xs (27 + l) 0) where
      pub sum-right : s ≡ r → v ≡ w → v ≡ cond (summed l xs) w z
      unfolding summed
      sum-right t e = simp (eq-eqb _ _ (sym p ∙ t ∙ q)) e

      pub sum-wrong : (s ≡ r → ⊥) → v ≡ z → v ≡ cond (summed l xs) w z
      unfolding summed
      sum-wrong t e = simp (ne_eqb _ _ (λ k. t (p ∙ k ∙ sym q))) e

-- the tests, opened
module _ (v : Standing) (M : ℕ) (xs : List ℕ) where
  pub stands_by : v ≡ when_there 1 xs (cond (eqb (get_or xs 0 0) 64) (when_there 2 xs (cond (eqb (get_or xs 1 0) 64) (started M xs) (Skip 2))) (Skip 1))
      → v ≡ stands M xs
  unfolding stands
  stands_by e = e

  -- at the length that two bytes say
  pub started-by : (x y p q : ℕ) → p ≡ get_or xs 24 0 → x ≡ p → q ≡ get_or xs 25 0 → y ≡ q
      → v ≡ when_there 26 xs (cond (leb (x + 256 * y) M) (when_there (packet_length (x + 256 * y)) xs (judged_frame (x + 256 * y) xs)) (Hit Length 26 1))
      → v ≡ started M xs
  unfolding started unit_length
  started-by x y p q e f g h k =
      let size : unit_length xs ≡ x + 256 * y = low-two xs 24 ∙ sym (omega (arith, f ∙ e, h ∙ g)) in
      k ∙ ap (λ (l : ℕ). when_there 26 xs (cond (leb l M) (when_there (packet_length l) xs (judged_frame l xs)) (Hit Length 26 1))) (sym size)

pub start-waits : (v : Standing) (M m : ℕ) (xs : List ℕ) → m ≡ length xs → m < 26 → v ≡ Wait → v ≡ started M xs
unfolding started
start-waits v M m xs = waits v _ 26 m xs

pub judged-by : (v : Standing) (l : ℕ) (xs : List ℕ)
    → v ≡ cond (ended l xs) (cond (summed l xs) (Hit (Packet (packet_length l)) (packet_length l) (packet_length l)) (Hit Sum (packet_length l) 1)) (Hit End (packet_length l) 1)
    → v ≡ judged_frame l xs
unfolding judged_frame
judged-by v l xs e = e

pub ruleset walk = (goes_on, waits, byte-is, byte-other, length-fits, length_over, end-right, end-half, end-wrong, sum-right, sum-wrong, stands_by, start-waits, started-by, judged-by)
