-- The laws of a frame: what its tests come to at the bytes that were read, for each answer of the judge. Assumes nothing.
use Prim.Native.Nat.{ℕ, ◌+◌, ◌-◌, ◌%◌, ◌≤◌}
use native.Mathlib.Omega.{arith}
use mathlib.Core.Bool.{true, false}
use mathlib.Core.List.{List}
use mathlib.Core.Path.{◌≡◌, sym, ap, ◌∙◌}
use borrow.Author.Tests.{eq-eqb, ne_eqb}
use lib.ListN.{get_or, take, drop, length-take}
use lib.Seq.{take_all}
use Rattle.octets.specs.Sums.{total}
use Rattle.verdict.specs.declared.Verdict.{Verdict}
use Rattle.verdict.specs.Orders.{in_order, good}
use Rattle.verdict.proofs.Walking.{ordering}
use Rattle.frame.specs.Frame.{unit_length, ended, sum_of, summed, frame_tests_at, frame_tests}

-- the tests at the length that was read
pub at_length : (M : ℕ) (p : List ℕ) (l : ℕ) (v : Verdict) → l ≡ unit_length p → v ≡ in_order (frame_tests_at M p l) good
    → v ≡ in_order (frame_tests M p) good
at_length M p l v e h = h ∙ ap (λ (k : ℕ). in_order (frame_tests_at M p k) good) e

-- what `sum` adds up of bytes 3 to 27+L
pub sum_is : (p : List ℕ) (l : ℕ) → l ≤ 1024 → total (take 1049 (take (27 + l - 2) (drop 2 p))) % 256 ≡ sum_of l p
sum_is p l m =
    let few : 27 + l - 2 ≡ 25 + l = omega arith in
    ap (λ (n : ℕ). total (take 1049 (take n (drop 2 p))) % 256) few
    ∙ ap (λ (s : List ℕ). total s % 256) (take_all 1049 (take (25 + l) (drop 2 p)) (omega (arith, length-take (25 + l) (drop 2 p))))

module _ (l : ℕ) (p : List ℕ) where
  pub end-right : get_or p (28 + l) 0 ≡ 35 → get_or p (29 + l) 0 ≡ 35 → ended l p ≡ true
  unfolding ended
  end-right a b = simp (eq-eqb _ 35 a, eq-eqb _ 35 b)

  pub end-wrong : (get_or p (28 + l) 0 ≡ 35 → ⊥) → ended l p ≡ false
  unfolding ended
  end-wrong a = simp (ne_eqb _ 35 a)

  pub end-half : get_or p (28 + l) 0 ≡ 35 → (get_or p (29 + l) 0 ≡ 35 → ⊥) → ended l p ≡ false
  unfolding ended
  end-half a b = simp (eq-eqb _ 35 a, ne_eqb _ 35 b)

  pub sum-right : (s : ℕ) → s ≡ total (take 1049 (take (27 + l - 2) (drop 2 p))) % 256 → l ≤ 1024 → get_or p (27 + l) 0 ≡ s → summed l p ≡ true
  unfolding summed
  sum-right s e m h = eq-eqb _ _ (sym (h ∙ e ∙ sum_is p l m))

  pub sum-wrong : (s : ℕ) → s ≡ total (take 1049 (take (27 + l - 2) (drop 2 p))) % 256 → l ≤ 1024 → (get_or p (27 + l) 0 ≡ s → ⊥) → summed l p ≡ false
  unfolding summed
  sum-wrong s e m h = ne_eqb _ _ (λ q. h (sym (e ∙ sum_is p l m ∙ q)))

pub ruleset framing = (ordering, at_length, end-right, end-wrong, end-half, sum-right, sum-wrong)
