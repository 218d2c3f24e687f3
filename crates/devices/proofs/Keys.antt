-- The dictionary order on keys is the library's order of lists, so what is known of that is known of it. Assumes nothing.
use Prim.Native.Nat.{ℕ, zero, suc, ◌+◌}
use native.Mathlib.Omega.{arith}
use mathlib.Core.Logic.{◌⊎◌}
use mathlib.Core.Bool.{true, false, true≢false, false≢true}
use mathlib.Core.List.{List, [], ◌∷◌}
use mathlib.Core.Path.{◌≡◌, refl, sym, ap, ◌∙◌}
use lib.ListN.{length, take}
use Rattle.std.specs.declared.cmp.Ordering.{Ordering}
use Rattle.std.specs.declared.cmp.Ordering.TheVariants.{Less, Equal, Greater}
use Rattle.std.specs.Cmp.Lexicographic.{slice_cmp}
use Rattle.std.specs.Cmp.{IsTotalOrder}
use Rattle.std.specs.Ordering.{nat_cmp, ordering_then, ordering_reverse, is_lt, is_eq, is_gt}
use Rattle.std.proofs.lemmas.Bool.Decides.{nat_tests}
use Rattle.std.proofs.lemmas.Cmp.{same_from_slice_cmp, nat_list_cmp_total, tied_itself}
use Rattle.std.proofs.lemmas.Map.Lookups.{exact_bytes}
use Rattle.octets.proofs.Flags.{by-test}
use Rattle.devices.specs.Keys.{below, same}

abbrev compared : List ℕ → List ℕ → Ordering
compared = slice_cmp nat_cmp

order : IsTotalOrder compared
order = nat_list_cmp_total

-- the two tests of keys are what a comparison tells
pub below_cmp : (x y : List ℕ) (o : Ordering) → o ≡ slice_cmp nat_cmp x y → is_lt o ≡ below x y
unfolding below
below_cmp = same_from_slice_cmp nat_cmp is_lt below refl (λ _ _. refl) (λ _ _. refl) (λ x y xs ys o h. grind (arith, nat_tests))

same_cmp : (x y : List ℕ) (o : Ordering) → o ≡ slice_cmp nat_cmp x y → is_eq o ≡ same x y
unfolding same
same_cmp = same_from_slice_cmp nat_cmp is_eq same refl (λ _ _. refl) (λ _ _. refl) (λ x y xs ys o h. grind (arith, nat_tests))

-- what each answer of a comparison tells
pub cmp_below : (x y : List ℕ) → slice_cmp nat_cmp x y ≡ Less → below x y ≡ true
cmp_below x y e = sym (below_cmp x y Less (sym e))

pub cmp_same : (x y : List ℕ) → slice_cmp nat_cmp x y ≡ Equal → x ≡ y
cmp_same = exact_bytes

pub cmp_above : (x y : List ℕ) → slice_cmp nat_cmp x y ≡ Greater → below y x ≡ true
cmp_above x y e = cmp_below y x (order.antisymm y x ∙ ap ordering_reverse e)

below-cmp : (x y : List ℕ) → below x y ≡ true → compared x y ≡ Less
below-cmp x y p = by-answer (compared x y) (below_cmp x y (compared x y) refl ∙ p)
  where
    by-answer : (o : Ordering) → is_lt o ≡ true → o ≡ Less
    by-answer Less e = refl
    by-answer Equal e = absurd (false≢true e)
    by-answer Greater e = absurd (false≢true e)

-- nothing stands below itself
pub below_self : (x : List ℕ) → below x x ≡ false
below_self x = sym (below_cmp x x Equal (sym (tied_itself order x)))

pub below-trans : (x y z : List ℕ) → below x y ≡ true → below y z ≡ true → below x z ≡ true
below-trans x y z p q = cmp_below x z (order.trans x y z (below-cmp x y p) (below-cmp y z q))

-- of two different keys one stands below the other
pub below-neither : (x y : List ℕ) → below x y ≡ false → below y x ≡ false → x ≡ y
below-neither x y p q = by-answer (compared x y) refl
  where
    by-answer : (o : Ordering) → compared x y ≡ o → x ≡ y
    by-answer Less e = absurd (true≢false (sym (cmp_below x y e) ∙ p))
    by-answer Equal e = cmp_same x y e
    by-answer Greater e = absurd (true≢false (sym (cmp_above x y e) ∙ q))

-- what stands below a key stands below every key that is not below it
pub below_up : (x y z : List ℕ) → below x y ≡ true → below z y ≡ false → below x z ≡ true
below_up x y z p q =
    by-test (below y z) (λ e. below-trans x y z p e) (λ e. ap (below x) (sym (below-neither y z e q)) ∙ p)

-- the first bytes of keys that rise do not fall
pub below-take : (n : ℕ) (x y : List ℕ) → below x y ≡ true → below (take n y) (take n x) ≡ false
below-take n x y p =
    by-test (below (take n y) (take n x))
    (λ e. absurd (true≢false (sym (ap is_gt (order.antisymm (take n x) (take n y) ∙ ap ordering_reverse (below-cmp (take n y) (take n x) e))) ∙ not-above n x y (below-cmp x y p))))
    (λ e. e)
  where
    not-above : (n : ℕ) (x y : List ℕ) → compared x y ≡ Less → is_gt (compared (take n x) (take n y)) ≡ false
    not-above zero x y e = refl
    not-above (suc n) [] [] e = refl
    not-above (suc n) [] (b ∷ y) e = refl
    not-above (suc n) (a ∷ x) [] e = absurd (false≢true (ap is_lt e))
    not-above (suc n) (a ∷ x) (b ∷ y) e = by-answer (nat_cmp a b) e (not-above n x y)
      where
        by-answer : (o : Ordering) → ordering_then o (compared x y) ≡ Less → (compared x y ≡ Less → is_gt (compared (take n x) (take n y)) ≡ false)
            → is_gt (ordering_then o (compared (take n x) (take n y))) ≡ false
        by-answer Less e ih = refl
        by-answer Equal e ih = ih e
        by-answer Greater e ih = absurd (false≢true (ap is_lt e))

-- the same bytes are equal, and equal ones the same
pub same_self : (x : List ℕ) → same x x ≡ true
same_self x = sym (same_cmp x x Equal (sym (tied_itself order x)))

pub same_true : (x y : List ℕ) → same x y ≡ true → x ≡ y
same_true x y p = by-answer (compared x y) refl
  where
    by-answer : (o : Ordering) → compared x y ≡ o → x ≡ y
    by-answer Less e = absurd (false≢true (same_cmp x y Less (sym e) ∙ p))
    by-answer Equal e = cmp_same x y e
    by-answer Greater e = absurd (false≢true (same_cmp x y Greater (sym e) ∙ p))

pub differ : (x y : List ℕ) → (x ≡ y → ⊥) → same x y ≡ false
differ x y n = by-test (same x y) (λ e. absurd (n (same_true x y e))) (λ e. e)

-- what stands below differs
pub below-differ : (x y : List ℕ) → below x y ≡ true → same x y ≡ false
below-differ x y p = sym (same_cmp x y Less (sym (below-cmp x y p)))

-- compared byte by byte: the first bytes decide where they differ, and else what is behind them does
module _ (x y xs ys : List ℕ) (a b : ℕ) (first : x ≡ a ∷ xs) (second : y ≡ b ∷ ys) (o : Ordering) (found : o ≡ nat_cmp a b) where
  split : ordering_then o (compared xs ys) ≡ compared x y
  split = ap (λ (p : Ordering). ordering_then p (compared xs ys)) found ∙ sym (λ i. compared (first i) (second i))

  pub byte_ties : o ≡ Equal → slice_cmp nat_cmp xs ys ≡ slice_cmp nat_cmp x y
  byte_ties e = ap (λ (p : Ordering). ordering_then p (compared xs ys)) (sym e) ∙ split

  pub byte_decides : (o ≡ Equal → ⊥) → o ≡ slice_cmp nat_cmp x y
  byte_decides n = stays o n ∙ split
    where
      stays : (p : Ordering) → (p ≡ Equal → ⊥) → p ≡ ordering_then p (compared xs ys)
      stays Less m = refl
      stays Equal m = absurd (m refl)
      stays Greater m = refl

-- where one has come to its end, the lengths do
pub lengths_decide : (x y : List ℕ) (m n : ℕ) → (x ≡ []) ⊎ (y ≡ []) → length x + n ≡ length y + m → nat_cmp m n ≡ slice_cmp nat_cmp x y
lengths_decide [] [] m n h e = grind (arith, nat_tests)
lengths_decide [] (b ∷ y) m n h e = grind (arith, nat_tests)
lengths_decide (a ∷ x) [] m n h e = grind (arith, nat_tests)
lengths_decide (a ∷ x) (b ∷ y) m n h e = absurd (grind (arith, nat_tests))
