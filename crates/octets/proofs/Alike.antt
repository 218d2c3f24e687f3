-- Two rows compared: that one is the other, and six bytes by their numbers. By induction on both rows. Assumes nothing.
use Prim.Native.Nat.{ℕ}
use mathlib.Core.Bool.{true, and-eq-true_iff, false≢true}
use mathlib.Core.List.{List, [], ◌∷◌}
use mathlib.Core.Path.{◌≡◌, refl, sym, ap, ◌∙◌}
use borrow.Author.Tests.{eq-eqb, eqb-true}
use lib.Dec.{eqb}
use lib.ListN.{length}
use Rattle.octets.specs.Numbers.{Octets, low_first, bytes_of}
use Rattle.octets.specs.Searches.{same}
use Rattle.octets.proofs.Flags.{both-or-none}
use Rattle.octets.proofs.Numbers.{low-bytes}

pub same-is : (a b : List ℕ) → same a b ≡ true → a ≡ b
unfolding same
same-is [] [] h = refl
same-is [] (y ∷ b) h = absurd (false≢true h)
same-is (x ∷ a) [] h = absurd (false≢true h)
same-is (x ∷ a) (y ∷ b) h =
    let g = (and-eq-true_iff (eqb x y) (same a b)).0 h in
    λ i. eqb-true x y g.0 i ∷ same-is a b g.1 i

pub same_self : (a : List ℕ) → same a a ≡ true
unfolding same
same_self [] = refl
same_self (x ∷ a) = simp (eq-eqb x x refl) (same_self a)

-- six bytes are the same where their numbers are
pub by-numbers : (a b : List ℕ) (m n : ℕ) → length a ≡ 6 → length b ≡ 6 → (m ≡ low_first a) × Octets a → (n ≡ low_first b) × Octets b → eqb m n ≡ same a b
by-numbers a b m n long wide x y = both-or-none (eqb m n) (same a b) as-numbers as_bytes
  where
    as-numbers : eqb m n ≡ true → same a b ≡ true
    as-numbers e =
        let equal : low_first a ≡ low_first b = sym x.0 ∙ eqb-true m n e ∙ y.0 in
        let is : a ≡ b = sym (low-bytes a x.1) ∙ (λ i. bytes_of ((long ∙ sym wide) i) (equal i)) ∙ low-bytes b y.1 in
        ap (same a) (sym is) ∙ same_self a

    as_bytes : same a b ≡ true → eqb m n ≡ true
    as_bytes e = eq-eqb m n (x.0 ∙ ap low_first (same-is a b e) ∙ sym y.0)

pub ruleset alike = (by-numbers)
