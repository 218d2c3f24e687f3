-- The loops that test every byte with no early way out: the mark so far tells of the bytes before its place. Assumes nothing.
use Prim.Native.Nat.{ℕ, zero, suc, ◌+◌, ◌≤◌, ◌<◌}
use native.Mathlib.Numerals.{add-one}
use native.Mathlib.Omega.{arith}
use mathlib.Core.Bool.{Bool, ◌&&◌, and-true}
use mathlib.Core.List.{List, [], ◌∷◌}
use mathlib.Core.Path.{◌≡◌, refl, sym, ap, ◌∙◌}
use borrow.Author.Tests.{ne_eqb}
use lib.Dec.{eqb}
use lib.ListN.{length, get_or, take}
use lib.Bits.{bit_or, or_zero_l, or_add_and, and_le_r}
use lib.Seq.{take-suc, take_all}
use Rattle.octets.specs.Searches.{every}
use Rattle.octets.proofs.Searches.{every_append}

-- the mark of the first i bytes
abbrev pub Marked : (ℕ → Bool) → List ℕ → Bool → ℕ → Type 0
Marked f s mark i = mark ≡ every f (take i s)

-- one byte more, and all of them
pub marked_turn : (f : ℕ → Bool) (s : List ℕ) (i : ℕ) → i < length s → every f (take (i + 1) s) ≡ (every f (take i s) && f (get_or s i 0))
unfolding every
marked_turn f s i h = rw (add-one i, take-suc s i 0 h, every_append f (take i s) (get_or s i 0 ∷ []), and-true (f (get_or s i 0))) refl

pub marked_end : (f : ℕ → Bool) (s : List ℕ) (i : ℕ) → length s ≤ i → every f (take i s) ≡ every f s
marked_end f s i h = ap (every f) (take_all i s h)

-- bits of two numbers are none where neither has any
pub or_none : (a b : ℕ) → eqb (bit_or a b) 0 ≡ (eqb a 0 && eqb b 0)
or_none zero b = ap (λ (n : ℕ). eqb n 0) (or_zero_l b)
or_none (suc a) b =
    ne_eqb (bit_or (suc a) b) 0 (λ e. omega (arith, or_add_and (suc a) b, and_le_r (suc a) b))
    ∙ sym (ap (λ (t : Bool). t && eqb b 0) (ne_eqb (suc a) 0 (λ e. omega arith)))

pub ruleset marks = (marked_turn, marked_end, or_none)
