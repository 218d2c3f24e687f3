-- The laws of where entries stand and of entries that rise. Assumes nothing.
use Prim.Native.Nat.{ℕ, zero, suc, ◌+◌, ◌-◌, ◌≤◌, ◌<◌}
use native.Mathlib.Nat.{suc-mul, mul-le-mul_right, eq-or-lt_of_le, le_of_suc-le-suc, not-suc-le-zero}
use native.Mathlib.Omega.{arith}
use mathlib.Core.Bool.{true}
use mathlib.Core.List.{List}
use mathlib.Core.Logic.{⊎_elim}
use mathlib.Core.Path.{◌≡◌, refl, sym, ap, subst, ◌∙◌}
use lib.ListN.{length, take, drop}
use Rattle.std.specs.Cmp.Lexicographic.{slice_cmp}
use Rattle.std.specs.Ordering.{nat_cmp, is_lt}
use Rattle.std.specs.declared.cmp.Ordering.{Ordering}
use Rattle.std.proofs.lemmas.List.{take_rest}
use Rattle.octets.specs.Numbers.{low_first}
use Rattle.octets.specs.Parts.{part}
use Rattle.octets.proofs.Parts.{part-is}
use Rattle.devices.specs.declared.Section.{Section}
use Rattle.devices.specs.Keys.{below}
use Rattle.devices.specs.Sections.{count_at, entry_at, first_bytes, key_at, rises}
use Rattle.devices.proofs.Keys.{below_cmp, below-trans}

module _ (z : Section) (from : ℕ) where
  pub entry_next : (k : ℕ) → entry_at z from k + z.entry ≡ entry_at z from (suc k)
  unfolding entry_at
  entry_next k = omega (arith, suc-mul k z.entry)

  pub entry-order : (m n : ℕ) → m ≤ n → entry_at z from m ≤ entry_at z from n
  unfolding entry_at
  entry-order m n h = omega (arith, mul-le-mul_right z.entry h)

  -- an entry of a section that is there is there
  pub entry_inside : (k n l : ℕ) → k < n → entry_at z from n ≤ l → entry_at z from k + z.entry ≤ l
  entry_inside k n l h fits = omega (arith, entry_next k, entry-order (suc k) n h)

  -- and where it begins is
  pub entry_within : (m n l : ℕ) → m ≤ n → entry_at z from n ≤ l → entry_at z from m ≤ l
  entry_within m n l h fits = omega (arith, entry-order m n h)

-- the first bytes of an entry that is there
pub bytes-are : (z : Section) (t : List ℕ) (from k l : ℕ) → entry_at z from k + l ≤ length t → first_bytes z t from k l ≡ take l (drop (entry_at z from k) t)
unfolding first_bytes
bytes-are z t from k l h =
    let e : entry_at z from k + l - entry_at z from k ≡ l = omega arith in
    part-is t (entry_at z from k) (entry_at z from k + l) (omega arith) h ∙ ap (λ (j : ℕ). take j (drop (entry_at z from k) t)) e

-- and as the code cuts them out, from where the entry was found to stand
pub bytes_cut : (z : Section) (t : List ℕ) (from k n at : ℕ) → at ≡ entry_at z from k → at + n ≤ length t → take (at + n - at) (drop at t) ≡ first_bytes z t from k n
unfolding first_bytes
bytes_cut z t from k n at e fits =
    sym (part-is t at (at + n) (omega arith) fits) ∙ ap (λ (j : ℕ). part t j (j + n)) e

-- a section's count, as the code reads it from the bytes that begin with the section
pub count_read : (t : List ℕ) (from count : ℕ) → count ≡ low_first (take 2 (take (length t - from) (drop from t))) → count ≡ count_at t from
unfolding count_at
count_read t from count e = e ∙ ap (λ (l : List ℕ). low_first (take 2 l)) (take_rest t from)

module _ (z : Section) (t : List ℕ) (from : ℕ) where
  pub first_rises : (k : ℕ) → k ≡ 0 → rises z t from k ≡ true
  unfolding rises
  first_rises zero e = refl
  first_rises (suc k) e = absurd (omega arith)

  pub later_rises : (k : ℕ) (x y : List ℕ) (o : Ordering) → (k ≡ 0 → ⊥) → x ≡ key_at z t from (k - 1) → y ≡ key_at z t from k → o ≡ slice_cmp nat_cmp x y
      → is_lt o ≡ rises z t from k
  unfolding rises
  later_rises zero x y o n p q e = absurd (n refl)
  later_rises (suc k) x y o n p q e =
      let before : suc k - 1 ≡ k = omega arith in
      below_cmp x y o e ∙ ap (λ (j : List ℕ). below j y) (p ∙ ap (key_at z t from) before) ∙ ap (below (key_at z t from k)) q

  -- where each entry rises, of any two the later stands above
  pub keys-rise : (n : ℕ) → ((k : ℕ) → k < n → rises z t from k ≡ true) → (i j : ℕ) → i < j → j < n → below (key_at z t from i) (key_at z t from j) ≡ true
  unfolding rises
  keys-rise n up i zero h b = absurd (not-suc-le-zero h)
  keys-rise n up i (suc j) h b =
      ⊎_elim
      (λ (e : i ≡ j). subst (λ (m : ℕ). below (key_at z t from m) (key_at z t from (suc j)) ≡ true) (sym e) (up (suc j) b))
      (λ (l : i < j). below-trans (key_at z t from i) (key_at z t from j) (key_at z t from (suc j)) (keys-rise n up i j l (omega arith)) (up (suc j) b))
      (eq-or-lt_of_le (le_of_suc-le-suc h))

pub ruleset rising = (first_rises, later_rises)
