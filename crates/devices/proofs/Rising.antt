-- A key sought in a section whose entries rise, from an entry on before which all stand below it: the first entry that does not stand
-- below it either has it, or none has. Assumes nothing.
use Prim.Native.Nat.{ℕ, ◌+◌, ◌≤◌, ◌<◌}
use native.Mathlib.Nat.{eq-or-lt_of_le, zero-add}
use native.Mathlib.Omega.{arith}
use mathlib.Core.Bool.{true, false, true≢false}
use mathlib.Core.List.{List}
use mathlib.Core.Logic.{⊎_elim}
use mathlib.Core.Path.{◌≡◌, sym, ap, subst, ◌∙◌}
use borrow.Author.Tests.{le-ltb, ltb-true, ltb-false}
use lib.Dec.{ltb}
use Rattle.std.specs.declared.cmp.Ordering.{Ordering}
use Rattle.std.specs.declared.cmp.Ordering.TheVariants.{Less, Equal, Greater}
use Rattle.std.specs.Cmp.Lexicographic.{slice_cmp}
use Rattle.std.specs.Ordering.{nat_cmp}
use Rattle.octets.proofs.Flags.{by-test}
use Rattle.octets.proofs.Searches.{first-is, first_absent}
use Rattle.devices.specs.declared.Section.{Section}
use Rattle.devices.specs.Keys.{below, same}
use Rattle.devices.specs.Sections.{count_at, key_at, rises, entry_of, is_listed}
use Rattle.devices.proofs.Keys.{cmp_below, cmp_same, cmp_above, below_self, below-trans, below-differ, differ, same_self}
use Rattle.devices.proofs.Standing.{keys-rise}

-- every entry before entry m stands below a key
abbrev pub Below : Section → List ℕ → ℕ → List ℕ → ℕ → Type 0
Below z t from x m = (k : ℕ) → k < m → below (key_at z t from k) x ≡ true

module _ (z : Section) (t : List ℕ) (from n : ℕ) (counted : n ≡ count_at t from) (x : List ℕ) (m : ℕ) (before : Below z t from x m) where
  -- the entry that has it is the first that has it
  there : m < n → key_at z t from m ≡ x → entry_of z t from x ≡ m
  unfolding entry_of
  there h e =
      first-is (λ k. same (key_at z t from k) x) 0 (count_at t from) m (omega arith) (omega arith)
      (ap (λ (y : List ℕ). same y x) e ∙ same_self x)
      (λ k l u. below-differ (key_at z t from k) x (before k u))

  -- none has it where entry m stands above it, or there is no entry m
  absent : ((k : ℕ) → k < n → rises z t from k ≡ true) → (m < n → below x (key_at z t from m) ≡ true) → is_listed z t from x ≡ false
  unfolding entry_of
  absent rise above =
      ap (λ (k : ℕ). ltb k (count_at t from))
      (first_absent (λ k. same (key_at z t from k) x) 0 (count_at t from)
      (λ k l u. by-test (ltb k m)
      (λ e. below-differ (key_at z t from k) x (before k (ltb-true k m e)))
      (λ e. differ (key_at z t from k) x
      (λ q. true≢false (sym (over k (omega arith) (ltb-false k m e)) ∙ ap (below x) q ∙ below_self x))))
      ∙ zero-add (count_at t from))
      ∙ le-ltb (count_at t from) (count_at t from) (omega arith)
    where
      over : (k : ℕ) → k < n → m ≤ k → below x (key_at z t from k) ≡ true
      over k h l =
          ⊎_elim
          (λ (e : m ≡ k). subst (λ (j : ℕ). below x (key_at z t from j) ≡ true) e (above (omega arith)))
          (λ (g : m < k). below-trans x (key_at z t from m) (key_at z t from k) (above (omega arith)) (keys-rise z t from n rise m k g h))
          (eq-or-lt_of_le l)

  pub none-left : ((k : ℕ) → k < n → rises z t from k ≡ true) → n ≤ m → is_listed z t from x ≡ false
  none-left rise h = absent rise (λ l. absurd (omega arith))

  -- the three answers of entry m's key, compared
  module _ (key : List ℕ) (o : Ordering) (is : key ≡ key_at z t from m) (compared : o ≡ slice_cmp nat_cmp key x) where
    tells : (a : Ordering) → o ≡ a → slice_cmp nat_cmp (key_at z t from m) x ≡ a
    tells a e = ap (λ (y : List ℕ). slice_cmp nat_cmp y x) (sym is) ∙ sym compared ∙ e

    pub goes-on : o ≡ Less → Below z t from x (m + 1)
    goes-on e k h =
        ⊎_elim
        (λ (q : k ≡ m). subst (λ (j : ℕ). below (key_at z t from j) x ≡ true) (sym q) (cmp_below (key_at z t from m) x (tells Less e)))
        (λ (l : k < m). before k l)
        (eq-or-lt_of_le (omega arith))

    pub found-here : m < n → o ≡ Equal → entry_of z t from x ≡ m
    found-here h e = there h (cmp_same (key_at z t from m) x (tells Equal e))

    pub passed-over : ((k : ℕ) → k < n → rises z t from k ≡ true) → o ≡ Greater → is_listed z t from x ≡ false
    passed-over rise e = absent rise (λ l. cmp_above (key_at z t from m) x (tells Greater e))

pub ruleset seeking = (none-left, goes-on, found-here, passed-over)
