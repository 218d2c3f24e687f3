-- What a good table is worth: its size, its entries, what is found in it, and that no other good table begins with it. Assumes nothing.
use Prim.Native.Nat.{ℕ, ◌+◌, ◌*◌, ◌≤◌, ◌<◌}
use native.Mathlib.Omega.{arith}
use mathlib.Core.Bool.{Bool, true, false, true≢false, false≢true}
use mathlib.Core.List.{List, [], ◌∷◌, ◌++◌}
use mathlib.Core.Path.{◌≡◌, refl, sym, ap, subst, ◌∙◌}
use borrow.Author.Tests.{ltb-true, ltb-false}
use lib.Dec.{ltb}
use lib.ListN.{length, take, drop, take-append-drop, length-drop}
use Rattle.octets.specs.Searches.{first_fit}
use Rattle.octets.proofs.Searches.{first_fits, first-none}
use Rattle.octets.proofs.Parts.{part-is, length_part}
use Rattle.verdict.specs.declared.Part.{Part}
use Rattle.verdict.specs.Orders.{refusal, good, is_good, no_part, part_in}
use Rattle.verdict.specs.Refusals.{CUT, TAIL, UNLISTED}
use Rattle.verdict.proofs.Order.{part_none}
use Rattle.devices.specs.declared.Section.{Section}
use Rattle.devices.specs.Keys.{below, same}
use Rattle.devices.specs.Sections.{count_at, entry_at, key_at, entry_of, is_listed}
use Rattle.devices.specs.Tables.{of_systems, of_parts, parts_from, system_of, judged, found_place}
use Rattle.devices.proofs.Keys.{below_self, same_self, same_true}
use Rattle.devices.proofs.Standing.{entry_inside, keys-rise}
use Rattle.devices.proofs.Good.{Whole, Sound, good-sound}
use Rattle.devices.proofs.Finding.{place-refused, place-unlisted, place-listed}
use Rattle.devices.proofs.Beginnings.{longer-tail, beginning-cut}

abbrev Good : List ℕ → Type 0
Good t = is_good (judged of_systems of_parts t) ≡ true

abbrev system_count : List ℕ → ℕ
system_count t = count_at t 0

abbrev part_count : List ℕ → ℕ
part_count t = count_at t (parts_from of_systems t)

-- a good table has exactly 4 + 2s + 38p bytes
pub good-size : (t : List ℕ) → Good t → length t ≡ 4 + 2 * system_count t + 38 * part_count t
unfolding entry_at
good-size t g = omega (arith, (good-sound of_systems of_parts t g).ends)

-- at most 64 systems and 1,600 parts
pub good-counts : (t : List ℕ) → Good t → (system_count t ≤ 64) × (part_count t ≤ 1600)
good-counts t g = let s = good-sound of_systems of_parts t g in (s.systems.few, s.parts.few)

-- the entries of a section that is whole are distinct
pub distinct : (z : Section) (t : List ℕ) (from : ℕ) → Whole z t from → (i k : ℕ) → i < count_at t from → k < count_at t from → key_at z t from i ≡ key_at z t from k → i ≡ k
distinct z t from w i k hi hk e = by-test (ltb i k) refl (ltb k i) refl
  where
    never : (i k : ℕ) → k < count_at t from → i < k → key_at z t from i ≡ key_at z t from k → ⊥
    never i k h l q =
        true≢false (sym (keys-rise z t from (count_at t from) w.rise i k l h) ∙ ap (λ (x : List ℕ). below x (key_at z t from k)) q ∙ below_self (key_at z t from k))

    by-test : (a : Bool) → ltb i k ≡ a → (b : Bool) → ltb k i ≡ b → i ≡ k
    by-test true p b q = absurd (never i k hk (ltb-true i k p) e)
    by-test false p true q = absurd (never k i hi (ltb-true k i q) (sym e))
    by-test false p false q = omega (arith, ltb-false i k p, ltb-false k i q)

pub systems-distinct : (t : List ℕ) → Good t → (i k : ℕ) → i < system_count t → k < system_count t → key_at of_systems t 0 i ≡ key_at of_systems t 0 k → i ≡ k
systems-distinct t g = distinct of_systems t 0 (good-sound of_systems of_parts t g).systems

pub parts-distinct : (t : List ℕ) → Good t → (i k : ℕ) → i < part_count t → k < part_count t
    → key_at of_parts t (parts_from of_systems t) i ≡ key_at of_parts t (parts_from of_systems t) k → i ≡ k
parts-distinct t g = distinct of_parts t (parts_from of_systems t) (good-sound of_systems of_parts t g).parts

-- the entry that a section lists for a key has it, and where none is listed none has
module _ (z : Section) (t : List ℕ) (from : ℕ) (x : List ℕ) where
  pub listed_has : is_listed z t from x ≡ true → (entry_of z t from x < count_at t from) × (key_at z t from (entry_of z t from x) ≡ x)
  unfolding entry_of
  listed_has e =
      let h : entry_of z t from x < count_at t from = ltb-true (entry_of z t from x) (count_at t from) e in
      (h, same_true (key_at z t from (entry_of z t from x)) x (first_fits (λ k. same (key_at z t from k) x) 0 (count_at t from) (omega arith)))

  pub none-listed : ((k : ℕ) → k < count_at t from → key_at z t from k ≡ x → ⊥) → is_listed z t from x ≡ false
  none-listed none = by-test (is_listed z t from x) refl
    where
      by-test : (b : Bool) → is_listed z t from x ≡ b → is_listed z t from x ≡ false
      by-test true e = let h = listed_has e in absurd (none (entry_of z t from x) h.0 h.1)
      by-test false e = e

  pub has_listed : (k : ℕ) → k < count_at t from → key_at z t from k ≡ x → is_listed z t from x ≡ true
  unfolding entry_of
  has_listed k h e = by-test (is_listed z t from x) refl
    where
      by-test : (b : Bool) → is_listed z t from x ≡ b → is_listed z t from x ≡ true
      by-test true q = q
      by-test false q =
          let past : count_at t from ≤ first_fit (λ j. same (key_at z t from j) x) 0 (count_at t from) = ltb-false (entry_of z t from x) (count_at t from) q in
          absurd (false≢true (sym (first-none (λ j. same (key_at z t from j) x) 0 (count_at t from) k (omega arith) (omega arith)) ∙ ap (λ (y : List ℕ). same y x) e ∙ same_self x))

-- every part of a good table belongs to a system of it
pub part_owned : (t : List ℕ) → Good t → (k : ℕ) → k < part_count t
    → is_listed of_systems t 0 (system_of of_systems of_parts t (parts_from of_systems t) k) ≡ true
part_owned t g k h = (good-sound of_systems of_parts t g).owned k h

-- where the description of part k stands
abbrev described : List ℕ → ℕ → Part
described t k = record { verdict = good; from = entry_at of_parts (parts_from of_systems t) k + 7; to = entry_at of_parts (parts_from of_systems t) k + 38 }

-- every entry of a good table is found
pub every-found : (t : List ℕ) → Good t → (k : ℕ) → k < part_count t → found_place of_systems of_parts t (key_at of_parts t (parts_from of_systems t) k) ≡ described t k
every-found t g k h =
    let p = parts_from of_systems t in
    let x = key_at of_parts t p k in
    let l : is_listed of_parts t p x ≡ true = has_listed of_parts t p x k h refl in
    let i : entry_of of_parts t p x ≡ k = parts-distinct t g (entry_of of_parts t p x) k (listed_has of_parts t p x l).0 h (listed_has of_parts t p x l).1 in
    sym (place-listed of_systems of_parts t x g l) ∙ ap (described t) i

-- what is found is an entry with that key, by `parts-distinct` the one entry
pub record FoundAt (t x : List ℕ) (k : ℕ) : Type 0 where
  pub sound : Good t
  pub inside : k < part_count t
  pub has : key_at of_parts t (parts_from of_systems t) k ≡ x
  pub stands : found_place of_systems of_parts t x ≡ described t k

pub found-one : (t x : List ℕ) → is_good (found_place of_systems of_parts t x).verdict ≡ true → FoundAt t x (entry_of of_parts t (parts_from of_systems t) x)
found-one t x e = by-test (is_good (judged of_systems of_parts t)) refl (is_listed of_parts t (parts_from of_systems t) x) refl
  where
    refuted : (p : Part) → is_good p.verdict ≡ false → p ≡ found_place of_systems of_parts t x → ⊥
    refuted p b q = true≢false (sym e ∙ ap (λ (r : Part). is_good r.verdict) (sym q) ∙ b)

    by-test : (a : Bool) → is_good (judged of_systems of_parts t) ≡ a → (b : Bool) → is_listed of_parts t (parts_from of_systems t) x ≡ b
        → FoundAt t x (entry_of of_parts t (parts_from of_systems t) x)
    by-test false g b l = absurd (refuted (no_part (judged of_systems of_parts t)) g (place-refused of_systems of_parts t x g))
    by-test true g false l = absurd (refuted (no_part (refusal UNLISTED 0)) refl (place-unlisted of_systems of_parts t x g l))
    by-test true g true l =
        let h = listed_has of_parts t (parts_from of_systems t) x l in
        record { sound = g; inside = h.0; has = h.1; stands = sym (place-listed of_systems of_parts t x g l) }

-- "UNLISTED exactly when no entry has the seven bytes"
pub none-unlisted : (t x : List ℕ) → Good t → ((k : ℕ) → k < part_count t → key_at of_parts t (parts_from of_systems t) k ≡ x → ⊥)
    → found_place of_systems of_parts t x ≡ no_part (refusal UNLISTED 0)
none-unlisted t x g none = sym (place-unlisted of_systems of_parts t x g (none-listed of_parts t (parts_from of_systems t) x none))

pub unlisted-none : (t x : List ℕ) → Good t → found_place of_systems of_parts t x ≡ no_part (refusal UNLISTED 0)
    → (k : ℕ) → k < part_count t → key_at of_parts t (parts_from of_systems t) k ≡ x → ⊥
unlisted-none t x g e k h q =
    true≢false (ap (λ (p : Part). is_good p.verdict) (sym (every-found t g k h) ∙ ap (found_place of_systems of_parts t) q ∙ e))

-- "Finding a part judges the table first"
pub refused-first : (t x : List ℕ) → is_good (judged of_systems of_parts t) ≡ false → found_place of_systems of_parts t x ≡ no_part (judged of_systems of_parts t)
refused-first t x e = sym (place-refused of_systems of_parts t x e)

-- a description has 31 bytes, and it is empty exactly when it is refused
pub description_size_lem : (t x : List ℕ) → is_good (found_place of_systems of_parts t x).verdict ≡ true → length (part_in t (found_place of_systems of_parts t x)) ≡ 31
description_size_lem t x e =
    let f = found-one t x e in
    let k = entry_of of_parts t (parts_from of_systems t) x in
    let at = entry_at of_parts (parts_from of_systems t) k in
    let fits : at + 38 ≤ length t =
    entry_inside of_parts (parts_from of_systems t) k (part_count t) (length t) f.inside (good-sound of_systems of_parts t f.sound).parts.fits in
    ap (λ (p : Part). length (part_in t p)) f.stands ∙ length_part t (at + 7) (at + 38) (omega arith) fits ∙ omega arith

pub refused-empty : (t x : List ℕ) → is_good (found_place of_systems of_parts t x).verdict ≡ false → part_in t (found_place of_systems of_parts t x) ≡ []
unfolding found_place
refused-empty t x e = ap (part_in t) (part_none _ _ _ e) ∙ part-is t 0 0 (omega arith) (omega arith)

-- a good table with bytes behind it
pub longer-refused : (t u : List ℕ) → Good t → 1 ≤ length u → judged of_systems of_parts (t ++ u) ≡ refusal TAIL 0
longer-refused t u g h = longer-tail of_systems of_parts (omega arith) (omega arith) (omega arith) t u h (good-sound of_systems of_parts t g)

-- a good table cut anywhere
pub cut-refused : (t : List ℕ) (n : ℕ) → Good t → n < length t → judged of_systems of_parts (take n t) ≡ refusal CUT 0
cut-refused t n g h =
    let e : take n t ++ drop n t ≡ t = take-append-drop n t in
    beginning-cut of_systems of_parts (omega arith) (omega arith) (omega arith) (take n t) (drop n t) (omega (arith, length-drop n t))
    (subst (Sound of_systems of_parts) (sym e) (good-sound of_systems of_parts t g))

-- no good table is a proper beginning of another
pub no-beginning : (t u : List ℕ) → Good t → Good (t ++ u) → u ≡ []
no-beginning t [] g h = refl
no-beginning t (b ∷ u) g h = absurd (false≢true (sym (ap is_good (longer-refused t (b ∷ u) g (omega arith))) ∙ h))
