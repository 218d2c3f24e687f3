-- Two programs that differ in their limit of parts, m of the earlier one and n of the later. What the earlier one says follows from what the later one
-- says: MANY of a larger table, the same of every other; so a newer table beside an earlier program is never read at the wrong places. Assumes nothing.
use Prim.Native.Nat.{ℕ, zero, suc, ◌+◌, ◌*◌, ◌≤◌, ◌<◌}
use native.Mathlib.Nat.{mul-le-mul_right}
use native.Mathlib.Omega.{arith}
use mathlib.Core.Bool.{true, false, cond, and-false, and-eq-true_iff}
use mathlib.Core.List.{List, [], ◌∷◌, ◌++◌}
use mathlib.Core.Path.{◌≡◌, refl, sym, ap, ◌∙◌}
use borrow.Author.Tests.{le-leb, lt-leb, leb-true, leb-false, lt-ltb, le-ltb, ltb-true, ltb-false}
use lib.Dec.{leb, ltb}
use lib.ListN.{length}
use Rattle.octets.proofs.Flags.{by-test, of_either}
use Rattle.verdict.specs.declared.Verdict.{Verdict}
use Rattle.verdict.specs.declared.Part.{Part}
use Rattle.verdict.specs.Orders.{Test, ◌or_else◌, in_order, refusal, good, is_good, refusing, no_part}
use Rattle.verdict.specs.Refusals.{CUT, MANY, ORDER, ORPHAN}
use Rattle.verdict.proofs.Order.{joined, passed, failed, stays, goes_on, good-held, held-good, refusing-append}
use Rattle.devices.specs.declared.Section.{Section}
use Rattle.devices.specs.declared.Judgement.{Judgement}
use Rattle.devices.specs.Sections.{count_at, entry_at, end_of, first_bytes, rises, entry_of, is_listed, count_test, by_limit, section_tests, at_place, each_entry, limited}
use Rattle.devices.specs.Tables.{parts_from, system_of, system_tests, systems_tests, parts_tests, tail_test, counted_tests, is_larger, judged, refused_by, judgement, found_place}
use Rattle.devices.proofs.Each.{refusing-each}
use Rattle.devices.proofs.Good.{good-sound}
use Rattle.devices.proofs.Finding.{good-one, found_as, found_as_lem}

-- "the file stays below 64 KiB": no good table is longer than its limits allow
pub good-longest : (a b : Section) (t : List ℕ) → is_good (judged a b t) ≡ true → length t ≤ 4 + a.limit * a.entry + b.limit * b.entry
unfolding entry_at
good-longest a b t g =
    let s = good-sound a b t g in
    omega (arith, s.ends, mul-le-mul_right a.entry s.systems.few, mul-le-mul_right b.entry s.parts.few)

module _ (a b : Section) (t : List ℕ) where
  abbrev p : ℕ
  p = parts_from a t

  pub counted-refusing : refusing (counted_tests a t) ≡ true
  counted-refusing = refusing-append (systems_tests a t) _ (refusing-each (system_tests a t) (λ k. refl) 0 (count_at t 0)) refl

  -- what stands behind MANY of the parts
  behind_many : ℕ → List Test
  behind_many m = (leb (end_of (limited b m) t p) (length t) or_else CUT) ∷ (parts_tests a (limited b m) t ++ (tail_test a (limited b m) t ∷ []))

  from_many : ℕ → Verdict
  from_many m = in_order ((leb (count_at t p) m or_else MANY) ∷ behind_many m) good

  -- the order, cut before MANY of the parts
  cut-there : (m : ℕ) → judged a (limited b m) t ≡ in_order (counted_tests a t) (from_many m)
  unfolding judged from_many behind_many
  cut-there m =
      let counted = count_test t p ∷ [] in
      let rest = section_tests (limited b m) t p ++ (parts_tests a (limited b m) t ++ (tail_test a (limited b m) t ∷ [])) in
      joined (section_tests a t 0) (systems_tests a t ++ rest) good
      ∙ ap (in_order (section_tests a t 0))
      (joined (systems_tests a t) rest good ∙ ap (in_order (systems_tests a t)) (joined counted _ good) ∙ sym (joined (systems_tests a t) counted (from_many m)))
      ∙ sym (joined (section_tests a t 0) (systems_tests a t ++ counted) (from_many m))

  few : (m : ℕ) → count_at t p ≤ m → from_many m ≡ in_order (behind_many m) good
  unfolding from_many
  few m h = passed _ (behind_many m) good (le-leb (count_at t p) m h)

  -- "MANY from 1,601": a larger table is so refused
  pub larger-many : (m : ℕ) → is_larger a m t ≡ true → judged a (limited b m) t ≡ refusal MANY 0
  unfolding is_larger from_many
  larger-many m e =
      let both = (and-eq-true_iff (is_good (in_order (counted_tests a t) good)) (ltb m (count_at t p))).0 e in
      cut-there m
      ∙ goes_on (counted_tests a t) (from_many m) counted-refusing both.0
      ∙ failed _ (behind_many m) good (lt-leb (count_at t p) m (ltb-true m (count_at t p) both.1))

  pub not-larger : (m : ℕ) → count_at t p ≤ m → is_larger a m t ≡ false
  unfolding is_larger
  not-larger m h = simp (le-ltb m (count_at t p) h) (and-false (is_good (in_order (counted_tests a t) good)))

  -- a table that is good under some limit comes to the number of its parts
  comes-there : (n : ℕ) → is_good (judged a (limited b n) t) ≡ true → is_good (in_order (counted_tests a t) good) ≡ true
  comes-there n g = held-good (counted_tests a t) (good-held (counted_tests a t) (from_many n) counted-refusing (ap is_good (sym (cut-there n)) ∙ g)).0

  module _ (m n : ℕ) where
    rises-same : (from k : ℕ) → rises (limited b m) t from k ≡ rises (limited b n) t from k
    unfolding rises first_bytes entry_at
    rises-same from zero = refl
    rises-same from (suc k) = refl

    behind-same : behind_many m ≡ behind_many n
    unfolding behind_many entry_at first_bytes
    behind-same = λ i.
        (leb (end_of (limited b m) t p) (length t) or_else CUT)
        ∷ (each_entry
        (λ k. at_place (rises-same p k i) ORDER (count_at t 0 + k) ∷ at_place (is_listed a t 0 (system_of a (limited b m) t p k)) ORPHAN (count_at t 0 + k) ∷ [])
        0
        (count_at t p)
        ++ (tail_test a (limited b m) t ∷ []))

    -- "a table of 1,024 parts or fewer": both judge it alike
    pub fewer-alike : count_at t p ≤ m → m ≤ n → judged a (limited b m) t ≡ judged a (limited b n) t
    fewer-alike c h =
        cut-there m
        ∙ ap (in_order (counted_tests a t)) (few m c ∙ ap (λ (ts : List Test). in_order ts good) behind-same ∙ sym (few n (omega arith)))
        ∙ sym (cut-there n)

    -- where the number of parts is not come to, no limit is looked at
    before-alike : is_good (in_order (counted_tests a t) good) ≡ false → judged a (limited b m) t ≡ judged a (limited b n) t
    before-alike e = cut-there m ∙ stays (counted_tests a t) (from_many m) e ∙ sym (cut-there n ∙ stays (counted_tests a t) (from_many n) e)

    pub as-limited : m ≤ n → judged a (limited b m) t ≡ cond (is_larger a m t) (refusal MANY 0) (judged a (limited b n) t)
    unfolding is_larger
    as-limited h =
        by-test (is_good (in_order (counted_tests a t) good))
        (λ g. by-test (ltb m (count_at t p)) (λ l. larger-many m (simp (g, l)) ∙ sym (simp (g, l))) (λ l. fewer-alike (ltb-false m (count_at t p) l) h ∙ sym (simp (g, l))))
        (λ g. before-alike g ∙ sym (simp g))

    -- so with the counts that are told, and with what is found
    pub judgement-limited : m ≤ n → judgement a (limited b m) t ≡ cond (is_larger a m t) (refused_by (refusal MANY 0)) (judgement a (limited b n) t)
    unfolding judgement
    judgement-limited h = ap judgement_as (as-limited h) ∙ of_either judgement_as (is_larger a m t) (refusal MANY 0) (judged a (limited b n) t)
      where
        judgement_as : Verdict → Judgement
        judgement_as v = cond (is_good v) (record { verdict = v; systems = count_at t 0; parts = count_at t p }) (refused_by v)

    pub found-limited : m ≤ n → (x : List ℕ) → found_place a (limited b m) t x ≡ cond (is_larger a m t) (no_part (refusal MANY 0)) (found_place a (limited b n) t x)
    unfolding entry_of first_bytes entry_at
    found-limited h x =
        found_as_lem a (limited b m) t x
        ∙ ap found_with (as-limited h)
        ∙ of_either found_with (is_larger a m t) (refusal MANY 0) (judged a (limited b n) t)
        ∙ ap (cond (is_larger a m t) (no_part (refusal MANY 0))) (sym (found_as_lem a (limited b n) t x))
      where
        found_with : Verdict → Part
        found_with = found_as a (limited b m) t x

    -- "A larger one is refused by the earlier program as MANY": one that the later program takes
    pub newer-larger : is_good (judged a (limited b n) t) ≡ true → m < count_at t p → is_larger a m t ≡ true
    unfolding is_larger
    newer-larger g h = simp (comes-there n g, lt-ltb m (count_at t p) h)

    pub newer-many : is_good (judged a (limited b n) t) ≡ true → m < count_at t p → judged a (limited b m) t ≡ refusal MANY 0
    newer-many g h = larger-many m (newer-larger g h)

    pub limit-raised : m ≤ n → is_good (judged a (limited b m) t) ≡ true → judged a (limited b n) t ≡ good
    limit-raised h g = sym (fewer-alike (good-sound a (limited b m) t g).parts.few h) ∙ good-one a (limited b m) t g

    -- what the earlier program says of a table that the later one takes
    pub earlier-says : m ≤ n → is_good (judged a (limited b n) t) ≡ true → judged a (limited b m) t ≡ by_limit m (count_at t p)
    earlier-says h g =
        by-test (leb (count_at t p) m)
        (λ l. fewer-alike (leb-true (count_at t p) m l) h ∙ good-one a (limited b n) t g ∙ sym (simp l))
        (λ l. newer-many g (leb-false (count_at t p) m l) ∙ sym (simp l))
