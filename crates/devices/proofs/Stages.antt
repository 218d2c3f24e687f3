-- The judge of a whole table in its five stages: the systems' count and size, their order, the parts' count and size, their order with their
-- systems, and what is behind them. The first stage that refuses decides. Assumes nothing.
use Prim.Native.Nat.{ℕ, ◌<◌}
use native.Mathlib.Omega.{arith}
use mathlib.Core.Bool.{true, false, cond}
use mathlib.Core.List.{List, [], ◌∷◌}
use mathlib.Core.Path.{◌≡◌, refl, sym, ap, ◌∙◌}
use lib.Dec.{leb}
use lib.ListN.{length}
use Rattle.verdict.specs.declared.Refused.{Refused}
use Rattle.verdict.specs.declared.Verdict.{Verdict}
use Rattle.verdict.specs.Orders.{Test, in_order, refusal, good, is_good, refusing}
use Rattle.verdict.specs.Refusals.{TAIL, number_of}
use Rattle.verdict.proofs.Order.{joined, stays, goes_on, good-held}
use Rattle.verdict.proofs.Told.{not-good}
use Rattle.devices.specs.declared.Section.{Section}
use Rattle.devices.specs.declared.entries.Entries.{Entries}
use Rattle.devices.specs.Sections.{count_at, end_of, rises, section_tests, rising_tests, each_entry}
use Rattle.devices.specs.Tables.{parts_from, system_tests, systems_tests, part_tests, parts_tests, tail_test, judged}
use Rattle.devices.proofs.Each.{refusing-each, held-each}

-- a stage that refuses decides, and one that passes leaves what is behind it
decides : (ts : List Test) (v rest : Verdict) → is_good v ≡ false → v ≡ in_order ts good → in_order ts rest ≡ v
decides ts v rest bad e = stays ts rest (ap is_good (sym e) ∙ bad) ∙ sym e

passes : (ts : List Test) (rest : Verdict) → refusing ts ≡ true → good ≡ in_order ts good → in_order ts rest ≡ rest
passes ts rest refuse e = goes_on ts rest refuse (ap is_good (sym e))

module _ (a b : Section) (t : List ℕ) where
  abbrev p : ℕ
  p = parts_from a t

  -- what is behind the first stage, the second ..
  abbrev behind4 : Verdict
  behind4 = in_order (tail_test a b t ∷ []) good

  abbrev behind3 : Verdict
  behind3 = in_order (parts_tests a b t) behind4

  abbrev behind2 : Verdict
  behind2 = in_order (section_tests b t p) behind3

  abbrev behind1 : Verdict
  behind1 = in_order (systems_tests a t) behind2

  in-stages : judged a b t ≡ in_order (section_tests a t 0) behind1
  unfolding judged
  in-stages =
      joined (section_tests a t 0) _ good
      ∙ ap (in_order (section_tests a t 0))
      (joined (systems_tests a t) _ good
      ∙ ap (in_order (systems_tests a t))
      (joined (section_tests b t p) _ good ∙ ap (in_order (section_tests b t p)) (joined (parts_tests a b t) (tail_test a b t ∷ []) good)))

  pub systems-refused : (r : Refused) → refusal (number_of r.refusal) r.place ≡ in_order (section_tests a t 0) good → refusal (number_of r.refusal) r.place ≡ judged a b t
  systems-refused r told = sym (in-stages ∙ decides (section_tests a t 0) (refusal (number_of r.refusal) r.place) behind1 (not-good r.refusal r.place) told)

  module _ (one : good ≡ in_order (section_tests a t 0) good) where
    after1 : judged a b t ≡ behind1
    after1 = in-stages ∙ passes (section_tests a t 0) behind1 refl one

    pub second-decides : (v : Verdict) → is_good v ≡ false → v ≡ in_order (systems_tests a t) good → v ≡ judged a b t
    second-decides v bad e = sym (after1 ∙ decides (systems_tests a t) v behind2 bad e)

    module _ (two : good ≡ in_order (systems_tests a t) good) where
      after2 : judged a b t ≡ behind2
      after2 = after1 ∙ passes (systems_tests a t) behind2 (refusing-each (system_tests a t) (λ k. refl) 0 (count_at t 0)) two

      pub third-decides : (v : Verdict) → is_good v ≡ false → v ≡ in_order (section_tests b t p) good → v ≡ judged a b t
      third-decides v bad e = sym (after2 ∙ decides (section_tests b t p) v behind3 bad e)

      module _ (three : good ≡ in_order (section_tests b t p) good) where
        after3 : judged a b t ≡ behind3
        after3 = after2 ∙ passes (section_tests b t p) behind3 refl three

        pub fourth-decides : (v : Verdict) → is_good v ≡ false → v ≡ in_order (parts_tests a b t) good → v ≡ judged a b t
        fourth-decides v bad e = sym (after3 ∙ decides (parts_tests a b t) v behind4 bad e)

        pub tail-decides : good ≡ in_order (parts_tests a b t) good → in_order (tail_test a b t ∷ []) good ≡ judged a b t
        tail-decides four =
            sym (after3 ∙ passes (parts_tests a b t) behind4 (refusing-each (part_tests a b t p) (λ k. refl) 0 (count_at t p)) four)

-- the same of what the calls told: the systems e that were read, and the refusal r of the stage that is come to
module _ (a b : Section) (t : List ℕ) (e : Entries) (z : e.section ≡ a) (bytes : e.table.now ≡ t) (from : e.from ≡ 0) (one : good ≡ in_order (section_tests a t 0) good) where
  systems-order : each_entry (rising_tests e.section e.table.now e.from) 0 e.count ≡ systems_tests a t
  systems-order = λ i. each_entry (rising_tests (z i) (bytes i) (from i)) 0 ((e.counted ∙ (λ j. count_at (bytes j) (from j))) i)

  ordered : (v : Verdict) → v ≡ in_order (each_entry (rising_tests e.section e.table.now e.from) 0 e.count) good → v ≡ in_order (systems_tests a t) good
  ordered v told = told ∙ ap (λ (ts : List Test). in_order ts good) systems-order

  pub order-refused : (r : Refused) → refusal (number_of r.refusal) r.place ≡ in_order (each_entry (rising_tests e.section e.table.now e.from) 0 e.count) good → refusal (number_of r.refusal) r.place ≡ judged a b t
  order-refused r told = second-decides a b t one (refusal (number_of r.refusal) r.place) (not-good r.refusal r.place) (ordered _ told)

  module _ (two : good ≡ in_order (each_entry (rising_tests e.section e.table.now e.from) 0 e.count) good) (end : ℕ) (ends : end ≡ end_of e.section e.table.now e.from) where
    pub end-is : end ≡ parts_from a t
    end-is = ends ∙ (λ i. end_of (z i) (bytes i) (from i))

    sized : (v : Verdict) → v ≡ in_order (section_tests b t end) good → v ≡ in_order (section_tests b t (parts_from a t)) good
    sized v told = told ∙ ap (λ (p : ℕ). in_order (section_tests b t p) good) end-is

    pub parts-refused : (r : Refused) → refusal (number_of r.refusal) r.place ≡ in_order (section_tests b t end) good → refusal (number_of r.refusal) r.place ≡ judged a b t
    parts-refused r told = third-decides a b t one (ordered good two) _ (not-good r.refusal r.place) (sized _ told)

    module _ (three : good ≡ in_order (section_tests b t end) good) where
      owned : (v : Verdict) → v ≡ in_order (parts_tests a b e.table.now) good → v ≡ in_order (parts_tests a b t) good
      owned v told = told ∙ ap (λ (u : List ℕ). in_order (parts_tests a b u) good) bytes

      pub owners-refused : (r : Refused) → refusal (number_of r.refusal) r.place ≡ in_order (parts_tests a b e.table.now) good → refusal (number_of r.refusal) r.place ≡ judged a b t
      owners-refused r told = fourth-decides a b t one (ordered good two) (sized good three) _ (not-good r.refusal r.place) (owned _ told)

      pub tail-left : good ≡ in_order (parts_tests a b e.table.now) good → judged a b t ≡ cond (leb (length t) (end_of b t end)) good (refusal TAIL 0)
      unfolding in_order
      tail-left four =
          sym (tail-decides a b t one (ordered good two) (sized good three) (owned good four))
          ∙ ap (λ (p : ℕ). cond (leb (length t) (end_of b t p)) good (refusal TAIL 0)) (sym end-is)

-- entries that passed their order rise
pub order-rises : (e : Entries) → good ≡ in_order (each_entry (rising_tests e.section e.table.now e.from) 0 e.count) good
    → (k : ℕ) → k < e.count → rises e.section e.table.now e.from k ≡ true
order-rises e passed k h =
    let f : ℕ → List Test = rising_tests e.section e.table.now e.from in
    (held-each f 0 e.count k (good-held (each_entry f 0 e.count) good (refusing-each f (λ j. refl) 0 e.count) (ap is_good (sym passed))).0 (omega arith) (omega arith)).0
