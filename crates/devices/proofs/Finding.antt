-- One law for each answer of finding a part, from what the judge and the search told. Assumes nothing.
use Prim.Native.Nat.{ℕ, ◌+◌, ◌<◌}
use mathlib.Core.Bool.{Bool, true, false, cond, false≢true}
use mathlib.Core.List.{List, [], ◌∷◌, ◌++◌}
use mathlib.Core.Path.{◌≡◌, refl, sym, ap, subst, ◌∙◌}
use borrow.Author.Tests.{lt-ltb}
use lib.Dec.{ltb}
use Rattle.octets.proofs.Flags.{by-test}
use Rattle.verdict.specs.declared.Verdict.{Verdict}
use Rattle.verdict.specs.declared.Part.{Part}
use Rattle.verdict.specs.Orders.{in_order, refusal, good, is_good, refusing, no_part, part_by}
use Rattle.verdict.specs.declared.Refused.{Refused}
use Rattle.verdict.specs.Refusals.{UNLISTED, number_of}
use Rattle.verdict.proofs.Order.{passed, failed, good-is, joined-stays, joined-on, refusing-append}
use Rattle.verdict.proofs.Told.{not-good}
use Rattle.devices.specs.declared.Section.{Section}
use Rattle.devices.specs.declared.Judgement.{Judgement}
use Rattle.devices.specs.declared.table.Table.{Table}
use Rattle.devices.specs.Sections.{count_at, entry_at, rises, entry_of, is_listed}
use Rattle.devices.specs.Tables.{of_systems, of_parts, parts_from, system_tests, systems_tests, part_tests, parts_tests, tail_test, table_tests, judged, refused_by, judgement, listed_test, part_at, found_place}
use Rattle.devices.proofs.Each.{refusing-each}
use Rattle.devices.proofs.Good.{good-sound}

module _ (a b : Section) (t : List ℕ) where
  -- every test of a table refuses
  pub table-refusing : refusing (table_tests a b t) ≡ true
  table-refusing =
      refusing-append (systems_tests a t) _ (refusing-each (system_tests a t) (λ k. refl) 0 (count_at t 0))
      (refusing-append (parts_tests a b t) (tail_test a b t ∷ []) (refusing-each (part_tests a b t (parts_from a t)) (λ k. refl) 0 (count_at t (parts_from a t))) refl)

  -- a good verdict is the good one
  pub good-one : is_good (judged a b t) ≡ true → judged a b t ≡ good
  unfolding judged
  good-one g = good-is (table_tests a b t) table-refusing g

  -- what a judgement tells
  Told : Judgement → Type 0
  Told j = (j.verdict ≡ judged a b t) × (is_good (judged a b t) ≡ true → (j.systems ≡ count_at t 0) × (j.parts ≡ count_at t (parts_from a t)))

  told : Told (judgement a b t)
  unfolding judgement Told
  told = by-test (is_good (judged a b t)) refl
    where
      by-test : (v : Bool) → is_good (judged a b t) ≡ v
          → Told (cond v (record { verdict = judged a b t; systems = count_at t 0; parts = count_at t (parts_from a t) }) (refused_by (judged a b t)))
      by-test true e = (refl, λ g. (refl, refl))
      by-test false e = (refl, λ g. absurd (false≢true (sym e ∙ g)))

  pub refused-judgement : (r : Refused) → refusal (number_of r.refusal) r.place ≡ judged a b t → refused_by (refusal (number_of r.refusal) r.place) ≡ judgement a b t
  unfolding judgement
  refused-judgement r told = ap refused_by told ∙ sym (simp (ap is_good (sym told) ∙ not-good r.refusal r.place))

  pub judgement-told : (j : Judgement) → j ≡ judgement a b t → (j.verdict ≡ judged a b t) × (is_good (judged a b t) ≡ true → (j.systems ≡ count_at t 0) × (j.parts ≡ count_at t (parts_from a t)))
  unfolding Told
  judgement-told j e = subst Told (sym e) told

  module _ (x : List ℕ) where
    -- the three answers
    pub place-refused : is_good (judged a b t) ≡ false → no_part (judged a b t) ≡ found_place a b t x
    unfolding found_place judged part_by
    place-refused e = simp (joined-stays (table_tests a b t) (listed_test a b t x ∷ []) good e, e)

    pub refused-place : (r : Refused) → refusal (number_of r.refusal) r.place ≡ judged a b t → no_part (refusal (number_of r.refusal) r.place) ≡ found_place a b t x
    refused-place r told = ap no_part told ∙ place-refused (ap is_good (sym told) ∙ not-good r.refusal r.place)

    past : is_good (judged a b t) ≡ true → in_order (table_tests a b t ++ (listed_test a b t x ∷ [])) good ≡ in_order (listed_test a b t x ∷ []) good
    unfolding judged
    past g = joined-on (table_tests a b t) (listed_test a b t x ∷ []) good table-refusing g

    pub place-unlisted : is_good (judged a b t) ≡ true → is_listed b t (parts_from a t) x ≡ false → no_part (refusal UNLISTED 0) ≡ found_place a b t x
    unfolding found_place part_by
    place-unlisted g e =
        let v : in_order (table_tests a b t ++ (listed_test a b t x ∷ [])) good ≡ refusal UNLISTED 0 = past g ∙ failed (listed_test a b t x) [] good e in
        simp v

    pub place-listed : is_good (judged a b t) ≡ true → is_listed b t (parts_from a t) x ≡ true
        → ◌≡◌ {A = Part} (record { verdict = good; from = part_at a b t x + b.key; to = part_at a b t x + b.entry }) (found_place a b t x)
    unfolding found_place part_by in_order
    place-listed g e =
        let v : in_order (table_tests a b t ++ (listed_test a b t x ∷ [])) good ≡ good = past g ∙ passed (listed_test a b t x) [] good e in
        simp v

    -- by the table's own verdict
    abbrev pub found_as : Verdict → Part
    found_as v = cond (is_good v) (part_by (in_order (listed_test a b t x ∷ []) good) (part_at a b t x + b.key) (part_at a b t x + b.entry)) (no_part v)

    pub found_as_lem : found_place a b t x ≡ found_as (judged a b t)
    unfolding found_place
    found_as_lem =
        by-test (is_good (judged a b t))
        (λ g. ap (λ (v : Verdict). part_by v (part_at a b t x + b.key) (part_at a b t x + b.entry)) (past g) ∙ sym (simp g))
        (λ g. sym (place-refused g) ∙ sym (simp g))

-- what is told by a table w that was read of the bytes t
module _ (w : Table) (t : List ℕ) (bytes : w.systems.table.now ≡ t) where
  of-parts : {A : Type 0} (f : Section → List ℕ → ℕ → A) → f w.parts.section w.parts.table.now w.parts.from ≡ f of_parts t (parts_from of_systems t)
  of-parts f = λ i. f (w.parts_section i) ((w.one_table ∙ bytes) i) ((w.parts_follow ∙ ap (parts_from of_systems) bytes) i)

  parts-counted : w.parts.count ≡ count_at t (parts_from of_systems t)
  parts-counted = w.parts.counted ∙ of-parts (λ z. count_at)

  systems-counted : w.systems.count ≡ count_at t 0
  systems-counted = w.systems.counted ∙ (λ i. count_at (bytes i) (w.systems_from i))

  module _ (passed : good ≡ judged of_systems of_parts t) where
    pub judgement-passed : ◌≡◌ {A = Judgement} (record { verdict = good; systems = w.systems.count; parts = w.parts.count }) (judgement of_systems of_parts t)
    unfolding judgement
    judgement-passed = (λ i. record { verdict = good; systems = systems-counted i; parts = parts-counted i }) ∙ sym (simp (sym passed))

    pub parts-rise : (k : ℕ) → k < w.parts.count → rises w.parts.section w.parts.table.now w.parts.from k ≡ true
    parts-rise k h =
        of-parts (λ z u from. rises z u from k)
        ∙ (good-sound of_systems of_parts t (ap is_good (sym passed))).parts.rise k (subst (λ (n : ℕ). k < n) parts-counted h)

    module _ (x : List ℕ) where
      pub part-unlisted : is_listed w.parts.section w.parts.table.now w.parts.from x ≡ false → no_part (refusal UNLISTED 0) ≡ found_place of_systems of_parts t x
      part-unlisted none = place-unlisted of_systems of_parts t x (ap is_good (sym passed)) (sym (of-parts (λ z u from. is_listed z u from x)) ∙ none)

      pub part-found : (k : ℕ) → k < w.parts.count → entry_of w.parts.section w.parts.table.now w.parts.from x ≡ k
          → ◌≡◌ {A = Part}
          (record {
            verdict = good;
            from = entry_at w.parts.section w.parts.from k + w.parts.section.key;
            to = entry_at w.parts.section w.parts.from k + w.parts.section.entry;
          })
          (found_place of_systems of_parts t x)
      part-found k h e =
          let there : entry_of of_parts t (parts_from of_systems t) x ≡ k = sym (of-parts (λ z u from. entry_of z u from x)) ∙ e in
          let few : k < count_at t (parts_from of_systems t) = subst (λ (n : ℕ). k < n) parts-counted h in
          of-parts (λ z u from. record { verdict = good; from = entry_at z from k + z.key; to = entry_at z from k + z.entry })
          ∙ ap
          (λ (j : ℕ). record {
            verdict = good;
            from = entry_at of_parts (parts_from of_systems t) j + of_parts.key;
            to = entry_at of_parts (parts_from of_systems t) j + of_parts.entry;
          })
          (sym there)
          ∙ place-listed of_systems of_parts t x (ap is_good (sym passed))
          (ap (λ (j : ℕ). ltb j (count_at t (parts_from of_systems t))) there ∙ lt-ltb k (count_at t (parts_from of_systems t)) few)
