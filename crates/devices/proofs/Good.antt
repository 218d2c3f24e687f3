-- What a good verdict tells of a table. Assumes nothing.
use Prim.Native.Nat.{ℕ, ◌+◌, ◌≤◌, ◌<◌}
use native.Mathlib.Nat.{le_of_eq}
use native.Mathlib.Omega.{arith}
use mathlib.Core.Bool.{true}
use mathlib.Core.List.{List, [], ◌∷◌, ◌++◌}
use mathlib.Core.Path.{◌≡◌, refl, sym, ap, ◌∙◌}
use borrow.Author.Tests.{le-leb, leb-true}
use lib.ListN.{length}
use Rattle.verdict.specs.Orders.{Test, in_order, good, is_good, Held}
use Rattle.verdict.proofs.Order.{passed, joined, all-passed, good-held}
use Rattle.devices.specs.declared.Section.{Section}
use Rattle.devices.specs.Sections.{count_at, end_of, rises, is_listed, section_tests}
use Rattle.devices.specs.Tables.{parts_from, system_of, system_tests, systems_tests, part_tests, parts_tests, tail_test, judged}
use Rattle.devices.proofs.Each.{refusing-each, held-each, each-held}

-- a section that is there to its end and whose entries rise
pub record Whole (z : Section) (t : List ℕ) (from : ℕ) : Type 0 where
  pub counts : from + 2 ≤ length t
  pub few : count_at t from ≤ z.limit
  pub fits : end_of z t from ≤ length t
  pub rise : (k : ℕ) → k < count_at t from → rises z t from k ≡ true

-- a table that is understood to its last byte
pub record Sound (a b : Section) (t : List ℕ) : Type 0 where
  pub systems : Whole a t 0
  pub parts : Whole b t (parts_from a t)
  pub owned : (k : ℕ) → k < count_at t (parts_from a t) → is_listed a t 0 (system_of a b t (parts_from a t) k) ≡ true
  pub ends : length t ≡ end_of b t (parts_from a t)

module _ (a b : Section) (t : List ℕ) where
  pub good-sound : is_good (judged a b t) ≡ true → Sound a b t
  unfolding judged
  good-sound g =
      let p = parts_from a t in
      let rest3 = parts_tests a b t ++ (tail_test a b t ∷ []) in
      let rest2 = section_tests b t p ++ rest3 in
      let rest1 = systems_tests a t ++ rest2 in
      let h1 = good-held (section_tests a t 0) (in_order rest1 good) refl (ap is_good (sym (joined (section_tests a t 0) rest1 good)) ∙ g) in
      let h2 = good-held (systems_tests a t) (in_order rest2 good) (refusing-each (system_tests a t) (λ k. refl) 0 (count_at t 0)) (ap is_good (sym (joined (systems_tests a t) rest2 good)) ∙ h1.1) in
      let h3 = good-held (section_tests b t p) (in_order rest3 good) refl (ap is_good (sym (joined (section_tests b t p) rest3 good)) ∙ h2.1) in
      let h4 = good-held (parts_tests a b t) (in_order (tail_test a b t ∷ []) good) (refusing-each (part_tests a b t p) (λ k. refl) 0 (count_at t p))
      (ap is_good (sym (joined (parts_tests a b t) (tail_test a b t ∷ []) good)) ∙ h3.1) in
      let h5 = good-held (tail_test a b t ∷ []) good refl h4.1 in
      let fits3 : end_of b t p ≤ length t = leb-true (end_of b t p) (length t) h3.0.1.1.0 in
      record {
        systems = record {
          counts = leb-true (0 + 2) (length t) h1.0.0;
          few = leb-true (count_at t 0) a.limit h1.0.1.0;
          fits = leb-true (end_of a t 0) (length t) h1.0.1.1.0;
          rise = λ k h. (held-each (system_tests a t) 0 (count_at t 0) k h2.0 (omega arith) (omega arith)).0;
        };
        parts = record {
          counts = leb-true (p + 2) (length t) h3.0.0;
          few = leb-true (count_at t p) b.limit h3.0.1.0;
          fits = fits3;
          rise = λ k h. (held-each (part_tests a b t p) 0 (count_at t p) k h4.0 (omega arith) (omega arith)).0;
        };
        owned = λ k h. (held-each (part_tests a b t p) 0 (count_at t p) k h4.0 (omega arith) (omega arith)).1.0;
        ends = omega (arith, fits3, leb-true (length t) (end_of b t p) h5.0.0);
      }

-- a section that is whole passes its tests
pub held-section : (z : Section) (t : List ℕ) (from : ℕ) → Whole z t from → Held (section_tests z t from)
held-section z t from w =
    (le-leb (from + 2) (length t) w.counts, (le-leb (count_at t from) z.limit w.few, (le-leb (end_of z t from) (length t) w.fits, tt)))

pub held-systems : (a : Section) (t : List ℕ) → Whole a t 0 → Held (systems_tests a t)
held-systems a t w = each-held (system_tests a t) 0 (count_at t 0) (λ k l h. (w.rise k (omega arith), tt))

module _ (a b : Section) (t : List ℕ) where
  -- what is left of the order behind the systems
  unfoldable pub behind_systems : List Test
  behind_systems = section_tests b t (parts_from a t) ++ (parts_tests a b t ++ (tail_test a b t ∷ []))

  pub systems-pass : Whole a t 0 → judged a b t ≡ in_order behind_systems good
  unfolding judged behind_systems
  systems-pass w =
      joined (section_tests a t 0) (systems_tests a t ++ behind_systems) good
      ∙ all-passed (section_tests a t 0) (in_order (systems_tests a t ++ behind_systems) good) (held-section a t 0 w)
      ∙ joined (systems_tests a t) behind_systems good
      ∙ all-passed (systems_tests a t) (in_order behind_systems good) (held-systems a t w)

  -- where both sections are whole and every part's system is listed, only TAIL is left
  pub all-but-tail : Whole a t 0 → Whole b t (parts_from a t)
      → ((k : ℕ) → k < count_at t (parts_from a t) → is_listed a t 0 (system_of a b t (parts_from a t) k) ≡ true)
      → judged a b t ≡ in_order (tail_test a b t ∷ []) good
  unfolding behind_systems
  all-but-tail w x owned =
      let p = parts_from a t in
      let held : Held (parts_tests a b t) = each-held (part_tests a b t p) 0 (count_at t p) (λ k l h. (x.rise k (omega arith), (owned k (omega arith), tt))) in
      systems-pass w
      ∙ joined (section_tests b t p) (parts_tests a b t ++ (tail_test a b t ∷ [])) good
      ∙ all-passed (section_tests b t p) (in_order (parts_tests a b t ++ (tail_test a b t ∷ [])) good) (held-section b t p x)
      ∙ joined (parts_tests a b t) (tail_test a b t ∷ []) good
      ∙ all-passed (parts_tests a b t) (in_order (tail_test a b t ∷ []) good) held

  -- so the good tables are exactly those that are understood
  pub sound-good : Sound a b t → judged a b t ≡ good
  unfolding in_order
  sound-good s =
      all-but-tail s.systems s.parts s.owned
      ∙ passed (tail_test a b t) [] good (le-leb (length t) (end_of b t (parts_from a t)) (le_of_eq s.ends))
