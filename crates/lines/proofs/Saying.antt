-- What is said of a device table by the cases that the code tells apart. Assumes nothing.
use Prim.Native.Nat.{ℕ, ◌+◌, ◌*◌, ◌-◌, ◌/◌, ◌≤◌, ◌<◌}
use native.Mathlib.Omega.{arith}
use mathlib.Core.Bool.{Bool, true, false, cond}
use mathlib.Core.List.{List, [], ◌∷◌, ◌++◌, append_assoc}
use mathlib.Core.Path.{◌≡◌, refl, sym, ap, ◌∙◌}
use borrow.Author.Tests.{le-leb, lt-leb, ne_eqb}
use lib.Dec.{leb}
use lib.ListN.{length, get_or, take, drop}
use Rattle.devices.specs.declared.Section.{Section}
use Rattle.devices.specs.Sections.{count_at, entry_at, end_of, by_limit, section_tests}
use Rattle.devices.specs.Tables.{of_systems, of_parts, earlier_parts, parts_from, refused_by, judged, judgement}
use Rattle.devices.proofs.Finding.{judgement-told}
use Rattle.devices.proofs.Limits.{earlier-says}
use Rattle.naming.specs.Names.{ascii, letters_in, letters}
use Rattle.octets.specs.Numbers.{low_first}
use Rattle.verdict.specs.declared.Verdict.{Verdict}
use Rattle.verdict.specs.Orders.{in_order, good, is_good, refusal}
use Rattle.verdict.specs.declared.Refusal.{Refusal}
use Rattle.verdict.specs.declared.Refusal.TheVariants.{Order, Orphan, Tail}
use Rattle.verdict.specs.Refusals.{ORDER, ORPHAN, TAIL, number_of}
use Rattle.verdict.proofs.Told.{number-tells, not-good}
use Rattle.lines.specs.Tables.{count_cut_said, many_said, cut_said, section_said, sections_said, earlier_said}
use Rattle.lines.specs.Tables.{led, of_entry, own_number, why_said, tail_said, place_said, what_said, good_said, refused_said, table_said, all_said, file_name, file_line, table_line}

-- what an earlier program says of a good table, by the number of its parts
pub read_by_earlier : (parts : ℕ) → parts ≤ 1024 → earlier_said (by_limit 1024 parts) ≡ []
unfolding earlier_said
read_by_earlier parts h = simp (le-leb parts 1024 h)

pub refused_by_earlier : (parts : ℕ) → 1024 < parts
    → earlier_said (by_limit 1024 parts) ≡ ascii "; releases before 1.8 refuse it as MANY: replace it before going back to one"
unfolding earlier_said letters letters_in
refused_by_earlier parts h = simp (lt-leb parts 1024 h)

-- the number of systems, as it was read
pub systems_told : (t : List ℕ) (n : ℕ) → n ≡ low_first (take 2 (drop 0 t)) → n ≡ count_at t 0
unfolding count_at
systems_told t n e = e

-- the tests of a section, at the count that was read
module _ (noun t : List ℕ) (z : Section) (from : ℕ) where
  pub count_cut : (left : ℕ) → length t < from + 2 → left ≡ length t - from → section_said noun z t from ≡ count_cut_said noun left
  unfolding section_said
  count_cut left h e = simp (lt-leb (from + 2) (length t) h) (ap (count_cut_said noun) (sym e))

  module _ (n : ℕ) (h : from + 2 ≤ length t) (read : n ≡ low_first (take 2 (drop from t))) where
    count : n ≡ count_at t from
    unfolding count_at
    count = read

    pub too_many : z.limit < n → section_said noun z t from ≡ many_said noun n z.limit
    unfolding section_said
    too_many k =
        let above : z.limit < count_at t from = omega (arith, count) in
        simp (le-leb (from + 2) (length t) h, lt-leb (count_at t from) z.limit above) (ap (λ (m : ℕ). many_said noun m z.limit) (sym count))

    pub cut_short : n ≤ z.limit → section_said noun z t from ≡ cut_said noun ((length t - (from + 2)) / z.entry) n
    unfolding section_said
    cut_short k =
        let within : count_at t from ≤ z.limit = omega (arith, count) in
        simp (le-leb (from + 2) (length t) h, le-leb (count_at t from) z.limit within)
        (ap (cut_said noun ((length t - (from + 2)) / z.entry)) (sym count))

-- where a section ends, by the count that was read
pub parts_read : (t : List ℕ) (n : ℕ) → n ≡ low_first (take 2 (drop 0 t)) → 2 + n * 2 ≡ parts_from of_systems t
unfolding count_at entry_at
parts_read t n e = ap (λ (m : ℕ). 2 + m * 2) e

pub end_read : (t : List ℕ) (from n : ℕ) → from ≡ parts_from of_systems t → n ≡ low_first (take 2 (drop from t))
    → from + 2 + n * 38 ≡ end_of of_parts t (parts_from of_systems t)
unfolding count_at entry_at
end_read t from n f e =
    ap (λ (m : ℕ). from + 2 + m * 38) e ∙ ap (λ (k : ℕ). k + 2 + low_first (take 2 (drop k t)) * 38) f

-- the tests of the systems' section
abbrev pub systems_hold : List ℕ → Bool
systems_hold t = is_good (in_order (section_tests of_systems t 0) good)

pub no_count : (t : List ℕ) → length t < 2 → false ≡ systems_hold t
unfolding in_order
no_count t h = sym (simp (lt-leb 2 (length t) h))

module _ (t : List ℕ) (n : ℕ) (h : 2 ≤ length t) (read : n ≡ low_first (take 2 (drop 0 t))) where
  told-count : n ≡ count_at t 0
  unfolding count_at
  told-count = read

  pub past_limit : 64 < n → false ≡ systems_hold t
  unfolding in_order
  past_limit k = let above : 64 < count_at t 0 = omega (arith, told-count) in sym (simp (le-leb 2 (length t) h, lt-leb (count_at t 0) 64 above))

  good-as : (b : Bool) (v : Verdict) → is_good v ≡ false → b ≡ is_good (cond b good v)
  good-as true v e = refl
  good-as false v e = sym e

  pub to_the_end : n ≤ 64 → leb (2 + n * 2) (length t) ≡ systems_hold t
  unfolding in_order entry_at
  to_the_end k =
      let within : count_at t 0 ≤ 64 = omega (arith, told-count) in
      ap (λ (m : ℕ). leb (2 + m * 2) (length t)) told-count
      ∙ simp (le-leb 2 (length t) h, le-leb (count_at t 0) 64 within) (good-as (leb (2 + count_at t 0 * 2) (length t)) _ refl)

-- the section of which a test fails
pub parts_fail : (t : List ℕ) → true ≡ systems_hold t → sections_said of_systems of_parts t ≡ section_said (ascii "part") of_parts t (parts_from of_systems t)
unfolding sections_said
parts_fail t e = simp (sym e)

pub systems_fail : (t : List ℕ) → false ≡ systems_hold t → sections_said of_systems of_parts t ≡ section_said (ascii "system") of_systems t 0
unfolding sections_said
systems_fail t e = simp (sym e)

-- what is refused: an entry, bytes after the table, or a section
module _ (t : List ℕ) (place : ℕ) where
  pub order_said : (x : List ℕ) → x ≡ led (ascii " ") place ++ ascii ": " ++ own_number (count_at t 0) place
      → x ++ why_said ORDER ≡ refused_said of_systems of_parts t (refusal ORDER place)
  unfolding refused_said place_said what_said of_entry
  order_said x e = ap (λ (l : List ℕ). l ++ why_said ORDER) e ∙ simp append_assoc

  pub orphan_said : (x : List ℕ) → x ≡ led (ascii " ") place ++ ascii ": " ++ own_number (count_at t 0) place
      → x ++ why_said ORPHAN ≡ refused_said of_systems of_parts t (refusal ORPHAN place)
  unfolding refused_said place_said what_said of_entry
  orphan_said x e = ap (λ (l : List ℕ). l ++ why_said ORPHAN) e ∙ simp append_assoc

  pub rest_said : (end rest last k : ℕ) → end ≡ end_of of_parts t (parts_from of_systems t) → rest ≡ length t - end → k ≡ length t - 1 → last ≡ get_or t k 0
      → ascii ": " ++ tail_said rest last ≡ refused_said of_systems of_parts t (refusal TAIL place)
  unfolding refused_said place_said what_said of_entry
  rest_said end rest last k e f g h =
      ap (λ (x : ℕ). ascii ": " ++ tail_said x last) (f ∙ ap (λ (x : ℕ). length t - x) e)
      ∙ ap (λ (x : ℕ). ascii ": " ++ tail_said (length t - end_of of_parts t (parts_from of_systems t)) x) (h ∙ ap (λ (x : ℕ). get_or t x 0) g)

  pub section_refused : (r : Refusal) → (r ≡ Order → ⊥) → (r ≡ Orphan → ⊥) → (r ≡ Tail → ⊥)
      → ascii ": " ++ sections_said of_systems of_parts t ≡ refused_said of_systems of_parts t (refusal (number_of r) place)
  unfolding refused_said place_said what_said of_entry
  section_refused r a b c =
      let ordered = ne_eqb (number_of r) ORDER (λ e. a (number-tells r Order e)) in
      let orphaned = ne_eqb (number_of r) ORPHAN (λ e. b (number-tells r Orphan e)) in
      let tailed = ne_eqb (number_of r) TAIL (λ e. c (number-tells r Tail e)) in
      sym (simp (ordered, orphaned, tailed))

-- what is said of a table, by its judge's answer
module _ (t name : List ℕ) where
  pub good_line : (s p : ℕ) → record { verdict = good; systems = s; parts = p } ≡ judgement of_systems of_parts t
      → file_name name ++ ascii "OK" ++ (good_said s p (length t) ++ earlier_said (by_limit 1024 p)) ++ (10 ∷ []) ≡ table_line of_systems of_parts earlier_parts name t
  unfolding table_line file_line all_said table_said letters letters_in
  good_line s p e =
      let told = judgement-told of_systems of_parts t (record { verdict = good; systems = s; parts = p }) e in
      let is : judged of_systems of_parts t ≡ good = sym told.0 in
      let holds : is_good (judged of_systems of_parts t) ≡ true = ap is_good is in
      let counts = told.1 holds in
      let earlier-is : by_limit 1024 p ≡ judged of_systems earlier_parts t =
      ap (by_limit 1024) counts.1 ∙ sym (earlier-says of_systems of_parts t 1024 1600 (omega arith) holds) in
      simp append_assoc
      (ap (λ (n : ℕ). file_name name ++ (ascii "OK" ++ (good_said n p (length t) ++ (earlier_said (by_limit 1024 p) ++ (10 ∷ []))))) counts.0
      ∙ ap (λ (n : ℕ). file_name name ++ (ascii "OK" ++ (good_said (count_at t 0) n (length t) ++ (earlier_said (by_limit 1024 p) ++ (10 ∷ []))))) counts.1
      ∙ ap (λ (v : Verdict). file_name name ++ (ascii "OK" ++ (good_said (count_at t 0) (count_at t (parts_from of_systems t)) (length t) ++ (earlier_said v ++ (10 ∷ []))))) earlier-is
      ∙ sym (simp is))

  pub refused_line : (x : List ℕ) (r : Refusal) (place : ℕ) → refused_by (refusal (number_of r) place) ≡ judgement of_systems of_parts t
      → x ≡ refused_said of_systems of_parts t (refusal (number_of r) place)
      → file_name name ++ letters (number_of r) ++ x ++ (10 ∷ []) ≡ table_line of_systems of_parts earlier_parts name t
  unfolding table_line file_line all_said table_said
  refused_line x r place e f =
      let v = refusal (number_of r) place in
      let is : judged of_systems of_parts t ≡ v = sym (judgement-told of_systems of_parts t (refused_by v) e).0 in
      ap (λ (l : List ℕ). file_name name ++ letters (number_of r) ++ l ++ (10 ∷ [])) f
      ∙ simp append_assoc (sym (simp (is, not-good r place)))
