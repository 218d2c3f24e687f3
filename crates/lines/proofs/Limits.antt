-- What is said of a table by two programs that differ in their limit of parts, m of the earlier one and n of the later (devices, Limits): the earlier one
-- says MANY of a larger table, and the same of every other. Assumes nothing.
use Prim.Native.Nat.{ℕ, zero, suc, ◌+◌, ◌-◌, ◌/◌, ◌≤◌}
use native.Mathlib.Omega.{arith}
use mathlib.Core.Bool.{Bool, true, false, cond, true≢false, false≢true, and-eq-true_iff}
use mathlib.Core.List.{List, [], ◌∷◌, ◌++◌, append-nil}
use mathlib.Core.Path.{◌≡◌, refl, sym, ap, ◌∙◌}
use borrow.Author.Tests.{le-leb, lt-leb, ltb-true, ltb-false}
use lib.Dec.{leb, ltb, eqb}
use lib.ListN.{length, get_or}
use Rattle.devices.specs.declared.Section.{Section}
use Rattle.devices.specs.Sections.{count_at, entry_at, end_of, rises, count_test, section_tests, each_entry, limited}
use Rattle.devices.specs.Tables.{parts_from, system_tests, systems_tests, counted_tests, is_larger, judged}
use Rattle.devices.proofs.Each.{refusing-each}
use Rattle.devices.proofs.Limits.{counted-refusing, larger-many, as-limited}
use Rattle.naming.specs.Names.{ascii, letters}
use Rattle.octets.proofs.Flags.{by-test}
use Rattle.verdict.specs.declared.Verdict.{Verdict}
use Rattle.verdict.specs.Orders.{in_order, refusal, good, is_good, Held}
use Rattle.verdict.specs.Refusals.{MANY, ORDER, TAIL}
use Rattle.verdict.proofs.Order.{joined-on, joined-stays, good-held, held-left, held-right, held-append, held-good}
use Rattle.lines.specs.Tables.{good_said, count_cut_said, cut_said, section_said, sections_said, of_entry, place_said, own_number, why_said, tail_said, what_said, refused_said, table_said}
use Rattle.lines.specs.Tables.{parts_many, earlier_said, all_said, file_line, table_line}

module _ (a b : Section) (t : List ℕ) where
  abbrev p : ℕ
  p = parts_from a t

  -- a refusal among the systems is told by its entry
  of-an-entry : (k n : ℕ) → is_good (in_order (each_entry (system_tests a t) k n) good) ≡ false → of_entry (in_order (each_entry (system_tests a t) k n) good).number ≡ true
  unfolding each_entry in_order of_entry
  of-an-entry k zero e = absurd (true≢false e)
  of-an-entry k (suc n) e = go (rises a t 0 k) (in_order (each_entry (system_tests a t) (suc k) n) good) (of-an-entry (suc k) n) e
    where
      go : (r : Bool) (v : Verdict) → (is_good v ≡ false → of_entry v.number ≡ true) → is_good (cond r v (refusal ORDER k)) ≡ false
          → of_entry (cond r v (refusal ORDER k)).number ≡ true
      go true v ih e = ih e
      go false v ih e = refl

  -- what held of a table that comes to the number of its parts
  came-there : is_good (in_order (counted_tests a t) good) ≡ true → (is_good (in_order (section_tests a t 0) good) ≡ true) × (leb (p + 2) (length t) ≡ true)
  came-there g =
      let counted = count_test t p ∷ [] in
      let h : Held (counted_tests a t) = (good-held (counted_tests a t) good (counted-refusing a b t) g).0 in (
        held-good (section_tests a t 0) (held-left (section_tests a t 0) (systems_tests a t ++ counted) h),
        (held-right (systems_tests a t) counted (held-right (section_tests a t 0) (systems_tests a t ++ counted) h)).0,
      )

  larger-said : (m : ℕ) → is_larger a m t ≡ true → table_said a (limited b m) t ≡ parts_many a t m
  unfolding is_larger table_said refused_said place_said what_said sections_said section_said of_entry
  larger-said m e =
      let both = (and-eq-true_iff (is_good (in_order (counted_tests a t) good)) (ltb m (count_at t p))).0 e in
      let there = came-there both.0 in
      let z = limited b m in
      ap (λ (v : Verdict). letters v.number ++ cond (is_good v) (good_said (count_at t 0) (count_at t p) (length t)) (refused_said a z t v)) (larger-many a b t m e)
      ∙ ap (λ (l : List ℕ). letters MANY ++ (ascii ": " ++ l)) (simp (there.0, there.1, lt-leb (count_at t p) m (ltb-true m (count_at t p) both.1)))

  module _ (m n : ℕ) (h : m ≤ n) where
    abbrev parts_said : ℕ → List ℕ
    parts_said k = section_said (ascii "part") (limited b k) t p

    few-said : (k : ℕ) → count_at t p ≤ k
        → parts_said k ≡ cond (leb (p + 2) (length t)) (cut_said (ascii "part") ((length t - (p + 2)) / b.entry) (count_at t p)) (count_cut_said (ascii "part") (length t - p))
    unfolding section_said
    few-said k few = simp (le-leb (count_at t p) k few)

    cut_said_lem : (k : ℕ) → leb (p + 2) (length t) ≡ false → parts_said k ≡ count_cut_said (ascii "part") (length t - p)
    unfolding section_said
    cut_said_lem k e = simp e

    -- where a table is not larger, both tell the same of their sections, or of an entry
    sections-alike : parts_said m ≡ parts_said n → sections_said a (limited b m) t ≡ sections_said a (limited b n) t
    unfolding sections_said
    sections-alike e = ap (λ (l : List ℕ). cond (is_good (in_order (section_tests a t 0) good)) l (section_said (ascii "system") a t 0)) e

    what-alike : (v : Verdict) → sections_said a (limited b m) t ≡ sections_said a (limited b n) t → what_said a (limited b m) t v ≡ what_said a (limited b n) t v
    unfolding what_said entry_at
    what-alike v e =
        ap
        (λ (l : List ℕ). cond (of_entry v.number) (own_number (count_at t 0) v.place ++ why_said v.number)
        (cond (eqb v.number TAIL) (tail_said (length t - end_of (limited b m) t p) (get_or t (length t - 1) 0)) l))
        e

    by-entry : (v : Verdict) → of_entry v.number ≡ true → what_said a (limited b m) t v ≡ what_said a (limited b n) t v
    unfolding what_said
    by-entry v e = simp e

    no-systems : is_good (in_order (section_tests a t 0) good) ≡ false → sections_said a (limited b m) t ≡ sections_said a (limited b n) t
    unfolding sections_said
    no-systems e = simp e

    systems-decide : is_good (in_order (section_tests a t 0) good) ≡ true → is_good (in_order (systems_tests a t) good) ≡ false
        → judged a (limited b n) t ≡ in_order (systems_tests a t) good
    unfolding judged
    systems-decide s y = joined-on (section_tests a t 0) _ good refl s ∙ joined-stays (systems_tests a t) _ good y

    came : is_good (in_order (section_tests a t 0) good) ≡ true → is_good (in_order (systems_tests a t) good) ≡ true → leb (p + 2) (length t) ≡ true
        → is_good (in_order (counted_tests a t) good) ≡ true
    came s y c =
        let counted = count_test t p ∷ [] in
        let systems : Held (systems_tests a t) = (good-held (systems_tests a t) good (refusing-each (system_tests a t) (λ k. refl) 0 (count_at t 0)) y).0 in
        held-good (counted_tests a t)
        (held-append (section_tests a t 0) (systems_tests a t ++ counted) (good-held (section_tests a t 0) good refl s).0 (held-append (systems_tests a t) counted systems (c, tt)))

    what-same : (v : Verdict) → v ≡ judged a (limited b n) t → is_larger a m t ≡ false → what_said a (limited b m) t v ≡ what_said a (limited b n) t v
    unfolding is_larger
    what-same v is e =
        by-test (ltb m (count_at t p)) over
        (λ l. what-alike v (sections-alike (few-said m (ltb-false m (count_at t p) l) ∙ sym (few-said n (omega (arith, ltb-false m (count_at t p) l))))))
      where
        risen : ltb m (count_at t p) ≡ true → is_good (in_order (section_tests a t 0) good) ≡ true → is_good (in_order (systems_tests a t) good) ≡ true
            → what_said a (limited b m) t v ≡ what_said a (limited b n) t v
        risen l s y =
            by-test (leb (p + 2) (length t)) (λ c. absurd (false≢true (sym e ∙ simp (came s y c, l))))
            (λ c. what-alike v (sections-alike (cut_said_lem m c ∙ sym (cut_said_lem n c))))

        over : ltb m (count_at t p) ≡ true → what_said a (limited b m) t v ≡ what_said a (limited b n) t v
        over l =
            by-test (is_good (in_order (section_tests a t 0) good))
            (λ s. by-test (is_good (in_order (systems_tests a t) good)) (risen l s)
            (λ y. by-entry v (ap (λ (w : Verdict). of_entry w.number) (is ∙ systems-decide s y) ∙ of-an-entry 0 (count_at t 0) y)))
            (λ s. what-alike v (no-systems s))

    alike : is_larger a m t ≡ false → judged a (limited b m) t ≡ judged a (limited b n) t
    alike e = as-limited a b t m n h ∙ simp e

    said-alike : is_larger a m t ≡ false → table_said a (limited b m) t ≡ table_said a (limited b n) t
    unfolding table_said refused_said
    said-alike e =
        let v = judged a (limited b n) t in
        let held = good_said (count_at t 0) (count_at t p) (length t) in
        ap (λ (w : Verdict). letters w.number ++ cond (is_good w) held (refused_said a (limited b m) t w)) (alike e)
        ∙ ap (λ (l : List ℕ). letters v.number ++ cond (is_good v) held (place_said v ++ ascii ": " ++ l)) (what-same v refl e)

    pub said-limited : table_said a (limited b m) t ≡ cond (is_larger a m t) (parts_many a t m) (table_said a (limited b n) t)
    said-limited = by-test (is_larger a m t) (λ e. larger-said m e ∙ sym (simp e)) (λ e. said-alike e ∙ sym (simp e))

    -- nothing is said of an earlier program that takes the table too
    none-earlier : is_larger a m t ≡ false → all_said a (limited b n) (limited b m) t ≡ table_said a (limited b n) t
    unfolding all_said earlier_said
    none-earlier e =
        by-test (is_good (judged a (limited b n) t))
        (λ g. let f : is_good (judged a (limited b m) t) ≡ true = ap is_good (alike e) ∙ g in simp (g, f) (append-nil (table_said a (limited b n) t)))
        (λ g. simp g (append-nil (table_said a (limited b n) t)))

    -- so the earlier program's line follows from the later one's
    pub line-limited : (name : List ℕ)
        → file_line name (table_said a (limited b m) t) ≡ cond (is_larger a m t) (file_line name (parts_many a t m)) (table_line a (limited b n) (limited b m) name t)
    unfolding table_line
    line-limited name =
        ap (file_line name) said-limited
        ∙ by-test (is_larger a m t) (λ e. simp e) (λ e. simp e (ap (file_line name) (sym (none-earlier e))))
