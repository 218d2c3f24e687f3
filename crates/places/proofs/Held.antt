-- A row that has what the places hold answers for them: one place more is one number more, and a serial stands in it exactly where it is open.
-- By the tests of each place. Assumes nothing.
use Prim.Native.Nat.{ℕ, ◌+◌, ◌-◌, ◌≤◌, ◌<◌}
use native.Mathlib.Omega.{arith}
use borrow.Author.Tests.{eqb-true, eqb-false, eq-eqb, leb-true, le-leb, lt-leb}
use mathlib.Core.Bool.{Bool, true, false, not, ◌&&◌, cond}
use mathlib.Core.List.{List}
use mathlib.Core.Path.{◌≡◌, sym, ap, ◌∙◌}
use lib.Arith.{lt_of_le-ne}
use lib.Dec.{eqb, leb}
use lib.ListN.{length, get_or, set, replicate, take, drop, get_or-replicate}
use lib.Seq.{get_or-set_same, get_or-set_other}
use Rattle.octets.specs.Searches.{first_fit, any_fits}
use Rattle.octets.proofs.Searches.{found-there}
use Rattle.octets.proofs.Flags.{by-test, both-or-none}
use Rattle.place.specs.declared.Place.{Place}
use Rattle.place.specs.Rules.{is_open, holds}
use Rattle.place.proofs.Kept.{holds-is, open-holds}
use Rattle.places.specs.Rows.{place_at, holds_at, is_open_as, double_at, upward, serial_for}
use Rattle.places.specs.Held.{NONE, held_by, Held, stands_at, stands_in, serial_in}
use Rattle.places.proofs.Hitting.{stands_among, among-part}

module _ (ps : List Place) where
  up_one : (i j k : ℕ) → i ≡ j + 1 → (k ≡ j → ⊥) → leb i k ≡ leb j k
  up_one i j k e other =
      both-or-none (leb i k) (leb j k) (λ t. le-leb j k (let l = leb-true i k t in omega arith))
      (λ t. le-leb i k (let l = lt_of_le-ne (leb-true j k t) (λ q. other (sym q)) in omega arith))

  abbrev at : ℕ → Bool → ℕ
  at k b = cond b (held_by (place_at ps k)) NONE

  pub held_none : Held (replicate 16 NONE) ps 16
  held_none k h = get_or-replicate 16 k NONE 0 h ∙ ap (at k) (sym (lt-leb 16 k h))

  -- a place more, from the last on
  pub held_more : (row : List ℕ) (i j : ℕ) → i ≡ j + 1 → length row ≡ 16 → Held row ps i → Held (set row j (held_by (place_at ps j))) ps j
  held_more row i j e long held k h =
      let x = held_by (place_at ps j) in
      by-test (eqb k j)
      (λ t.
      let same : k ≡ j = eqb-true k j t in
      ap (λ (n : ℕ). get_or (set row j x) n 0) same
      ∙ get_or-set_same row j x 0 (omega arith)
      ∙ ap (λ (n : ℕ). held_by (place_at ps n)) (sym same)
      ∙ ap (at k) (sym (le-leb j k (omega arith))))
      (λ f.
      let other = eqb-false k j f in
      get_or-set_other row j k x 0 other ∙ held k h ∙ ap (at k) (up_one i j k e other))

  -- a place more that is not open
  pub held_on : (row : List ℕ) (i j : ℕ) → i ≡ j + 1 → is_open (place_at ps j).mode ≡ false → Held row ps i → Held row ps j
  held_on row i j e free held k h =
      by-test (eqb k j)
      (λ t.
      let same : k ≡ j = eqb-true k j t in
      let none : held_by (place_at ps k) ≡ NONE = ap (λ (n : ℕ). held_by (place_at ps n)) same ∙ ap (λ (b : Bool). cond b (place_at ps j).serial NONE) free in
      held k h ∙ ap (at k) (lt-leb i k (omega arith)) ∙ sym none ∙ ap (at k) (sym (le-leb j k (omega arith))))
      (λ f. held k h ∙ ap (at k) (up_one i j k e (eqb-false k j f)))

  -- a serial stands among the eight from one number on exactly where it is open: low is the first of them that the row has
  module _ (row : List ℕ) (i from low s : ℕ) (few : from ≤ 8) (small : s < 65536) (held : Held row ps i) (here : i ≤ low) (first : from ≤ low)
      (next : (k : ℕ) → from ≤ k → i ≤ k → low ≤ k) where
    pub stands-open : (k : ℕ) → from ≤ k → k < from + 8 → stands_at row s k ≡ true → (low ≤ k) × (k < low + (from + 8 - low)) × (holds_at ps s k ≡ true)
    stands-open k l h e =
        let p = place_at ps k in
        let is = sym (held k (omega arith)) ∙ eqb-true (get_or row k 0) s e in
        by-test (leb i k)
        (λ t.
        let lower = next k l (leb-true i k t) in
        let is : held_by p ≡ s = ap (at k) (sym t) ∙ is in
        by-test (is_open p.mode)
        (λ o.
        let own : p.serial ≡ s = ap (λ (b : Bool). cond b p.serial NONE) (sym o) ∙ is in
        (lower, omega arith, ap (λ (n : ℕ). holds n p) (sym own) ∙ open-holds p o))
        (λ o. let none : 65536 ≡ s = ap (λ (b : Bool). cond b p.serial NONE) (sym o) ∙ is in absurd (omega arith)))
        (λ f. let none : 65536 ≡ s = ap (at k) (sym f) ∙ is in absurd (omega arith))

    pub open-stands : (k : ℕ) → low ≤ k → k < low + (from + 8 - low) → holds_at ps s k ≡ true → (from ≤ k) × (k < from + 8) × (stands_at row s k ≡ true)
    open-stands k l h e =
        let p = place_at ps k in
        let is = holds-is s p e in
        let has : get_or row k 0 ≡ s =
        held k (omega arith)
        ∙ ap (at k) (le-leb i k (omega arith))
        ∙ ap (λ (b : Bool). cond b p.serial NONE) is.0
        ∙ is.1 in
        (omega arith, omega arith, eq-eqb (get_or row k 0) s has)

    pub stands-as-open : stands_among row from s ≡ is_open_as ps low (from + 8) s
    unfolding stands_among is_open_as
    stands-as-open =
        both-or-none (any_fits (stands_at row s) from 8) (any_fits (holds_at ps s) low (from + 8 - low))
        (found-there (stands_at row s) (holds_at ps s) from 8 low (from + 8 - low) stands-open)
        (found-there (holds_at ps s) (stands_at row s) low (from + 8 - low) from 8 open-stands)

  -- a row that has what all places hold
  module _ (row : List ℕ) (from m : ℕ) (few : from ≤ 8) (held : Held row ps 0) (long : length row ≡ 16) (whole : m ≡ 8) where
    eight : from + 8 - from ≡ 8
    eight = omega arith

    in-part : (s : ℕ) → s < 65536 → stands_in (take m (drop from row)) s ≡ is_open_as ps from (from + 8) s
    in-part s small = among-part row from m s whole (omega arith) ∙ stands-as-open row 0 from from s few small held (omega arith) (omega arith) (λ k l u. l)

    -- the first serial that does not stand among the eight is the first that is not open
    pub serial-in-row : (next : ℕ) → serial_in (take m (drop from row)) next ≡ serial_for ps from (from + 8) next
    unfolding serial_in serial_for
    serial-in-row next =
        (λ i. upward next (first_fit (λ j. not (in-part (upward next j) (omega arith) i)) 0 8))
        ∙ ap (λ (n : ℕ). upward next (first_fit (λ j. not (is_open_as ps from (from + 8) (upward next j))) 0 n)) (sym eight)

  -- a place behind which its serial stands among its centre's is a double, and one behind which it does not is none
  pub double-by-row : (row : List ℕ) (i j from m : ℕ) → i ≡ j + 1 → from ≤ 8 → from ≤ j → j < from + 8 → (place_at ps j).serial < 65536 → Held row ps i
      → length row ≡ 16 → m ≡ 8 → is_open (place_at ps j).mode && stands_in (take m (drop from row)) (place_at ps j).serial ≡ double_at ps (from + 8) j
  double-by-row row i j from m e few l u small held long whole =
      let p = place_at ps j in
      ap (λ (b : Bool). is_open p.mode && b)
      (among-part row from m p.serial whole (omega arith)
      ∙ stands-as-open row i from i p.serial few small held (omega arith) (omega arith) (λ k a b. b)
      ∙ ap (λ (n : ℕ). is_open_as ps n (from + 8) p.serial) e)
