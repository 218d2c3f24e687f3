-- The pass over the places and the search for a serial: what holds at a turn, at first, one turn more, and at each way out. Assumes nothing.
use Prim.Native.Nat.{ℕ, ◌+◌, ◌*◌, ◌-◌, ◌≤◌, ◌<◌}
use native.Mathlib.Omega.{arith}
use mathlib.Core.Bool.{Bool, true, false, not, ◌&&◌, false≢true}
use mathlib.Core.List.{List}
use mathlib.Core.Path.{◌≡◌, refl, sym, ap, subst, subst⁻¹, ◌∙◌}
use lib.Arith.{lt_of_le-ne}
use lib.Dec.{eqb, ltb, leb}
use lib.ListN.{length, get_or, set, replicate, take, drop, length-set}
use lib.Seq.{get_or-set_same, get_or-set_other}
use borrow.Author.Tests.{eq-eqb, ne_eqb, eqb-true, eqb-false, lt-ltb, le-ltb}
use Rattle.octets.specs.Searches.{first_fit}
use Rattle.octets.proofs.Flags.{by-test, on, off}
use Rattle.octets.proofs.Searches.{first-here, first_on, first-end}
use Rattle.std.specs.Prelude.{None, Ok, Err}
use Rattle.place.specs.declared.Place.{Place}
use Rattle.place.specs.Rules.{is_open, is_zero, keeps}
use Rattle.place.proofs.Kept.{zero-free, zero-keeps, kept-open, kept-as-open}
use Rattle.places.specs.declared.Unfound.{Unfound}
use Rattle.places.specs.declared.Unfound.TheVariants.{Broken, Outside, Nothing}
use Rattle.places.specs.Rows.{place_at, free_at, keeps_at, lowest_free, double_at, low_of, end_of, owner_of, all_sound, upward, opening, swept}
use Rattle.places.specs.Held.{NONE, held_by, Held, stands_in, serial_in, Weighed, Gathered}
use Rattle.places.proofs.Held.{held_none, held_more, held_on, serial-in-row, double-by-row}
use Rattle.places.proofs.Rules.{sound-keeps, sound-single, each-sound}
use Rattle.places.proofs.Serials.{upward-none, upward-more}
use Rattle.places.proofs.Sought.{when-broken, when-outside, when-nothing, when-at}

-- the numbers of the places before i
pub record Weighing (ps : List Place) (ws : List ℕ) (i : ℕ) : Type 0 where
  pub long : length ws ≡ 16
  pub told : (k : ℕ) → k < i → eqb (get_or ws k 0) 0 ≡ is_zero (place_at ps k)

module _ (ps : List Place) where
  pub none-weighed : Weighing ps (replicate 16 0) 0
  none-weighed = record { long = refl; told = λ k h. absurd (omega arith) }

  module _ (ws : List ℕ) (i : ℕ) (s : Weighing ps ws i) where
    pub one-weighed : (x : ℕ) → i < 16 → eqb x 0 ≡ is_zero (place_at ps i) → Weighing ps (set ws i x) (i + 1)
    one-weighed x h e =
        record {
          long = length-set ws i x ∙ s.long;
          told =
              λ k l.
              by-test (eqb k i)
              (λ q.
              let same : k ≡ i = eqb-true k i q in
              subst⁻¹ (λ (n : ℕ). eqb (get_or (set ws i x) n 0) 0 ≡ is_zero (place_at ps n)) same
              (ap (λ (n : ℕ). eqb n 0) (get_or-set_same ws i x 0 (omega (arith, s.long))) ∙ e))
              (λ q.
              let other = eqb-false k i q in
              ap (λ (n : ℕ). eqb n 0) (get_or-set_other ws i k x 0 other) ∙ s.told k (omega (arith, lt_of_le-ne (omega arith) other)));
        }

    pub all-weighed : 16 ≤ i → Weighed ps ws
    all-weighed h = record { tells = λ k l. s.told k (omega arith) }

pub ruleset weighing = (none-weighed, one-weighed, all-weighed)

-- whether numbers are those of an open place that keeps the rules, by the tests
module _ (m n a t r : ℕ) (o : Bool) (told : o ≡ is_open m) where
  pub kept-shut : not o ≡ true → false ≡ is_open m && (ltb a t && leb n r)
  kept-shut e = simp (off told e)

  pub kept-young : not o ≡ false → a < t → leb n r ≡ is_open m && (ltb a t && leb n r)
  kept-young e h = simp (on told e, lt-ltb a t h)

  pub kept-old : not o ≡ false → t ≤ a → false ≡ is_open m && (ltb a t && leb n r)
  kept-old e h = simp (on told e, le-ltb a t h)

pub ruleset kept-by-tests = (kept-shut, kept-young, kept-old)

-- from the last place down to i: each keeps the rules for a place, none is open under a serial that is open further on in its centre, and the row has
-- what they hold
pub record Looked (t r : ℕ) (ps : List Place) (row : List ℕ) (i : ℕ) : Type 0 where
  pub few : i ≤ 16
  pub long : length row ≡ 16
  pub held : Held row ps i
  pub kept : (k : ℕ) → i ≤ k → k < 16 → keeps_at t r ps k ≡ true
  pub single : (k : ℕ) → i ≤ k → k < 16 → double_at ps (end_of (owner_of k)) k ≡ false

-- what holds of a place and of all behind it
one_more : (P : ℕ → Type 0) (i : ℕ) → 0 < i → P (i - 1) → ((k : ℕ) → i ≤ k → k < 16 → P k) → (k : ℕ) → i - 1 ≤ k → k < 16 → P k
one_more P i below here behind k l h =
    by-test (eqb k (i - 1))
    (λ e. subst⁻¹ P (eqb-true k (i - 1) e) here)
    (λ e. behind k (let n = eqb-false k (i - 1) e in let m : i - 1 < k = lt_of_le-ne l (λ q. n (sym q)) in omega arith) h)

module _ (t r : ℕ) (ps : List Place) where
  -- before the first turn
  pub looked-none : Looked t r ps (replicate 16 NONE) 16
  looked-none =
      record {
        few = omega arith;
        long = refl;
        held = held_none ps;
        kept = λ k l h. absurd (omega arith);
        single = λ k l h. absurd (omega arith);
      }

  -- ws is the places' numbers
  module _ (row : List ℕ) (i : ℕ) (below : 0 < i) (s : Looked t r ps row i) (ws : List ℕ) (w : Weighed ps ws) where
    abbrev p : Place
    p = place_at ps (i - 1)

    -- a free one
    pub looked-free : get_or ws (i - 1) 0 ≡ 0 → Looked t r ps row (i - 1)
    looked-free e =
        let yes = sym (w.tells (i - 1) (omega (arith, s.few))) ∙ eq-eqb (get_or ws (i - 1) 0) 0 e in
        let o = zero-free p yes in
        record {
          few = omega (arith, s.few);
          long = s.long;
          held = held_on ps row i (i - 1) (omega arith) o s.held;
          kept = one_more (λ k. keeps_at t r ps k ≡ true) i below (zero-keeps p t r yes) s.kept;
          single = one_more (λ k. double_at ps (end_of (owner_of k)) k ≡ false) i below (simp o) s.single;
        }

    -- k is whether it is open and keeps the rules for a place
    module _ (n : get_or ws (i - 1) 0 ≡ 0 → ⊥) (k : Bool) (open_kept : k ≡ is_open p.mode && (ltb p.age t && leb p.resends r)) where
      nonzero : is_zero p ≡ false
      nonzero = sym (w.tells (i - 1) (omega (arith, s.few))) ∙ ne_eqb (get_or ws (i - 1) 0) 0 n

      keeping : k ≡ keeps t r p
      keeping = open_kept ∙ kept-as-open p t r nonzero

      one-breaks : not k ≡ true → false ≡ all_sound t r ps
      one-breaks m =
          by-test (all_sound t r ps)
          (λ a. absurd (false≢true (sym (off keeping m) ∙ sound-keeps t r ps a (i - 1) (omega (arith, s.few)))))
          sym

      -- b is whether its serial stands in the row among those of its centre, which stand from low on
      module _ (m : not k ≡ false) (low wide : ℕ) (own : low ≡ low_of (owner_of (i - 1))) (whole : wide ≡ 8) (b : Bool)
          (told : (b ≡ stands_in (take wide (drop low row)) p.serial) × (p.serial < 65536)) where
        own_open : is_open p.mode ≡ true
        own_open = kept-open p t r (on keeping m) nonzero

        double-is : b ≡ double_at ps (end_of (owner_of (i - 1))) (i - 1)
        double-is =
            told.0
            ∙ ap (λ (j : ℕ). stands_in (take wide (drop j row)) p.serial) own
            ∙ sym (simp own_open)
            ∙ double-by-row ps row i (i - 1) (low_of (owner_of (i - 1))) wide (omega arith) (omega (arith, s.few)) (omega arith) (omega arith) told.1 s.held s.long whole

        one-double : b ≡ true → false ≡ all_sound t r ps
        one-double e =
            by-test (all_sound t r ps)
            (λ a. absurd (false≢true (sym (sound-single t r ps a (i - 1) (omega (arith, s.few))) ∙ sym double-is ∙ e)))
            sym

        -- an open one
        pub looked-open : (x : ℕ) → x ≡ p.serial → b ≡ false → Looked t r ps (set row (i - 1) x) (i - 1)
        looked-open x is f =
            let holds : held_by p ≡ x = simp own_open (sym is) in
            record {
              few = omega (arith, s.few);
              long = length-set row (i - 1) x ∙ s.long;
              held = subst (λ (y : ℕ). Held (set row (i - 1) y) ps (i - 1)) holds (held_more ps row i (i - 1) (omega arith) s.long s.held);
              kept = one_more (λ j. keeps_at t r ps j ≡ true) i below (on keeping m) s.kept;
              single = one_more (λ j. double_at ps (end_of (owner_of j)) j ≡ false) i below (sym double-is ∙ f) s.single;
            }

        pub gather-double : (new : List ℕ) → b ≡ true → Gathered t r ps (Err Broken) new
        gather-double new e = record { rows = (refl, sym (one-double e)) }

        pub sweep-double : b ≡ true → swept t r ps ≡ None
        unfolding swept
        sweep-double e = simp (sym (one-double e))

      pub gather-breaks : (new : List ℕ) → not k ≡ true → Gathered t r ps (Err Broken) new
      gather-breaks new m = record { rows = (refl, sym (one-breaks m)) }

      pub sweep-breaks : not k ≡ true → swept t r ps ≡ None
      unfolding swept
      sweep-breaks m = simp (sym (one-breaks m))

  -- after the last turn
  module _ (row : List ℕ) (i : ℕ) (out : i ≤ 0) (s : Looked t r ps row i) where
    pub looked-sound : all_sound t r ps ≡ true
    looked-sound = each-sound t r ps (λ k h. s.kept k (omega arith) h) (λ k h. s.single k (omega arith) h)

    pub all_held : Held row ps 0
    all_held = let end : i ≡ 0 = omega arith in subst (Held row ps) end s.held

    pub gathered : Gathered t r ps (Ok tt) row
    gathered = record { rows = (looked-sound, s.long, all_held) }

pub ruleset looking = (looked-free, gather-breaks, gather-double, looked-open, gathered)

-- the loop that looks for the first place that fits among the eight from one number on: what is left decides as all does
pub record Passed (f : ℕ → Bool) (from k : ℕ) : Type 0 where
  pub low : from ≤ k
  pub same : first_fit f k (from + 8 - k) ≡ first_fit f from (from + 8 - from)

module _ (f : ℕ → Bool) (from : ℕ) where
  pub passed-none : Passed f from from
  passed-none = record { low = omega arith; same = refl }

  module _ (k : ℕ) (l : Passed f from k) where
    pub passed-on : k < from + 8 → f k ≡ false → Passed f from (k + 1)
    passed-on h e = record { low = omega (arith, l.low); same = sym (first_on f k (from + 8) h e) ∙ l.same }

    pub passed-here : k < from + 8 → f k ≡ true → k ≡ first_fit f from (from + 8 - from)
    passed-here h e = sym (first-here f k (from + 8) h e) ∙ l.same

    pub passed-all : from + 8 ≤ k → k ≡ first_fit f from (from + 8 - from)
    passed-all h = sym (first-end f k (from + 8) h) ∙ l.same

-- where a place is open, the search for a free one goes on
pub free-on : (ps : List Place) (from k : ℕ) (b : Bool) → Passed (free_at ps) from k → b ≡ is_open (place_at ps k).mode → k < from + 8 → b ≡ true
    → Passed (free_at ps) from (k + 1)
free-on ps from k b l told h e = passed-on (free_at ps) from k l h (sym (ap not told) ∙ ap not e)

-- what a beginning finds, in places that keep the rules
module _ (t r : ℕ) (ps : List Place) (c next : ℕ) where
  -- the places of no centre are not looked at
  pub opening-broken : (e : Unfound) → (e ≡ Broken) × (all_sound t r ps ≡ false) → Err e ≡ opening t r ps c next
  opening-broken e b = ap (λ (x : Unfound). Err x) b.0 ∙ when-broken t r ps c _ _ b.1

  module _ (sound : all_sound t r ps ≡ true) where
    pub opening-outside : 2 ≤ c → Err Outside ≡ opening t r ps c next
    opening-outside h = when-outside t r ps c _ _ sound h

    module _ (inside : c < 2) (k : ℕ) (l : Passed (free_at ps) (c * 8) k) where
      pub opening-full : c * 8 + 8 ≤ k → Err Nothing ≡ opening t r ps c next
      unfolding lowest_free
      opening-full h = when-nothing t r ps c _ _ sound inside (omega (arith, passed-all (free_at ps) (c * 8) k l h, h))

      pub opening-at : (row : List ℕ) → length row ≡ 16 → Held row ps 0 → (b : Bool) (x n : ℕ) → b ≡ is_open (place_at ps k).mode → k < c * 8 + 8
          → b ≡ false → n ≡ 8 → x ≡ serial_in (take n (drop (c * 8) row)) next → Ok (k, x) ≡ opening t r ps c next
      unfolding lowest_free
      opening-at row long held b x n told h e whole is =
          let lowest = passed-here (free_at ps) (c * 8) k l h (sym (ap not told) ∙ ap not e) in
          let first = is ∙ serial-in-row ps row (c * 8) n (omega arith) held long whole next in
          (λ j. Ok (lowest j, first j)) ∙ when-at t r ps c _ _ sound inside (omega (arith, lowest, h))

-- whether the serial so many after the next one stands in none of the eight
abbrev unheld : List ℕ → ℕ → ℕ → Bool
unheld row next j = not (stands_in row (upward next j))

-- so many serials were tried, and the first of the rest that does not stand in the row is the first of all
pub record Tried (row : List ℕ) (next serial tried : ℕ) : Type 0 where
  pub here : serial ≡ upward next tried
  pub same : first_fit (unheld row next) tried (8 - tried) ≡ first_fit (unheld row next) 0 8

module _ (row : List ℕ) (next : ℕ) where
  pub none_tried : next < 65536 → Tried row next next 0
  none_tried h = let all : 8 - 0 ≡ 8 = omega arith in record { here = upward-none next h; same = ap (first_fit (unheld row next) 0) all }

  module _ (serial tried : ℕ) (t : Tried row next serial tried) where
    found_at : first_fit (unheld row next) tried (8 - tried) ≡ tried → serial ≡ serial_in row next
    unfolding serial_in
    found_at e = t.here ∙ ap (upward next) (sym e ∙ t.same)

    pub serial-last : 8 ≤ tried → serial ≡ serial_in row next
    serial-last h = found_at (first-end (unheld row next) tried 8 h)

    module _ (b : Bool) (told : b ≡ stands_in row serial) (h : tried < 8) where
      told_at : unheld row next tried ≡ not b
      told_at = ap (λ (s : ℕ). not (stands_in row s)) (sym t.here) ∙ ap not (sym told)

      pub serial-here : b ≡ false → serial ≡ serial_in row next
      serial-here n = found_at (first-here (unheld row next) tried 8 h (told_at ∙ ap not n))

      pub one-tried : (s : ℕ) → b ≡ true → s ≡ upward serial 1 → Tried row next s (tried + 1)
      one-tried s n e =
          record {
            here = e ∙ ap (λ (k : ℕ). upward k 1) t.here ∙ upward-more next tried;
            same = sym (first_on (unheld row next) tried 8 h (told_at ∙ ap not n)) ∙ t.same;
          }

pub ruleset trying = (none_tried, serial-last)
