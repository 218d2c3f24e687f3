-- The serials that are open, as a row of numbers that is searched at once: at each place the serial under which it is open.
-- Assumes nothing.
use Rattle.std.specs.Prelude.{ℕ, ◌%◌, ◌<◌, Bool, true, false, not, cond, List, ◌≡◌, eqb, leb, length, get_or, Result, MatchResult, ⊤}
use Rattle.std.specs.List.{list_any}
use Rattle.octets.specs.Searches.{first_fit}
use Rattle.place.specs.declared.Place.{Place}
use Rattle.place.specs.Rules.{is_open, is_zero}
use Rattle.places.specs.declared.Unfound.{Unfound}
use Rattle.places.specs.declared.Unfound.TheVariants.{Broken}
use Rattle.places.specs.Rows.{place_at, upward, all_sound}

-- no serial: the number after the last
abbrev pub NONE : ℕ
NONE = 65536

abbrev pub held_by : Place → ℕ
held_by p = cond (is_open p.mode) p.serial NONE

-- a row that has what the places from one number on hold, and no serial before them
abbrev pub Held : List ℕ → List Place → ℕ → Type 0
Held row ps i = (k : ℕ) → k < 16 → get_or row k 0 ≡ cond (leb i k) (held_by (place_at ps k)) NONE

abbrev pub stands_at : List ℕ → ℕ → ℕ → Bool
stands_at row s k = eqb (get_or row k 0) s

-- whether a serial stands in a row
abbrev pub stands_in : List ℕ → ℕ → Bool
stands_in row s = list_any (λ n. eqb n s) row

-- the first serial from the next one upward that does not stand in it, of eight and the one after them
unfoldable pub serial_in : List ℕ → ℕ → ℕ
serial_in row next = upward next (first_fit (λ j. not (stands_in row (upward next j))) 0 8)

-- a number for each place, which is 0 exactly where the place is all zero
pub record Weighed (ps : List Place) (ws : List ℕ) : Type 0 where
  pub tells : (k : ℕ) → k < 16 → eqb (get_or ws k 0) 0 ≡ is_zero (place_at ps k)

-- a mark for every serial that stands in a row, at its last four bits
pub record Marked (marks row : List ℕ) : Type 0 where
  pub met : (k : ℕ) → k < length row → get_or row k 0 < NONE → get_or marks (get_or row k 0 % 16) 0 ≡ 0 → ⊥

-- whether places keep the rules, and then the row that has what they hold
pub record Gathered (t r : ℕ) (ps : List Place) (kept : Result ⊤ Unfound) (row : List ℕ) : Type 0 where
  pub rows : MatchResult kept (λ y. (all_sound t r ps ≡ true) × (length row ≡ 16) × Held row ps 0) (λ e. (e ≡ Broken) × (all_sound t r ps ≡ false))
