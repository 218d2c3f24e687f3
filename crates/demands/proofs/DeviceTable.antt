-- The tender's condition on the device table: one that is not understood to its last byte is refused whole. Assumes nothing.
use Prim.Native.Nat.{ℕ, ◌+◌, ◌≤◌, ◌<◌}
use mathlib.Core.Bool.{Bool, true, false}
use mathlib.Core.List.{List, [], ◌++◌}
use mathlib.Core.Logic.{◌↔◌}
use mathlib.Core.Path.{◌≡◌, refl, ap, ◌∙◌}
use lib.ListN.{length, take}
use Rattle.devices.specs.Sections.{count_at, entry_at, key_at, entry_of}
use Rattle.devices.specs.Tables.{of_systems, of_parts, parts_from, system_of, judged as judged_table, refused_by, judgement, found_place}
use Rattle.devices.proofs.Good.{Sound, good-sound, sound-good}
use Rattle.devices.proofs.Theorems.{listed_has, every-found, none-unlisted, unlisted-none, refused-first, refused-empty, longer-refused, cut-refused}
use Rattle.verdict.specs.declared.Part.{Part}
use Rattle.verdict.specs.Orders.{refusal, good, is_good, no_part, part_in}
use Rattle.verdict.specs.Refusals.{CUT, TAIL, UNLISTED}

-- what is understood to its last byte, `Sound`: both counts there and within their limits, every entry there and above the one before, every
-- part's system listed, and the last entry's end the table's; these tables are good, and no others
pub table-understood : (t : List ℕ) → is_good (judged_table of_systems of_parts t) ≡ true → Sound of_systems of_parts t
table-understood = good-sound of_systems of_parts

pub table-good : (t : List ℕ) → Sound of_systems of_parts t → judged_table of_systems of_parts t ≡ good
table-good = sound-good of_systems of_parts

-- a part's system is listed: one of the systems has its two bytes
pub table-owned : (t : List ℕ) → Sound of_systems of_parts t → (k : ℕ) → k < count_at t (parts_from of_systems t)
    → (i : ℕ) × ((i < count_at t 0) × (key_at of_systems t 0 i ≡ system_of of_systems of_parts t (parts_from of_systems t) k))
table-owned t s k h =
    let x = system_of of_systems of_parts t (parts_from of_systems t) k in
    (entry_of of_systems t 0 x, listed_has of_systems t 0 x (s.owned k h))

-- refused by number, and nothing of it is read: no counts of it are told, and no part is found in it, whatever is sought
abbrev pub RefusedWhole : List ℕ → Type 0
RefusedWhole t =
    (is_good (judged_table of_systems of_parts t) ≡ false)
    × (judgement of_systems of_parts t ≡ refused_by (judged_table of_systems of_parts t))
    × ((x : List ℕ) → (found_place of_systems of_parts t x ≡ no_part (judged_table of_systems of_parts t)) × (part_in t (found_place of_systems of_parts t x) ≡ []))

-- THE DEVICE TABLE: "a table that the program does not understand to its last byte is refused whole"
pub table-refused : (t : List ℕ) → (Sound of_systems of_parts t → ⊥) → RefusedWhole t
unfolding judgement
table-refused t none = by-test (is_good (judged_table of_systems of_parts t)) refl
  where
    by-test : (b : Bool) → is_good (judged_table of_systems of_parts t) ≡ b → RefusedWhole t
    by-test true g = absurd (none (good-sound of_systems of_parts t g))
    by-test false g =
        (g, simp g, λ x. (refused-first t x g, refused-empty t x (ap (λ (p : Part). is_good p.verdict) (refused-first t x g) ∙ g)))

-- and so is a good table with bytes behind it, or cut anywhere
pub table-longer : (t u : List ℕ) → is_good (judged_table of_systems of_parts t) ≡ true → 1 ≤ length u → judged_table of_systems of_parts (t ++ u) ≡ refusal TAIL 0
table-longer = longer-refused

pub table-cut : (t : List ℕ) (n : ℕ) → is_good (judged_table of_systems of_parts t) ≡ true → n < length t → judged_table of_systems of_parts (take n t) ≡ refusal CUT 0
table-cut = cut-refused

-- what is found in a good table: "Finding a part judges the table first, then hands back the description as a part of it, or UNLISTED exactly when no
-- entry has the seven bytes."
module _ (t : List ℕ) (g : is_good (judged_table of_systems of_parts t) ≡ true) where
  abbrev from : ℕ
  from = parts_from of_systems t

  pub table-found : (k : ℕ) → k < count_at t from
      → found_place of_systems of_parts t (key_at of_parts t from k) ≡ record { verdict = good; from = entry_at of_parts from k + 7; to = entry_at of_parts from k + 38 }
  table-found = every-found t g

  pub table-unlisted : (x : List ℕ) → (found_place of_systems of_parts t x ≡ no_part (refusal UNLISTED 0)) ↔ ((k : ℕ) → k < count_at t from → key_at of_parts t from k ≡ x → ⊥)
  table-unlisted x = (unlisted-none t x g, none-unlisted t x g)
