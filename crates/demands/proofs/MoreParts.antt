-- Document 02, Q-7, more parts: "Raise the limit to 1,600 parts; the file stays below 64 KiB (60,932 bytes at most with 64 systems). The stored form does not move". Each sentence
-- is a law over the limit (devices, Limits), used for 1,024 and 1,600. Assumes nothing.
use Prim.Native.Nat.{ℕ, ◌≤◌, ◌<◌}
use native.Mathlib.Omega.{arith}
use mathlib.Core.Bool.{Bool, true, false, cond}
use mathlib.Core.List.{List}
use mathlib.Core.Path.{◌≡◌, subst}
use lib.ListN.{length}
use Rattle.devices.specs.Sections.{count_at}
use Rattle.devices.specs.Tables.{of_systems, of_parts, earlier_parts, parts_from, is_larger, judged as judged_table, refused_by, judgement, found_place}
use Rattle.devices.proofs.Limits.{good-longest, larger-many, newer-larger, not-larger, limit-raised}
use Rattle.devices.proofs.Theorems.{good-counts}
use Rattle.verdict.specs.Orders.{refusal, good, is_good, no_part}
use Rattle.verdict.specs.Refusals.{MANY}
use Rattle.demands.proofs.Release17.{table-as-in-1-7, judgement-as-in-1-7, find-as-in-1-7}

abbrev parts_in : List ℕ → ℕ
parts_in t = count_at t (parts_from of_systems t)

-- "60,932 bytes at most with 64 systems", "below 64 KiB"
pub table-longest : (t : List ℕ) → is_good (judged_table of_systems of_parts t) ≡ true → (length t ≤ 60932) × (length t < 65536)
table-longest t g = let h = good-longest of_systems of_parts t g in (h, omega arith)

-- and what the earlier program took
pub earlier-longest : (t : List ℕ) → is_good (judged_table of_systems earlier_parts t) ≡ true → length t ≤ 39044
earlier-longest t g = good-longest of_systems earlier_parts t g

-- "Refusals: MANY from 1,601": of a table that comes to the number of its parts, and no good table has so many
pub many-from-1601 : (t : List ℕ) → is_larger of_systems 1600 t ≡ true → judged_table of_systems of_parts t ≡ refusal MANY 0
many-from-1601 t e = larger-many of_systems of_parts t 1600 e

pub taken-to-1600 : (t : List ℕ) → is_good (judged_table of_systems of_parts t) ≡ true → parts_in t ≤ 1600
taken-to-1600 t g = (good-counts t g).1

-- what the earlier program says of a table, with its counts, and finds in it, where it is known whether the table is larger
abbrev EarlierSays : List ℕ → Bool → Type 0
EarlierSays t b =
    (judged_table of_systems earlier_parts t ≡ cond b (refusal MANY 0) (judged_table of_systems of_parts t))
    × (judgement of_systems earlier_parts t ≡ cond b (refused_by (refusal MANY 0)) (judgement of_systems of_parts t))
    × ((x : List ℕ) → found_place of_systems earlier_parts t x ≡ cond b (no_part (refusal MANY 0)) (found_place of_systems of_parts t x))

says_so : (t : List ℕ) (b : Bool) → is_larger of_systems 1024 t ≡ b → EarlierSays t b
says_so t b e = subst (EarlierSays t) e (table-as-in-1-7 t, judgement-as-in-1-7 t, find-as-in-1-7 t)

-- "a table of 1,024 parts or fewer has the same bytes as before and the earlier program reads it": both judge it alike, and find the same in it
pub fewer-as-before : (t : List ℕ) → parts_in t ≤ 1024
    → (judged_table of_systems earlier_parts t ≡ judged_table of_systems of_parts t)
    × (judgement of_systems earlier_parts t ≡ judgement of_systems of_parts t)
    × ((x : List ℕ) → found_place of_systems earlier_parts t x ≡ found_place of_systems of_parts t x)
fewer-as-before t h = says_so t false (not-larger of_systems of_parts t 1024 h)

-- so what the earlier program took is taken still
pub still_read : (t : List ℕ) → is_good (judged_table of_systems earlier_parts t) ≡ true → judged_table of_systems of_parts t ≡ good
still_read t g = limit-raised of_systems of_parts t 1024 1600 (omega arith) g

-- "A larger one is refused by the earlier program as MANY with nothing altered": at place 0 and whole, though this program takes it
pub larger-refused : (t : List ℕ) → is_good (judged_table of_systems of_parts t) ≡ true → 1024 < parts_in t
    → (judged_table of_systems earlier_parts t ≡ refusal MANY 0)
    × (judgement of_systems earlier_parts t ≡ refused_by (refusal MANY 0))
    × ((x : List ℕ) → found_place of_systems earlier_parts t x ≡ no_part (refusal MANY 0))
larger-refused t g h = says_so t true (newer-larger of_systems of_parts t 1024 1600 g h)
