-- The cases of document 02's Q-7, more parts, as rows of the one table of checked examples (Checked); those of whole tables are run. Assumes nothing.
use Prim.Native.Nat.{ℕ, ◌+◌, ◌*◌}
use mathlib.Core.List.{List, [], ◌∷◌, ◌++◌, map}
use mathlib.Core.Path.{◌≡◌, refl}
use lib.ListN.{replicate}
use Rattle.devices.specs.Keys.{below, same}
use Rattle.devices.specs.Sections.{count_at, entry_at, first_bytes, rises, entry_of, each_entry, limited}
use Rattle.devices.specs.Tables.{of_systems, of_parts, earlier_parts, judged as judged_table}
use Rattle.lines.specs.Decimal.{decimal_in, decimal}
use Rattle.lines.specs.Tables.{led, counted, good_said, of_said, count_cut_said, many_said, cut_said, section_said, sections_said}
use Rattle.lines.specs.Tables.{of_entry, place_said, what_said, refused_said, table_said, earlier_said, all_said, file_name, file_line, table_line}
use Rattle.naming.specs.Names.{ascii, letters_in, letters}
use Rattle.octets.specs.Numbers.{low_first}
use Rattle.octets.specs.Parts.{part}
use Rattle.octets.specs.Searches.{first_fit}
use Rattle.verdict.specs.Orders.{in_order, refusal}
use Rattle.verdict.specs.Refusals.{CUT, MANY}
use Rattle.demands.proofs.CheckedConfirms.{of}

-- no systems, and a number of parts
abbrev parts : ℕ → ℕ → List ℕ
parts low high = 0 ∷ 0 ∷ low ∷ high ∷ []

-- the verdict of this release, and of the one before
abbrev now : List ℕ → List ℕ
now t = of (judged_table of_systems of_parts t)

abbrev before : List ℕ → List ℕ
before t = of (judged_table of_systems earlier_parts t)

-- the line of `tables`, and that of a program that takes n parts and tells of one that took m
abbrev line : List ℕ → List ℕ
line t = table_line of_systems of_parts earlier_parts (ascii "t") t

abbrev line_under : ℕ → ℕ → List ℕ → List ℕ
line_under n m t = table_line of_systems (limited of_parts n) (limited of_parts m) (ascii "t") t

-- one system and two parts
abbrev part_of : ℕ → List ℕ
part_of k = 1 ∷ 2 ∷ 0x15 ∷ k ∷ replicate 34 0

abbrev two : List ℕ
two = 1 ∷ 0 ∷ 1 ∷ 2 ∷ 2 ∷ 0 ∷ part_of 1 ++ part_of 2

abbrev pub checked-parts : List (List ℕ × List ℕ)
checked-parts =
    -- "`00 00 41 06`: MANY. `00 00 40 06`: CUT"
    (now (parts 0x41 6) ++ before (parts 0x41 6), of (refusal MANY 0) ++ of (refusal MANY 0))
    ∷ (now (parts 0x40 6) ++ before (parts 0x40 6), of (refusal CUT 0) ++ of (refusal MANY 0))
    ∷ (now (parts 1 4) ++ before (parts 1 4), of (refusal CUT 0) ++ of (refusal MANY 0))
    ∷ (now (parts 0 4) ++ before (parts 0 4), of (refusal CUT 0) ++ of (refusal CUT 0))
    -- so `tables`, and what it adds to the line of a good table that an earlier program refuses
    ∷ (line (parts 0x41 6), ascii "t: MANY: 1601 parts, at most 1600" ++ (10 ∷ []))
    ∷ (line (parts 0x40 6), ascii "t: CUT: 0 of 1600 parts are whole" ++ (10 ∷ []))
    ∷ (line (parts 0 0), ascii "t: OK 0 systems, 0 parts, 4 bytes" ++ (10 ∷ []))
    ∷ (line_under 2 2 two, ascii "t: OK 1 system, 2 parts, 82 bytes" ++ (10 ∷ []))
    ∷ (line_under 2 1 two, ascii "t: OK 1 system, 2 parts, 82 bytes; releases before 1.8 refuse it as MANY: replace it before going back to one" ++ (10 ∷ []))
    ∷ (line_under 1 0 two, ascii "t: MANY: 2 parts, at most 1" ++ (10 ∷ []))
    -- "60,932 bytes at most with 64 systems"
    ∷ ((4 + of_systems.limit * of_systems.entry + of_parts.limit * of_parts.entry) ∷ [], 60932 ∷ [])
    ∷ []

pub parts-so : map (λ (e : List ℕ × List ℕ). e.0) checked-parts ≡ map (λ (e : List ℕ × List ℕ). e.1) checked-parts
unfolding judged_table in_order count_at low_first entry_at each_entry first_bytes part rises entry_of below same first_fit table_line file_line file_name all_said table_said earlier_said
    refused_said place_said what_said of_entry sections_said section_said cut_said many_said count_cut_said of_said good_said counted led decimal decimal_in letters letters_in
parts-so = refl
