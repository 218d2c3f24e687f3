-- Small tables, good and bad, with the readings of document 01's "Device table", by computation. Assumes nothing.
use Prim.Native.Nat.{ℕ}
use mathlib.Core.Path.{◌≡◌, refl}
use mathlib.Core.List.{List, [], ◌∷◌, ◌++◌, map}
use lib.ListN.{replicate}
use Rattle.octets.specs.Numbers.{low_first, bytes_of}
use Rattle.octets.specs.Parts.{part}
use Rattle.octets.specs.Searches.{first_fit}
use Rattle.verdict.specs.declared.Part.{Part}
use Rattle.verdict.specs.Orders.{in_order, refusal, good, part_by, no_part}
use Rattle.verdict.specs.Refusals.{CUT, MANY, ORDER, ORPHAN, TAIL, UNLISTED}
use Rattle.devices.specs.declared.Judgement.{Judgement}
use Rattle.devices.specs.declared.PartKey.{PartKey}
use Rattle.devices.specs.Keys.{below, same}
use Rattle.devices.specs.Sections.{count_at, entry_at, first_bytes, rises, entry_of, each_entry}
use Rattle.devices.specs.Tables.{of_systems, of_parts, judged, refused_by, judgement, found_place, key_bytes}

-- a part: its key, and a description of so many times one byte
abbrev sized : ℕ → PartKey → ℕ → List ℕ
sized n k c = key_bytes k ++ replicate n c

abbrev described : PartKey → ℕ → List ℕ
described k c = sized 31 k c

-- a part of a system, by its address
abbrev key : ℕ → ℕ → ℕ → PartKey
key s a n = record { system = s; address = a; part = 0x15; part_address = n }

-- systems 01 02 and 02 01, and a part of each, or two of the first
abbrev two-systems : List ℕ
two-systems = 2 ∷ 0 ∷ 1 ∷ 2 ∷ 2 ∷ 1 ∷ []

abbrev one-of-each : List ℕ
one-of-each = two-systems ++ (2 ∷ 0 ∷ []) ++ described (key 1 2 9) 0x41 ++ described (key 2 1 0) 0x42

abbrev one-system : List ℕ
one-system = 1 ∷ 0 ∷ 1 ∷ 2 ∷ []

abbrev passes : ℕ → ℕ → Judgement
passes s p = record { verdict = good; systems = s; parts = p }

abbrev refuses : ℕ → ℕ → Judgement
refuses n p = refused_by (refusal n p)

-- a table, and its judgement
abbrev pub tables : List (List ℕ × Judgement)
tables =
    -- "Both counts 0 is a good table"
    (0 ∷ 0 ∷ 0 ∷ 0 ∷ [], passes 0 0)
    ∷ (one-of-each, passes 2 2)
    ∷ (two-systems ++ (0 ∷ 0 ∷ []), passes 2 0)
    -- CUT of each count, and of each section
    ∷ ([], refuses CUT 0)
    ∷ (0 ∷ [], refuses CUT 0)
    ∷ (0 ∷ 0 ∷ [], refuses CUT 0)
    ∷ (0x40 ∷ 0 ∷ [], refuses CUT 0)
    ∷ (two-systems, refuses CUT 0)
    ∷ (one-system ++ (1 ∷ 0 ∷ []) ++ sized 30 (key 1 2 1) 0, refuses CUT 0)
    -- MANY: 65 systems, 1,601 parts
    ∷ (0x41 ∷ 0 ∷ [], refuses MANY 0)
    ∷ (0 ∷ 0 ∷ 0x41 ∷ 6 ∷ [], refuses MANY 0)
    ∷ (0 ∷ 0 ∷ 0x40 ∷ 6 ∷ [], refuses CUT 0)
    -- a section is judged to its end before the next count is read
    ∷ (2 ∷ 0 ∷ 1 ∷ 2 ∷ 1 ∷ 2 ∷ [], refuses ORDER 1)
    ∷ (2 ∷ 0 ∷ 2 ∷ 1 ∷ 1 ∷ 2 ∷ [], refuses ORDER 1)
    -- a parts section that is cut is CUT even where its first entry is an orphan
    ∷ (one-system ++ (2 ∷ 0 ∷ []) ++ described (key 2 2 1) 0, refuses CUT 0)
    -- first byte foremost: part address 256 stands before 1
    ∷ (one-system ++ (2 ∷ 0 ∷ []) ++ described (key 1 2 256) 0 ++ described (key 1 2 1) 0, passes 1 2)
    ∷ (one-system ++ (2 ∷ 0 ∷ []) ++ described (key 1 2 1) 0 ++ described (key 1 2 256) 0, refuses ORDER 2)
    -- the description does not count: the same key twice
    ∷ (one-system ++ (2 ∷ 0 ∷ []) ++ described (key 1 2 1) 0 ++ described (key 1 2 1) 9, refuses ORDER 2)
    -- parts are numbered on after the systems
    ∷ (one-system ++ (1 ∷ 0 ∷ []) ++ described (key 2 2 1) 0, refuses ORPHAN 1)
    -- ORPHAN of an entry before ORDER of the next; an entry that is both is ORDER
    ∷ (one-system ++ (2 ∷ 0 ∷ []) ++ described (key 2 2 1) 0 ++ described (key 1 2 0) 0, refuses ORPHAN 1)
    ∷ (one-system ++ (2 ∷ 0 ∷ []) ++ described (key 1 2 1) 0 ++ described (key 0 9 1) 0, refuses ORDER 2)
    -- TAIL last
    ∷ (0 ∷ 0 ∷ 0 ∷ 0 ∷ 0 ∷ [], refuses TAIL 0)
    ∷ (one-of-each ++ (0 ∷ []), refuses TAIL 0)
    ∷ []

pub examples-tables : map (λ (e : List ℕ × Judgement). judgement of_systems of_parts e.0) tables ≡ map (λ (e : List ℕ × Judgement). e.1) tables
unfolding judgement judged in_order count_at low_first bytes_of entry_at first_bytes part rises entry_of each_entry below same first_fit
examples-tables = refl

-- a table, a part's seven bytes, and where its description stands
abbrev stands : ℕ → ℕ → Part
stands from to = record { verdict = good; from = from; to = to }

abbrev pub finds : List (List ℕ × PartKey × Part)
finds =
    (one-of-each, key 1 2 9, stands 15 46)
    ∷ (one-of-each, key 2 1 0, stands 53 84)
    ∷ (one-of-each, key 1 2 2304, no_part (refusal UNLISTED 0))
    ∷ (one-of-each, key 3 0 0, no_part (refusal UNLISTED 0))
    ∷ (0 ∷ 0 ∷ 0 ∷ 0 ∷ [], key 0 0 0, no_part (refusal UNLISTED 0))
    -- the table's own refusal first
    ∷ (one-of-each ++ (0 ∷ []), key 1 2 9, no_part (refusal TAIL 0))
    ∷ (one-system ++ (1 ∷ 0 ∷ []) ++ described (key 2 2 1) 0, key 2 2 1, no_part (refusal ORPHAN 1))
    ∷ []

pub examples-finds : map (λ (e : List ℕ × PartKey × Part). found_place of_systems of_parts e.0 (key_bytes e.1)) finds ≡ map (λ (e : List ℕ × PartKey × Part). e.2) finds
unfolding found_place part_by in_order count_at low_first bytes_of entry_at first_bytes part rises entry_of each_entry below same first_fit
examples-finds = refl
