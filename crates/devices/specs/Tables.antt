-- The judge of a device table and the finding of a part (document 01, "Device table"), over any two sections a of systems and b of parts.
-- Assumes nothing.
use Rattle.std.specs.Prelude.{ℕ, ◌+◌, Bool, cond, ◌&&◌, List, [], ◌∷◌, ◌++◌, leb, ltb, length, Result, Ok, Err}
use Rattle.octets.specs.Numbers.{bytes_of}
use Rattle.verdict.specs.declared.Verdict.{Verdict}
use Rattle.verdict.specs.declared.Part.{Part}
use Rattle.verdict.specs.declared.Refused.{Refused}
use Rattle.verdict.specs.Orders.{Test, ◌or_else◌, in_order, refusal, good, is_good, part_by}
use Rattle.verdict.specs.Refusals.{ORDER, ORPHAN, TAIL, UNLISTED, number_of}
use Rattle.devices.specs.declared.Section.{Section}
use Rattle.devices.specs.declared.Counts.{Counts}
use Rattle.devices.specs.declared.Judgement.{Judgement}
use Rattle.devices.specs.declared.PartKey.{PartKey}
use Rattle.devices.specs.Sections.{count_at, entry_at, end_of, first_bytes, rises, entry_of, is_listed, count_test, section_tests, at_place, each_entry, limited}

-- "systems (at most 64; type, address), then parts (at most 1,024; the 38 bytes of a type 7 body)"; document 02, Q-7: "Raise the limit to 1,600 parts"
abbrev pub of_systems : Section
of_systems = record { limit = 64; entry = 2; key = 2 }

abbrev pub of_parts : Section
of_parts = record { limit = 1600; entry = 38; key = 7 }

-- "a table of 1,024 parts or fewer has the same bytes as before and the earlier program reads it": the parts as it takes them, under document 01's limit
abbrev pub earlier_parts : Section
earlier_parts = limited of_parts 1024

-- "systems .., then parts": the parts begin where the systems end
abbrev pub parts_from : Section → List ℕ → ℕ
parts_from a t = end_of a t 0

-- "entries one by one with ORDER": "the place is the entry's number from 0"
abbrev pub system_tests : Section → List ℕ → ℕ → List Test
system_tests a t k = at_place (rises a t 0 k) ORDER k ∷ []

-- a part's system: its first bytes, as many as a system's key has
abbrev pub system_of : Section → Section → List ℕ → ℕ → ℕ → List ℕ
system_of a b t from k = first_bytes b t from k a.key

-- "for parts ORDER then ORPHAN", "parts numbered on after the systems"
abbrev pub part_tests : Section → Section → List ℕ → ℕ → ℕ → List Test
part_tests a b t from k =
    at_place (rises b t from k) ORDER (count_at t 0 + k)
    ∷ at_place (is_listed a t 0 (system_of a b t from k)) ORPHAN (count_at t 0 + k)
    ∷ []

-- "TAIL last": "bytes after the table"
abbrev pub tail_test : Section → Section → List ℕ → Test
tail_test a b t = leb (length t) (end_of b t (parts_from a t)) or_else TAIL

-- "then entries one by one", of the systems and of the parts
abbrev pub systems_tests : Section → List ℕ → List Test
systems_tests a t = each_entry (system_tests a t) 0 (count_at t 0)

abbrev pub parts_tests : Section → Section → List ℕ → List Test
parts_tests a b t = each_entry (part_tests a b t (parts_from a t)) 0 (count_at t (parts_from a t))

-- "Order: per section CUT of the count, MANY, CUT, then entries one by one ..; TAIL last"
abbrev pub table_tests : Section → Section → List ℕ → List Test
table_tests a b t =
    section_tests a t 0
    ++ (systems_tests a t ++ (section_tests b t (parts_from a t) ++ (parts_tests a b t ++ (tail_test a b t ∷ []))))

-- what stands before MANY of the parts: the systems, and "CUT of the count"
abbrev pub counted_tests : Section → List ℕ → List Test
counted_tests a t = section_tests a t 0 ++ (systems_tests a t ++ (count_test t (parts_from a t) ∷ []))

-- "A larger one is refused by the earlier program as MANY": whether a table comes to the number of its parts, and it is over a limit
unfoldable pub is_larger : Section → ℕ → List ℕ → Bool
is_larger a m t = is_good (in_order (counted_tests a t) good) && ltb m (count_at t (parts_from a t))

-- a table's verdict
unfoldable pub judged : Section → Section → List ℕ → Verdict
judged a b t = in_order (table_tests a b t) good

-- the verdict, with the numbers of systems and of parts, "zero .. for all else" on a refusal
abbrev pub refused_by : Verdict → Judgement
refused_by v = record { verdict = v; systems = 0; parts = 0 }

-- an answer as this paper's judgement
abbrev pub counted : Result Counts Refused → Judgement
counted (Ok c) = record { verdict = good; systems = c.systems; parts = c.parts }
counted (Err e) = refused_by (refusal (number_of e.refusal) e.place)

unfoldable pub judgement : Section → Section → List ℕ → Judgement
judgement a b t =
    cond (is_good (judged a b t))
    (record { verdict = judged a b t; systems = count_at t 0; parts = count_at t (parts_from a t) })
    (refused_by (judged a b t))

-- "UNLISTED exactly when no entry has the seven bytes"
abbrev pub listed_test : Section → Section → List ℕ → List ℕ → Test
listed_test a b t x = is_listed b t (parts_from a t) x or_else UNLISTED

-- where the part with key x begins
abbrev pub part_at : Section → Section → List ℕ → List ℕ → ℕ
part_at a b t x = entry_at b (parts_from a t) (entry_of b t (parts_from a t) x)

-- "Finding a part judges the table first, then hands back the description as a part of it": what follows the key
unfoldable pub found_place : Section → Section → List ℕ → List ℕ → Part
found_place a b t x =
    part_by (in_order (table_tests a b t ++ (listed_test a b t x ∷ [])) good) (part_at a b t x + b.key) (part_at a b t x + b.entry)

-- the seven bytes of a part's key, in the order of a type 7 body: "system type, address, part type, part address 4"
abbrev pub key_bytes : PartKey → List ℕ
key_bytes k = k.system ∷ k.address ∷ k.part ∷ bytes_of 4 k.part_address
