-- The lines of the program `tables`: a file's name, then what the judge of device tables says of it, in words. Over any sections a of systems
-- and b of parts (document 01, "Device table"), and e of parts as an earlier program takes them (document 02, Q-7). Assumes nothing.
use Rattle.std.specs.Prelude.{ℕ, ◌+◌, ◌-◌, ◌/◌, Bool, cond, ◌||◌, List, [], ◌∷◌, ◌++◌, leb, ltb, eqb, length, get_or, take}
use Rattle.devices.specs.declared.Section.{Section}
use Rattle.devices.specs.Sections.{count_at, end_of, section_tests}
use Rattle.devices.specs.Tables.{parts_from, judged}
use Rattle.naming.specs.Names.{ascii, letters}
use Rattle.verdict.specs.declared.Verdict.{Verdict}
use Rattle.verdict.specs.Orders.{in_order, good, is_good}
use Rattle.verdict.specs.Refusals.{MANY, ORDER, ORPHAN, TAIL}
use Rattle.lines.specs.declared.Why.{Why}
use Rattle.lines.specs.declared.Why.TheVariants.{Absent, Folder, Barred, Broken, Longer}
use Rattle.lines.specs.Decimal.{decimal}

-- a text, and a number behind it
unfoldable pub led : List ℕ → ℕ → List ℕ
led text n = text ++ decimal n

-- so many of a thing, behind a text: 1 system, 4 systems
unfoldable pub counted : List ℕ → ℕ → List ℕ → List ℕ
counted text n noun = led text n ++ ascii " " ++ noun ++ cond (eqb n 1) [] (ascii "s")

-- of a good table: 4 systems, 20 parts, 772 bytes
unfoldable pub good_said : ℕ → ℕ → ℕ → List ℕ
good_said systems parts bytes =
    counted (ascii " ") systems (ascii "system") ++ counted (ascii ", ") parts (ascii "part") ++ counted (ascii ", ") bytes (ascii "byte")

-- how much of what is due is there: 1 of 2
unfoldable pub of_said : ℕ → ℕ → List ℕ
of_said there due = decimal there ++ led (ascii " of ") due

-- "CUT of the count": 1 of 2 bytes of the number of systems
unfoldable pub count_cut_said : List ℕ → ℕ → List ℕ
count_cut_said noun left = of_said left 2 ++ ascii " bytes of the number of " ++ noun ++ ascii "s"

-- "MANY": 65 systems, at most 64
unfoldable pub many_said : List ℕ → ℕ → ℕ → List ℕ
many_said noun n limit = counted [] n noun ++ led (ascii ", at most ") limit

-- "CUT": 3 of 4 systems are whole
unfoldable pub cut_said : List ℕ → ℕ → ℕ → List ℕ
cut_said noun whole n = of_said whole n ++ ascii " " ++ noun ++ ascii "s are whole"

-- "per section CUT of the count, MANY, CUT": of a section that begins at a place, what its first test that fails is about
unfoldable pub section_said : List ℕ → Section → List ℕ → ℕ → List ℕ
section_said noun z t from =
    cond (leb (from + 2) (length t))
    (cond (leb (count_at t from) z.limit)
    (cut_said noun ((length t - (from + 2)) / z.entry) (count_at t from))
    (many_said noun (count_at t from) z.limit))
    (count_cut_said noun (length t - from))

-- the section of which a test fails: the systems' are first
unfoldable pub sections_said : Section → Section → List ℕ → List ℕ
sections_said a b t =
    cond (is_good (in_order (section_tests a t 0) good)) (section_said (ascii "part") b t (parts_from a t)) (section_said (ascii "system") a t 0)

-- "For ORDER and ORPHAN the place is the entry's number from 0"
unfoldable pub of_entry : ℕ → Bool
of_entry number = eqb number ORDER || eqb number ORPHAN

unfoldable pub place_said : Verdict → List ℕ
place_said v = cond (of_entry v.number) (led (ascii " ") v.place) []

-- "parts numbered on after the systems": an entry by its own number
unfoldable pub own_number : ℕ → ℕ → List ℕ
own_number systems place = cond (ltb place systems) (led (ascii "system ") place) (led (ascii "part ") (place - systems))

-- "table entry not above the one before", "a part's system is not listed"
unfoldable pub why_said : ℕ → List ℕ
why_said number = cond (eqb number ORDER) (ascii " is not above the one before") (ascii " is of a system that is not listed")

-- "bytes after the table": how many, and whether the last of them is a newline
unfoldable pub newline_said : ℕ → ℕ → List ℕ
newline_said rest last = cond (eqb last 10) (cond (eqb rest 1) (ascii ", a newline") (ascii ", a newline at the end")) []

unfoldable pub tail_said : ℕ → ℕ → List ℕ
tail_said rest last = counted [] rest (ascii "byte") ++ ascii " after the table" ++ newline_said rest last

-- what is refused, and where
unfoldable pub what_said : Section → Section → List ℕ → Verdict → List ℕ
what_said a b t v =
    cond (of_entry v.number) (own_number (count_at t 0) v.place ++ why_said v.number)
    (cond (eqb v.number TAIL) (tail_said (length t - end_of b t (parts_from a t)) (get_or t (length t - 1) 0))
    (sections_said a b t))

unfoldable pub refused_said : Section → Section → List ℕ → Verdict → List ℕ
refused_said a b t v = place_said v ++ ascii ": " ++ what_said a b t v

-- what is said of a table: the verdict's name, and what the table holds or what is wrong with it
unfoldable pub table_said : Section → Section → List ℕ → List ℕ
table_said a b t =
    letters (judged a b t).number
    ++ cond (is_good (judged a b t)) (good_said (count_at t 0) (count_at t (parts_from a t)) (length t)) (refused_said a b t (judged a b t))

-- so of more parts than a program takes: MANY: 1600 parts, at most 1024
abbrev pub parts_many : Section → List ℕ → ℕ → List ℕ
parts_many a t limit = letters MANY ++ (ascii ": " ++ many_said (ascii "part") (count_at t (parts_from a t)) limit)

-- "A larger one is refused by the earlier program as MANY": by what an earlier program says, that it refuses a table, and what is to be done
unfoldable pub earlier_said : Verdict → List ℕ
earlier_said v =
    cond (is_good v) [] (ascii "; releases before 1.8 refuse it as " ++ letters v.number ++ ascii ": replace it before going back to one")

-- so behind a table that is good
unfoldable pub all_said : Section → Section → Section → List ℕ → List ℕ
all_said a b e t = table_said a b t ++ cond (is_good (judged a b t)) (earlier_said (judged a e t)) []

-- a line of the program: a file's name, which has at most 4,095 bytes, and what is said of it
unfoldable pub file_name : List ℕ → List ℕ
file_name name = take 4095 name ++ ascii ": "

unfoldable pub file_line : List ℕ → List ℕ → List ℕ
file_line name said = file_name name ++ said ++ (10 ∷ [])

unfoldable pub table_line : Section → Section → Section → List ℕ → List ℕ → List ℕ
table_line a b e name t = file_line name (all_said a b e t)

-- a file that could not be judged, and why
unfoldable pub unjudged_said : Why → List ℕ
unjudged_said Absent = ascii "no such file"
unjudged_said Folder = ascii "is a directory"
unjudged_said Barred = ascii "may not be read"
unjudged_said Broken = ascii "cannot be read"
unjudged_said Longer = ascii "longer than 65536 bytes"

unfoldable pub unjudged_line : List ℕ → Why → List ℕ
unjudged_line name why = file_line name (unjudged_said why)
