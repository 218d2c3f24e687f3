-- Document 01, "Refusal numbers", and document 02: each number under its name.
-- Assumes nothing.
use Rattle.std.specs.Prelude.{◌≡◌, ◌≢◌, ℕ, List, [], ◌∷◌, map, codes, Result, MatchResult}
use Prim.Native.String.{String}
use Rattle.verdict.specs.declared.Refusal.{Refusal}
use Rattle.verdict.specs.declared.Refusal.TheVariants.{State, Room, Cut, Start, Length, End, Sum, Version, Command, Time, Unit as OfUnit, «Type» as OfType, Count, Short, Number, Kind, Text, Setting, Full, Stray, Many, Order, Orphan, Tail, Unlisted, Long, Centre}
use Rattle.verdict.specs.declared.UnknownRefusal.{UnknownRefusal}

-- "no. | name"
abbrev pub STATE : ℕ
STATE = 1

abbrev pub ROOM : ℕ
ROOM = 2

abbrev pub CUT : ℕ
CUT = 3

abbrev pub START : ℕ
START = 4

abbrev pub LENGTH : ℕ
LENGTH = 5

abbrev pub END : ℕ
END = 6

abbrev pub SUM : ℕ
SUM = 7

abbrev pub VERSION : ℕ
VERSION = 8

abbrev pub COMMAND : ℕ
COMMAND = 9

abbrev pub TIME : ℕ
TIME = 10

abbrev pub UNIT : ℕ
UNIT = 11

abbrev pub TYPE : ℕ
TYPE = 12

abbrev pub COUNT : ℕ
COUNT = 13

-- document 02, Q-4: "14 SHORT where the unit ends before its last object does", in place of SIZE
abbrev pub SHORT : ℕ
SHORT = 14

abbrev pub NUMBER : ℕ
NUMBER = 15

abbrev pub KIND : ℕ
KIND = 16

abbrev pub TEXT : ℕ
TEXT = 17

abbrev pub SETTING : ℕ
SETTING = 18

abbrev pub FULL : ℕ
FULL = 19

abbrev pub STRAY : ℕ
STRAY = 20

abbrev pub MANY : ℕ
MANY = 21

abbrev pub ORDER : ℕ
ORDER = 22

abbrev pub ORPHAN : ℕ
ORPHAN = 23

abbrev pub TAIL : ℕ
TAIL = 24

abbrev pub UNLISTED : ℕ
UNLISTED = 25

-- Q-4: "28 LONG where bytes follow it"
abbrev pub LONG : ℕ
LONG = 28

-- document 02, Q-11: "30 CENTRE .. for a centre other than the two"
abbrev pub CENTRE : ℕ
CENTRE = 30

-- a row of the table: a number and its name
pub record Row : Type 0 where
  pub number : ℕ
  pub name : String

abbrev pub row : ℕ → String → Row
row n s = record { number = n; name = s }

-- the whole table
abbrev pub refusals : List Row
refusals =
    row STATE "STATE" ∷ row ROOM "ROOM" ∷ row CUT "CUT" ∷ row START "START" ∷ row LENGTH "LENGTH" ∷ row END "END" ∷ row SUM "SUM"
    ∷ row VERSION "VERSION" ∷ row COMMAND "COMMAND" ∷ row TIME "TIME" ∷ row UNIT "UNIT" ∷ row TYPE "TYPE" ∷ row COUNT "COUNT"
    ∷ row SHORT "SHORT" ∷ row NUMBER "NUMBER" ∷ row KIND "KIND" ∷ row TEXT "TEXT" ∷ row SETTING "SETTING" ∷ row FULL "FULL"
    ∷ row STRAY "STRAY" ∷ row MANY "MANY" ∷ row ORDER "ORDER" ∷ row ORPHAN "ORPHAN" ∷ row TAIL "TAIL" ∷ row UNLISTED "UNLISTED"
    ∷ row LONG "LONG" ∷ row CENTRE "CENTRE" ∷ []

abbrev pub numbers : List ℕ
numbers = map (λ (r : Row). r.number) refusals

-- "If an answer is an enum, a definition gives this paper's number": the number of each refusal
abbrev pub number_of : Refusal → ℕ
number_of State = STATE
number_of Room = ROOM
number_of Cut = CUT
number_of Start = START
number_of Length = LENGTH
number_of End = END
number_of Sum = SUM
number_of Version = VERSION
number_of Command = COMMAND
number_of Time = TIME
number_of OfUnit = UNIT
number_of OfType = TYPE
number_of Count = COUNT
number_of Short = SHORT
number_of Number = NUMBER
number_of Kind = KIND
number_of Text = TEXT
number_of Setting = SETTING
number_of Full = FULL
number_of Stray = STRAY
number_of Many = MANY
number_of Order = ORDER
number_of Orphan = ORPHAN
number_of Tail = TAIL
number_of Unlisted = UNLISTED
number_of Long = LONG
number_of Centre = CENTRE

-- and its name
abbrev pub name_of : Refusal → List ℕ
name_of State = codes "STATE"
name_of Room = codes "ROOM"
name_of Cut = codes "CUT"
name_of Start = codes "START"
name_of Length = codes "LENGTH"
name_of End = codes "END"
name_of Sum = codes "SUM"
name_of Version = codes "VERSION"
name_of Command = codes "COMMAND"
name_of Time = codes "TIME"
name_of OfUnit = codes "UNIT"
name_of OfType = codes "TYPE"
name_of Count = codes "COUNT"
name_of Short = codes "SHORT"
name_of Number = codes "NUMBER"
name_of Kind = codes "KIND"
name_of Text = codes "TEXT"
name_of Setting = codes "SETTING"
name_of Full = codes "FULL"
name_of Stray = codes "STRAY"
name_of Many = codes "MANY"
name_of Order = codes "ORDER"
name_of Orphan = codes "ORPHAN"
name_of Tail = codes "TAIL"
name_of Unlisted = codes "UNLISTED"
name_of Long = codes "LONG"
name_of Centre = codes "CENTRE"

-- the refusal that has this number, or an error with a number that no refusal has
abbrev pub Decodes : ℕ → Result Refusal UnknownRefusal → Type 0
Decodes n r = MatchResult r (λ refusal. number_of refusal ≡ n) (λ e. (e.0 ≡ n) × ((refusal : Refusal) → number_of refusal ≢ n))
