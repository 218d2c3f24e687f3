-- The time label (document 01, "Packet"; 001, 8.2.2; document 02, Q-1).
-- Assumes nothing.
use Rattle.std.specs.Prelude.{ℕ, Bool, true, false, ◌&&◌, cond, List, [], ◌∷◌, eqb, leb, get_or, replicate}
use Rattle.verdict.specs.Refusals.{TIME}
use Rattle.label.specs.declared.Label.{Label}
use Rattle.label.specs.declared.Judgement.{Judgement}
use Rattle.label.specs.declared.Judgement.TheVariants.{Time, NoTime, Bad}
use Rattle.label.specs.declared.Shown.{Shown}
use Rattle.label.specs.declared.Shown.TheVariants.{Nothing, Time as ShownTime, NoTime as ShownNoTime, NoLabel}

-- second, minute, hour, day, month, year, in this order (001, 8.2.2)
abbrev pub label_bytes : Label → List ℕ
label_bytes l = l.second ∷ l.minute ∷ l.hour ∷ l.day ∷ l.month ∷ l.year ∷ []

-- the label that the first six bytes stand for
abbrev pub label_of : List ℕ → Label
label_of s =
    record { second = get_or s 0 0; minute = get_or s 1 0; hour = get_or s 2 0; day = get_or s 3 0; month = get_or s 4 0; year = get_or s 5 0 }

-- "second 0-59, minute 0-59, hour 0-23, day 1-31, month 1-12, year 0-99"
abbrev pub ranges : List (ℕ × ℕ)
ranges = (0, 59) ∷ (0, 59) ∷ (0, 23) ∷ (1, 31) ∷ (1, 12) ∷ (0, 99) ∷ []

-- "each byte is judged alone": every byte lies in its own range
unfoldable pub in_ranges : List (ℕ × ℕ) → List ℕ → Bool
in_ranges [] bytes = true
in_ranges (r ∷ rs) [] = false
in_ranges (r ∷ rs) (b ∷ bytes) = leb r.0 b && leb b r.1 && in_ranges rs bytes

-- "Six zeros are to mean "no time"": every byte lies in the range of 0 alone
abbrev pub zeros : List (ℕ × ℕ)
zeros = replicate 6 (0, 0)

abbrev pub is_no_time : Label → Bool
is_no_time l = in_ranges zeros (label_bytes l)

-- "a label out of range", of which six zeros are an answer of their own: "a time, no time, bad"
unfoldable pub judged : Label → Judgement
judged l = cond (in_ranges ranges (label_bytes l)) Time (cond (is_no_time l) NoTime Bad)

-- "If an answer is an enum, a definition gives this paper's number": a time is good, and no time too, "a label out of range" is TIME
abbrev pub number_of : Judgement → ℕ
number_of Time = 0
number_of NoTime = 0
number_of Bad = TIME

-- which judgements are no refusal
abbrev pub allowed : Judgement → Bool
allowed j = eqb (number_of j) 0

-- which of the two a label is that may stand: a time has a day
unfoldable pub time_of : Label → Judgement
time_of l = cond (eqb l.day 0) NoTime Time

-- "the typed reading shows it": a time, no time, that a type has no label, and on a refusal nothing; the number of each
abbrev pub number_shown : Shown → ℕ
number_shown Nothing = 0
number_shown ShownTime = 1
number_shown ShownNoTime = 2
number_shown NoLabel = 3

-- the number by the judgement; a bad label is not read
abbrev pub shown_as : Judgement → ℕ
shown_as Time = number_shown ShownTime
shown_as NoTime = number_shown ShownNoTime
shown_as Bad = number_shown Nothing

abbrev pub SHOWN_NOTHING : ℕ
SHOWN_NOTHING = number_shown Nothing

abbrev pub SHOWN_NO_LABEL : ℕ
SHOWN_NO_LABEL = number_shown NoLabel

-- document 01's rule, which stood up to release 1.3: six zeros are out of range
abbrev pub judged_in13 : Label → Judgement
judged_in13 l = cond (in_ranges ranges (label_bytes l)) Time Bad
