-- What is told of an exchange: the number and the name of each outcome.
-- Assumes nothing.
use Rattle.std.specs.Prelude.{◌≡◌, ◌≢◌, ℕ, List, codes, Result, MatchResult}
use Rattle.place.specs.declared.Outcome.{Outcome}
use Rattle.place.specs.declared.Outcome.TheVariants.{Nothing, Confirmed, Answered, Resent, Failed}
use Rattle.place.specs.declared.UnknownOutcome.{UnknownOutcome}
use Rattle.place.specs.declared.Step.{Step as OfEnum}
use Rattle.place.specs.Steps.{NOTHING, CONFIRMED, ANSWERED, RESENT, FAILED, Step}

-- "If an answer is an enum, a definition gives this paper's number": the number of each outcome
abbrev pub number_of : Outcome → ℕ
number_of Nothing = NOTHING
number_of Confirmed = CONFIRMED
number_of Answered = ANSWERED
number_of Resent = RESENT
number_of Failed = FAILED

-- and its name; "the judge's OK" is said of one of which nothing is told
abbrev pub name_of : Outcome → List ℕ
name_of Nothing = codes "OK"
name_of Confirmed = codes "CONFIRMED"
name_of Answered = codes "ANSWERED"
name_of Resent = codes "RESENT"
name_of Failed = codes "FAILED"

-- the outcome that has this number, or an error with a number that no outcome has
abbrev pub Decodes : ℕ → Result Outcome UnknownOutcome → Type 0
Decodes n r = MatchResult r (λ outcome. number_of outcome ≡ n) (λ e. (e.0 ≡ n) × ((outcome : Outcome) → number_of outcome ≢ n))

-- a step under its outcome's number
abbrev pub in_numbers : OfEnum → Step
in_numbers s = record { place = s.place; outcome = number_of s.outcome }
