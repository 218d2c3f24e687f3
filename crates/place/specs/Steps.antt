-- What becomes of one place (document 01, "Open exchanges"; 001, 6.5), and what is told of it.
-- Assumes nothing.
use Rattle.std.specs.Prelude.{ℕ, ◌+◌, Bool, ◌&&◌, ◌||◌, cond, List, [], ◌∷◌, ltb, eqb}
use Rattle.place.specs.declared.Place.{Place}
use Rattle.place.specs.declared.Reply.{Reply}
use Rattle.place.specs.declared.Reply.TheVariants.{Confirm, Answer, Deny, BadAnswer}
use Rattle.place.specs.Rules.{SEND, REQUEST, free, is_open}

-- the outcomes' numbers, our own: none is a refusal of documents 01 and 02, which end at 31
abbrev pub NOTHING : ℕ
NOTHING = 0

abbrev pub CONFIRMED : ℕ
CONFIRMED = 40

abbrev pub ANSWERED : ℕ
ANSWERED = 41

abbrev pub RESENT : ℕ
RESENT = 42

abbrev pub FAILED : ℕ
FAILED = 43

abbrev pub outcomes : List ℕ
outcomes = NOTHING ∷ CONFIRMED ∷ ANSWERED ∷ RESENT ∷ FAILED ∷ []

-- "each exchange begun ends once, confirmed, answered or failed" (document 02, Q-10): the outcomes by which it ends, and those by which it goes on
unfoldable pub is_end : ℕ → Bool
is_end o = eqb o CONFIRMED || eqb o ANSWERED || eqb o FAILED

unfoldable pub goes_on : ℕ → Bool
goes_on o = eqb o NOTHING || eqb o RESENT

-- what a place becomes, and the outcome's number
pub record Step : Type 0 where
  pub place : Place
  pub outcome : ℕ

-- a place with other counts
abbrev pub counted : ℕ → ℕ → Place → Place
counted n a p = record { serial = p.serial; mode = p.mode; resends = n; age = a }

-- "one resend more and age 0", and "A tick adds 1 to each age"
abbrev pub once_more : Place → Place
once_more p = counted (p.resends + 1) 0 p

abbrev pub one_older : Place → Place
one_older p = counted p.resends (p.age + 1) p

abbrev pub becomes : Place → ℕ → Step
becomes p o = record { place = p; outcome = o }

-- "with fewer than R resends it is resent, one resend more and age 0, else it has failed and is freed"
unfoldable pub denied : ℕ → Place → Step
denied r p = cond (ltb p.resends r) (becomes (once_more p) RESENT) (becomes free FAILED)

-- "A tick adds 1 to each age; reaching T acts as deny": the age of an open place
unfoldable pub ticked : ℕ → ℕ → Place → Step
ticked t r p =
    cond (is_open p.mode)
    (cond (ltb (p.age + 1) t) (becomes (one_older p) NOTHING) (denied r p))
    (becomes p NOTHING)

-- "Confirm fits a send .., answer a request .. Deny fits either, a bad answer .. fits a request"
abbrev pub awaits : ℕ → Reply → Bool
awaits m Confirm = eqb m SEND
awaits m Answer = eqb m REQUEST
awaits m Deny = is_open m
awaits m BadAnswer = eqb m REQUEST

-- "of its serial"
unfoldable pub fits : ℕ → Reply → Place → Bool
fits s w p = awaits p.mode w && eqb p.serial s

-- what a reply that fits makes of the place: "the place is freed", or the rule of a denial
unfoldable pub replied : ℕ → Reply → Place → Step
replied r Confirm p = becomes free CONFIRMED
replied r Answer p = becomes free ANSWERED
replied r Deny p = denied r p
replied r BadAnswer p = denied r p
