-- What a call is to one place of the table (document 01, "Open exchanges"; 001, 6.5).
-- Assumes nothing.
use Rattle.std.specs.Prelude.{ℕ, ◌+◌, Bool, true, false, ◌&&◌, cond, List, eqb}
use Rattle.place.specs.declared.Reply.{Reply}
use Rattle.place.specs.declared.Reply.TheVariants.{Confirm, Answer, Deny, BadAnswer}
use Rattle.place.specs.Steps.{Step}
use Rattle.place.specs.Rules.{is_open}
use Rattle.place.specs.Steps.{NOTHING, becomes, ticked, fits, replied}
use Rattle.places.specs.Rows.{place_at, owner_of}
use Rattle.exchange.specs.declared.Exchanges.{Exchanges}
use Rattle.exchange.specs.Calls.{Call, begin, reply, tick}
use Rattle.exchange.specs.Table.{centre_of}

-- "a reply fits only when its source address is that centre's": whether it fits the place at a number
abbrev pub fits_from : Exchanges → List ℕ → ℕ → Reply → ℕ → Bool
fits_from x a s w k = eqb (centre_of x a) (owner_of k) && fits s w (place_at x.places k)

-- the rule for one place that a call does not open: a reply changes the place that it fits, a tick every place
unfoldable pub step_by : Exchanges → ℕ → Call → Step
step_by x k (begin a) = becomes (place_at x.places k) NOTHING
step_by x k (reply a s w) = let p = place_at x.places k in cond (fits_from x a s w k) (replied x.resends w p) (becomes p NOTHING)
step_by x k tick = ticked x.timeout x.resends (place_at x.places k)

abbrev pub is_denial : Reply → Bool
is_denial Confirm = false
is_denial Answer = false
is_denial Deny = true
is_denial BadAnswer = true

-- whether a call denies a place: "Deny fits either, a bad answer .. fits a request", "reaching T acts as deny"
unfoldable pub denies : Exchanges → ℕ → Call → Bool
denies x k (begin a) = false
denies x k (reply a s w) = is_denial w && fits_from x a s w k
denies x k tick = let p = place_at x.places k in is_open p.mode && eqb (p.age + 1) x.timeout
