-- A place's mode, "mode (free, send, request)" (document 01, "Open exchanges"): the number of each.
-- Assumes nothing.
use Rattle.std.specs.Prelude.{◌≡◌, ◌≢◌, ℕ, Result, MatchResult}
use Rattle.place.specs.declared.Mode.{Mode}
use Rattle.place.specs.declared.Mode.TheVariants.{Free, Send, Request}
use Rattle.place.specs.declared.UnknownMode.{UnknownMode}
use Rattle.place.specs.Rules.{FREE, SEND, REQUEST}

abbrev pub number_of : Mode → ℕ
number_of Free = FREE
number_of Send = SEND
number_of Request = REQUEST

-- the mode that has this number, or an error with a number that no mode has
abbrev pub Decodes : ℕ → Result Mode UnknownMode → Type 0
Decodes n r = MatchResult r (λ mode. number_of mode ≡ n) (λ e. (e.0 ≡ n) × ((mode : Mode) → number_of mode ≢ n))
