-- How release 1.5 differs from 1.4 (document 02, Q-2: "The standard says that this unit may be empty, and we made that 'is'"). Assumes nothing.
use Rattle.std.specs.Prelude.{ℕ, Bool, ◌&&◌, cond, List, leb}
use Rattle.frame.specs.Frame.{unit_length}
use Rattle.kinds.specs.declared.Row.{Row}
use Rattle.packet.specs.Frames.{command_of}
use Rattle.unit.specs.Units.{is_kept}
use Rattle.verdict.specs.declared.Verdict.{Verdict}
use Rattle.verdict.specs.Orders.{refusal, is_good}
use Rattle.verdict.specs.Refusals.{UNIT}
use Rattle.demands.specs.Rules.{in15, packet_by}

-- "3 or 6: L above 0"
abbrev pub carries_some : ℕ → ℕ → Bool
carries_some c l = is_kept c && leb 1 l

-- a confirm or a deny that carries something, and of which release 1.5 says v, is good: release 1.4 did not take it
abbrev pub newly_good : ℕ → ℕ → Verdict → Bool
newly_good c l v = carries_some c l && is_good v

-- what release 1.4 says of command c with l bytes where 1.5 says v: UNIT of these, of all others the same
abbrev pub said_in14 : ℕ → ℕ → Verdict → Verdict
said_in14 c l v = cond (newly_good c l v) (refusal UNIT 0) v

-- a packet that release 1.4 did not take and 1.5 does
abbrev pub is_new : List Row → List ℕ → Bool
is_new rs p = newly_good (command_of p) (unit_length p) (packet_by in15 rs p)
