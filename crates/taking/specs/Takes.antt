-- What a received packet is to the exchange table (document 01, "Packet", "Open exchanges"), over any table of types rs.
-- Assumes nothing.
use Rattle.std.specs.Prelude.{ℕ, Bool, true, false, cond, List, eqb}
use Rattle.exchange.specs.declared.Exchanges.{Exchanges}
use Rattle.exchange.specs.declared.Replied.{Replied}
use Rattle.exchange.specs.Table.{untold, answered}
use Rattle.frame.specs.Frame.{frame_tests}
use Rattle.kinds.specs.declared.Row.{Row}
use Rattle.packet.specs.Frames.{command_of, judged_content, judged_packet}
use Rattle.packet.specs.Headers.{header_of}
use Rattle.place.specs.declared.Reply.TheVariants.{Confirm, Answer, Deny, BadAnswer}
use Rattle.verdict.specs.declared.Verdict.{Verdict}
use Rattle.verdict.specs.Orders.{in_order, good, is_good}
use Rattle.taking.specs.Roles.{Role, Other, Is, Heard}

-- "3 confirm, .. 5 answer, 6 deny", of a packet judged good; "a bad answer (command 5, refused at VERSION or later)"
unfoldable pub role_in : Bool → ℕ → Role
role_in true c = cond (eqb c 3) (Is Confirm) (cond (eqb c 5) (Is Answer) (cond (eqb c 6) (Is Deny) Other))
role_in false c = cond (eqb c 5) (Is BadAnswer) Other

-- "refused at VERSION or later" is by the order: the frame is good and the content is not
unfoldable pub role_of : List Row → List ℕ → Role
role_of rs p = cond (is_good (in_order (frame_tests 1024 p) good)) (role_in (is_good (judged_content rs p)) (command_of p)) Other

-- a packet heard: what the judge says of it, and what it is
abbrev pub heard_as : List Row → List ℕ → Heard
heard_as rs p = record { verdict = judged_packet rs p; role = role_of rs p }

-- a reply is the table's own call under a source address and a serial; any other packet comes back as what the judge says of it
unfoldable pub taken_as : Role → Exchanges → List ℕ → ℕ → Verdict → Replied
taken_as (Is w) x a s v = answered x a s w
taken_as Other x a s v = untold x v

-- "A reply is given as its serial and one of confirm, answer, deny, bad answer", and with its source address (document 02, Q-11): both as they stand in
-- the bytes, of a refused answer too
unfoldable pub taken : List Row → Exchanges → List ℕ → Replied
taken rs x p = taken_as (role_of rs p) x (header_of p).source (header_of p).serial (judged_packet rs p)
