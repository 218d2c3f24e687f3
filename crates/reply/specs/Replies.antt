-- The reply to a packet (document 01, "Replies"; 001, 6.2 to 6.4; document 02, Q-2), over any table of types rs.
-- Assumes nothing.
use Rattle.std.specs.Prelude.{ℕ, Bool, true, false, ◌||◌, ◌&&◌, cond, List, [], ◌∷◌, leb, eqb, length}
use Rattle.frame.specs.Frame.{frame_tests}
use Rattle.kinds.specs.declared.Row.{Row}
use Rattle.label.specs.declared.Label.{Label}
use Rattle.label.specs.Times.{judged, allowed}
use Rattle.octets.specs.Parts.{put_at}
use Rattle.packet.specs.declared.Header.{Header}
use Rattle.packet.specs.Frames.{command_of, judged_content}
use Rattle.packet.specs.Headers.{header_of}
use Rattle.output.specs.Packets.{packet_bytes}
use Rattle.verdict.specs.declared.Verdict.{Verdict}
use Rattle.verdict.specs.Orders.{Test, ◌or_else◌, in_order, good, is_good}
use Rattle.verdict.specs.Refusals.{TIME, ROOM}
use Rattle.reply.specs.Dues.{Due, Nothing, Confirm, Deny, Answer}

-- "To a packet judged good: 1 and 2 get confirm; 3, 4, 5, 6 get none."
abbrev pub to_good : ℕ → Due
to_good c = cond (eqb c 1 || eqb c 2) Confirm Nothing

-- "To one refused at VERSION or later: commands 3, 5, 6 get none, all others deny."
abbrev pub to_refused : ℕ → Due
to_refused c = cond (eqb c 3 || eqb c 5 || eqb c 6) Nothing Deny

-- what is due to a packet whose frame is good and of whose content the judge says v
abbrev pub due_as : List ℕ → Verdict → Due
due_as p v = cond (is_good v) (to_good (command_of p)) (to_refused (command_of p))

unfoldable pub due_to : List Row → List ℕ → Due
due_to rs p = due_as p (judged_content rs p)

-- "Commands .. 3 confirm .. 6 deny", 0 where no reply is due
abbrev pub command_for : Due → ℕ
command_for Nothing = 0
command_for Confirm = 3
command_for Deny = 6

abbrev pub is_due : Due → Bool
is_due Nothing = false
is_due Confirm = true
is_due Deny = true

-- "A reply copies serial and user version, swaps the addresses, takes the caller's label"
abbrev pub reply_header : Header → Label → ℕ → Header
reply_header h t c =
    record { serial = h.serial; version = h.version; label = t; source = h.destination; destination = h.source; command = c }

-- ".. and an empty unit"; document 02, Q-2: "Our own replies stay empty."
abbrev pub reply_bytes : List ℕ → Label → Due → List ℕ
reply_bytes p t d = packet_bytes (reply_header (header_of p) t (command_for d)) []

-- "Then TIME of the label, then ROOM; a reply that is not due needs neither."
abbrev pub due_tests : Label → List ℕ → List Test
due_tests t out = (allowed (judged t) or_else TIME) ∷ (leb 30 (length out) or_else ROOM) ∷ []

abbrev pub reply_tests : Due → Label → List ℕ → List Test
reply_tests d t out = cond (is_due d) (due_tests t out) []

-- "Earlier refusals give no reply .. and come back as that refusal."
unfoldable pub reply_verdict : List Row → List ℕ → Label → List ℕ → Verdict
reply_verdict rs p t out = in_order (frame_tests 1024 p) (in_order (reply_tests (due_to rs p) t out) good)

-- what is answered where the verdict is v and d is due
abbrev pub answer_as : Verdict → Due → Answer
answer_as v d = record { verdict = v; due = cond (is_good v) d Nothing }

unfoldable pub answered : List Row → List ℕ → Label → List ℕ → Answer
answered rs p t out = answer_as (reply_verdict rs p t out) (due_to rs p)

-- the reply at the front of the output, where one is due and not refused
abbrev pub written_reply_as : List ℕ → Label → List ℕ → Verdict → Due → List ℕ
written_reply_as p t out v d = cond (is_good v && is_due d) (put_at out 0 (reply_bytes p t d)) out

unfoldable pub written_reply : List Row → List ℕ → Label → List ℕ → List ℕ
written_reply rs p t out = written_reply_as p t out (reply_verdict rs p t out) (due_to rs p)
