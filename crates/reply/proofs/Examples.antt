-- The readings of replies that are easy to get wrong, by computation. Assumes nothing.
use Prim.Native.Nat.{ℕ}
use mathlib.Core.Path.{◌≡◌, refl}
use mathlib.Core.List.{List, [], ◌∷◌, map}
use lib.ListN.{set, replicate}
use Rattle.frame.specs.Frame.{unit_length, ended, summed}
use Rattle.kinds.specs.Table.{table, rows_of, rows, find_row}
use Rattle.label.specs.declared.Label.{Label}
use Rattle.label.specs.Times.{judged, in_ranges}
use Rattle.octets.specs.Numbers.{low_first}
use Rattle.octets.specs.Parts.{part}
use Rattle.octets.specs.Searches.{first_fit}
use Rattle.octets.specs.Sums.{total}
use Rattle.packet.specs.Frames.{judged_content}
use Rattle.octets.proofs.Examples.{A}
use Rattle.packet.proofs.Examples.{B}
use Rattle.unit.specs.Objects.{text_size, end_of, walk, timely}
use Rattle.unit.specs.Units.{judged_unit, judged_under}
use Rattle.verdict.specs.declared.Verdict.{Verdict}
use Rattle.verdict.specs.Orders.{in_order, refusal, good}
use Rattle.verdict.specs.Refusals.{CUT, SUM, TIME, ROOM}
use Rattle.reply.specs.Dues.{Due, Nothing, Confirm, Deny, Answer}
use Rattle.reply.specs.Replies.{due_to, reply_verdict, answered}

abbrev june : Label
june = record { second = 0; minute = 30; hour = 8; day = 15; month = 6; year = 24 }

abbrev never : Label
never = record { second = 0; minute = 30; hour = 8; day = 0; month = 6; year = 24 }

-- A under another command, or with another main version, its sum mended
abbrev command : ℕ → ℕ → List ℕ
command c sum = set (set A 26 c) 27 sum

abbrev version2 : ℕ → ℕ → List ℕ
version2 c sum = set (set (set A 4 2) 26 c) 27 sum

abbrev gets : Verdict → Due → Answer
gets v d = record { verdict = v; due = d }

-- a packet, the caller's label, the output's room, and the answer
abbrev pub replies : List (List ℕ × Label × ℕ × Answer)
replies =
    (B, june, 30, gets good Confirm)
    ∷ (A, june, 30, gets good Nothing)
    -- commands 0 and 7 get deny, 3, 5 and 6 none, 4 deny where it is refused
    ∷ (command 0 0x5A, june, 30, gets good Deny)
    ∷ (command 7 0x61, june, 30, gets good Deny)
    ∷ (version2 3 0x5E, june, 30, gets good Nothing)
    ∷ (version2 5 0x60, june, 30, gets good Nothing)
    ∷ (version2 6 0x61, june, 30, gets good Nothing)
    ∷ (version2 4 0x5F, june, 30, gets good Deny)
    -- due with a bad label and no room: TIME; not due: neither
    ∷ (B, never, 0, gets (refusal TIME 0) Nothing)
    ∷ (B, june, 29, gets (refusal ROOM 0) Nothing)
    ∷ (A, never, 0, gets good Nothing)
    -- earlier refusals come back
    ∷ (replicate 29 0, never, 0, gets (refusal CUT 0) Nothing)
    ∷ (set A 27 0x5E, june, 30, gets (refusal SUM 0) Nothing)
    ∷ []

pub examples : map (λ (e : List ℕ × Label × ℕ × Answer). answered rows e.0 e.1 (replicate e.2 0)) replies ≡ map (λ (e : List ℕ × Label × ℕ × Answer). e.3) replies
unfolding answered reply_verdict due_to judged_content unit_length ended summed judged_under judged_unit in_order rows_of table find_row text_size end_of walk timely judged in_ranges first_fit low_first part total
examples = refl
