-- Cases of document 02's Q-4, too little or too much, as rows of the one table of checked examples (Checked). Assumes nothing.
use Prim.Native.Nat.{ℕ}
use mathlib.Core.List.{List, [], ◌∷◌, ◌++◌, map}
use mathlib.Core.Path.{◌≡◌, refl}
use lib.ListN.{replicate}
use Rattle.std.specs.Prelude.{None}
use Rattle.frame.specs.Frame.{unit_length, ended, summed}
use Rattle.kinds.specs.Table.{table, rows_of, rows, find_row}
use Rattle.label.specs.Times.{judged, in_ranges}
use Rattle.octets.specs.Numbers.{low_first, bytes_of}
use Rattle.octets.specs.Parts.{part, put_at}
use Rattle.octets.specs.Searches.{first_fit}
use Rattle.octets.specs.Sums.{total}
use Rattle.output.specs.Packets.{head_bytes, packet_bytes}
use Rattle.packet.specs.Frames.{judged_content, judged_packet}
use Rattle.reply.specs.Replies.{due_to, reply_verdict, answered, written_reply}
use Rattle.place.specs.declared.Reply.TheVariants.{Confirm, Answer, Deny, BadAnswer}
use Rattle.taking.specs.Roles.{Role}
use Rattle.taking.specs.Roles.Role.{Other, Is}
use Rattle.taking.specs.Takes.{role_in, role_of}
use Rattle.unit.specs.Objects.{text_size, end_of, walk, timely}
use Rattle.unit.specs.Units.{one_size, judged_unit, judged_under}
use Rattle.verdict.specs.Orders.{in_order, refusal, good}
use Rattle.verdict.specs.Refusals.{COUNT, SHORT, LONG, TIME}
use Rattle.demands.specs.Rules.{in15, timely_by, unit_by}
use Rattle.demands.proofs.CheckedConfirms.{of, carrying, packet, reply, none}

-- a type, n, and so many bytes of objects
abbrev sized : ℕ → ℕ → ℕ → List ℕ
sized t n bytes = t ∷ n ∷ replicate bytes 1

abbrev alone : List ℕ → List ℕ
alone u = of (judged_unit rows None u)

-- a system state whose label has a day of 0
abbrev bad-state : List ℕ
bad-state = 1 ∷ 2 ∷ 0 ∷ 0 ∷ 0 ∷ 30 ∷ 8 ∷ 0 ∷ 6 ∷ 24 ∷ []

-- whether a packet is a bad answer to the exchange table
abbrev of_role : Role → List ℕ
of_role (Is BadAnswer) = 1 ∷ []
of_role (Is Confirm) = []
of_role (Is Answer) = []
of_role (Is Deny) = []
of_role Other = []

abbrev heard : List ℕ → List ℕ
heard p = of_role (role_of rows p)

abbrev as_bad : List ℕ
as_bad = 1 ∷ []

abbrev pub checked-sizes : List (List ℕ × List ℕ)
checked-sizes =
    -- Type 1, n 3: 15 bytes of objects SHORT 1, 20 bytes SHORT 2, 31 bytes LONG 0
    (alone (sized 1 3 15), of (refusal SHORT 1))
    ∷ (alone (sized 1 3 20), of (refusal SHORT 2))
    ∷ (alone (sized 1 3 30), of good)
    ∷ (alone (sized 1 3 31), of (refusal LONG 0))
    -- `1A 01`, `1A 01 05 00`, `1C 01`: SHORT 0. `1A 01 00 00`: LONG 0
    ∷ (alone (0x1A ∷ 0x01 ∷ []), of (refusal SHORT 0))
    ∷ (alone (0x1A ∷ 0x01 ∷ 0x05 ∷ 0x00 ∷ []), of (refusal SHORT 0))
    ∷ (alone (0x1C ∷ 0x01 ∷ []), of (refusal SHORT 0))
    ∷ (alone (0x1A ∷ 0x01 ∷ 0x00 ∷ 0x00 ∷ []), of (refusal LONG 0))
    -- Type 2, n 2, 91 bytes of objects: SHORT 1. `3E 02` and 7 bytes: SHORT 1
    ∷ (alone (sized 2 2 91), of (refusal SHORT 1))
    ∷ (alone (sized 0x3E 2 7), of (refusal SHORT 1))
    -- a bad label in object 0 with object 1 absent is SHORT 1, since both stand before TIME
    ∷ (alone (1 ∷ 2 ∷ bad-state), of (refusal SHORT 1))
    ∷ (alone (1 ∷ 2 ∷ bad-state ++ bad-state), of (refusal TIME 1))
    ∷ (alone (1 ∷ 1 ∷ bad-state ++ (0 ∷ [])), of (refusal LONG 0))
    -- `18 7F` is SHORT 0, behind COUNT
    ∷ (alone (0x18 ∷ 0x7F ∷ []), of (refusal SHORT 0))
    ∷ (alone (0x18 ∷ 0x80 ∷ []), of (refusal COUNT 0))
    -- 1.5 said SIZE, 14 at place 0, of one that is cut and of one with a byte more
    ∷ (of (unit_by in15 rows None (sized 1 3 20)), of one_size)
    ∷ (of (unit_by in15 rows None (sized 1 3 31)), of one_size)
    ∷ (of (unit_by in15 rows None (sized 1 3 30)), of good)
    -- in a packet, and denied: LONG is "VERSION or later" by the order
    ∷ (packet (carrying 1 2 (sized 1 3 15)), of (refusal SHORT 1))
    ∷ (packet (carrying 1 2 (sized 1 3 31)), of (refusal LONG 0))
    ∷ (reply (carrying 1 2 (sized 1 3 15)), of good ++ (6 ∷ 0 ∷ 0 ∷ 6 ∷ []))
    ∷ (reply (carrying 1 2 (sized 1 3 31)), of good ++ (6 ∷ 0 ∷ 0 ∷ 6 ∷ []))
    -- no reply is due to an answer, and it is a bad one
    ∷ (reply (carrying 1 5 (sized 1 3 31)), none)
    ∷ (heard (carrying 1 5 (sized 1 3 31)), as_bad)
    ∷ (heard (carrying 1 5 (sized 1 3 15)), as_bad)
    -- under the commands that carry type 26, without its K
    ∷ (of (judged_under rows 2 (0x1A ∷ 0x01 ∷ [])), of (refusal SHORT 0))
    ∷ (of (judged_under rows 5 (0x1A ∷ 0x01 ∷ [])), of (refusal SHORT 0))
    -- what a confirm carries is not judged so
    ∷ (packet (carrying 1 3 (sized 1 3 15)), of good)
    ∷ []

pub sizes-so : map (λ (e : List ℕ × List ℕ). e.0) checked-sizes ≡ map (λ (e : List ℕ × List ℕ). e.1) checked-sizes
unfolding judged_packet judged_content judged_under judged_unit in_order rows_of table find_row text_size end_of walk timely timely_by judged in_ranges first_fit low_first part total summed ended unit_length
    put_at bytes_of head_bytes packet_bytes answered reply_verdict due_to written_reply role_of role_in
sizes-so = refl
