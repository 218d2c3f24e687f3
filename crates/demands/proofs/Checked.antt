-- Document 01, "Checked examples": A, B and 1 to 10, and the cases of document 02's requests that landed, as one table under one theorem, each answer
-- in numbers under their names. Assumes nothing.
use Prim.Native.Nat.{ℕ, zero, suc, ◌+◌, ◌-◌}
use Prim.Native.String.{String}
use mathlib.Core.List.{List, [], ◌∷◌, ◌++◌, map}
use mathlib.Core.Path.{◌≡◌, refl}
use lib.ListN.{length, set, take, drop, replicate}
use Rattle.std.specs.Prelude.{None}
use Rattle.exchange.specs.declared.Exchanges.{Exchanges}
use Rattle.exchange.specs.Begins.{mode_of, begun_verdict, begun, begun_output}
use Rattle.exchange.specs.Calls.{Asked, begun_by, Call, begin, reply, tick, after}
use Rattle.exchange.specs.Lives.{ends, life}
use Rattle.exchange.specs.Logs.{Line, line_of, logged_by, tells, resends, count}
use Rattle.exchange.specs.Table.{centre, next_at, centre_of, legal, blank, made, found, answered, ticking}
use Rattle.exchange.proofs.Examples.{draft, first-address, second-address, neither, asked, fresh as fresh-table}
use Rattle.frame.specs.Frame.{room, unit_length, sum_of, ended, summed}
use Rattle.kinds.specs.Table.{table, rows_of, rows, find_row}
use Rattle.label.specs.Times.{label_bytes, judged, in_ranges}
use Rattle.lines.specs.Decimal.{decimal_in, decimal}
use Rattle.lines.specs.Events.{line, short_line, packet_line, event_line, last_line}
use Rattle.naming.specs.Names.{ascii, letters_in, letters}
use Rattle.octets.specs.Numbers.{low_first, bytes_of}
use Rattle.octets.specs.Parts.{part, put_at}
use Rattle.octets.specs.Searches.{first_fit, any_fits, every, same}
use Rattle.octets.specs.Sums.{total}
use Rattle.octets.proofs.Examples.{A}
use Rattle.packet.specs.declared.Header.{Header}
use Rattle.output.specs.Packets.{head_bytes, packet_bytes}
use Rattle.output.specs.Writing.{packet_verdict, written_packet}
use Rattle.packet.specs.Frames.{unit_of, judged_content, judged_packet, unit_place}
use Rattle.packet.specs.Headers.{header_of, opened_packet}
use Rattle.packet.proofs.Examples.{B}
use Rattle.place.specs.declared.Place.{Place}
use Rattle.place.specs.declared.Reply.TheVariants.{Confirm as ConfirmReply, Deny}
use Rattle.place.specs.Rules.{FREE, SEND, REQUEST, free, opened as place, is_open, is_zero, holds, keeps}
use Rattle.place.specs.Steps.{NOTHING, CONFIRMED, RESENT, FAILED, goes_on, denied, ticked, fits, replied}
use Rattle.places.specs.declared.Report.{Report}
use Rattle.places.specs.Rows.{lowest_free, is_open_as, twice, all_keep, are_sound, serial_for, fitting, all_sound, swept}
use Rattle.reading.specs.Values.{MORE, PACKET, told, packet_of}
use Rattle.reading.specs.Standing.{when_there, judged_frame, started, stands}
use Rattle.reading.specs.Finding.{onward, more, noise, hit, found as found_in, first, Heard, Reading, read_on, reading}
use Rattle.reading.specs.Calls.{State, Answer, pad_to, held_bytes, sound, answer_by, called, fresh}
use Rattle.reply.specs.Dues.{Confirm}
use Rattle.reply.specs.Replies.{command_for}
use Rattle.taking.specs.Boxes.{own, box_line, box_after, box_log}
use Rattle.unit.specs.Objects.{text_size, end_of, walk, timely}
use Rattle.unit.specs.Units.{judged_unit, judged_under}
use Rattle.verdict.specs.declared.Verdict.{Verdict}
use Rattle.verdict.specs.Orders.{in_order, refusal, good, part_by, part_in}
use Rattle.demands.proofs.CheckedLabels.{checked-labels, labels-so}
use Rattle.demands.proofs.CheckedConfirms.{checked-confirms, confirms-so}
use Rattle.demands.proofs.CheckedSizes.{checked-sizes, sizes-so}
use Rattle.demands.proofs.CheckedSums.{checked-sums, sums-so}
use Rattle.demands.proofs.CheckedParts.{checked-parts, parts-so}
use Rattle.verdict.specs.Refusals.{STATE, ROOM, LENGTH, END, SUM, COMMAND, TIME, TYPE, COUNT, SETTING, FULL, STRAY, CENTRE}

-- a verdict's number and place
abbrev of : Verdict → List ℕ
of v = v.number ∷ v.place ∷ []

abbrev of_packet : List ℕ → List ℕ
of_packet p = of (judged_packet rows p)

-- the fields that a packet is read as
abbrev fields_of : List ℕ → Header
fields_of p = (opened_packet rows p).header

abbrev version_label_addresses : List ℕ → List ℕ
version_label_addresses p = (fields_of p).version ∷ label_bytes (fields_of p).label ++ (fields_of p).source ++ (fields_of p).destination

-- A with this day, and the sum that it then has
abbrev on_day : ℕ → ℕ → List ℕ
on_day day sum = set (set A 9 day) 27 sum

-- a receiver's answer: the event's number and its packet's length, the count that it carries, the bytes taken, then the count and the bytes held
abbrev shows : ℕ → ℕ → ℕ → ℕ → ℕ → List ℕ → List ℕ
shows event size skipped taken count held = event ∷ size ∷ skipped ∷ taken ∷ count ∷ held

abbrev shown : Answer → List ℕ
shown a = shows (told a.event).number (told a.event).length a.skipped a.taken a.state.skipped (held_bytes a.state)

abbrev call : State → List ℕ → Answer
call s piece = called 1024 s piece (replicate 1054 0)

abbrev afresh : List ℕ → Answer
afresh piece = call (fresh 1024) piece

-- a start of 26 bytes with this L
abbrev start : ℕ → ℕ → List ℕ
start low high = 64 ∷ 64 ∷ replicate 22 0 ++ low ∷ high ∷ []

-- `00 40` then A, and the three calls by which it is heard
abbrev tenth : List ℕ
tenth = 0x00 ∷ 0x40 ∷ A

abbrev call-1 : Answer
call-1 = afresh tenth

abbrev call-2 : Answer
call-2 = call call-1.state (drop call-1.taken tenth)

abbrev call-3 : Answer
call-3 = call call-2.state (drop call-2.taken (drop call-1.taken tenth))

-- what the listing prints of a reading: a line for each event, then the last one
abbrev lines : List Heard → List ℕ
lines [] = []
lines (h ∷ hs) = event_line h.skipped h.event h.packet ++ lines hs

abbrev listing : Reading → List ℕ
listing r = lines r.heard ++ last_line (length r.held) r.skipped

abbrev printed : String → List ℕ
printed text = ascii text ++ (10 ∷ [])

-- so many transmitter operations
abbrev repeated : ℕ → List ℕ → List ℕ
repeated zero o = []
repeated (suc n) o = o ++ repeated n o

abbrev operations : ℕ → List ℕ
operations n = 24 ∷ n ∷ repeated n (1 ∷ 2 ∷ 0x00 ∷ 0x1E ∷ 0x08 ∷ 0x0F ∷ 0x06 ∷ 0x18 ∷ [])

-- what a beginning answers: the verdict, then place, length, serial and the serial that is next for the first centre
abbrev begins : Exchanges → Asked → List ℕ
begins x a = let b = begun_by x a in of b.verdict ++ b.place ∷ b.length ∷ b.serial ∷ next_at b.state 0 ∷ []

abbrev refused : ℕ → ℕ → List ℕ
refused n next = of (refusal n 0) ++ 0 ∷ 0 ∷ 0 ∷ next ∷ []

-- the unit of B under its command, and a table with a serial next
abbrev send : Asked
send = asked 0 2 (unit_of B)

abbrev from_serial : ℕ → Exchanges
from_serial n =
    record { places = (fresh-table 1 0).places; centres = centre first-address n ∷ centre second-address 0 ∷ []; timeout = 1; resends = 0 }

-- eight open for the first centre, and for the second as many as are said
abbrev eight : List Place
eight = map (λ (s : ℕ). place s SEND) (0 ∷ 1 ∷ 2 ∷ 3 ∷ 4 ∷ 5 ∷ 6 ∷ 7 ∷ [])

abbrev full : ℕ → Exchanges
full n =
    record {
      places = eight ++ (take n eight ++ replicate (8 - n) free);
      centres = centre first-address 16 ∷ centre second-address 0 ∷ [];
      timeout = 1;
      resends = 0;
    }

-- the unit of command 2 under which type 90 is TYPE; L 2,000 and no room; a good unit of type 1; an output of 38 bytes for a unit of 9
abbrev clock : Asked
clock = asked 0 2 (0x5A ∷ 0x01 ∷ 0x00 ∷ 0x1E ∷ 0x08 ∷ 0x0F ∷ 0x06 ∷ 0x18 ∷ [])

abbrev long : ℕ → Asked
long c = record { centre = 0; out = []; draft = draft c; size = 2000 }

abbrev states : Asked
states = asked 0 5 (0x01 ∷ 0x01 ∷ 0x01 ∷ 0x02 ∷ 0x00 ∷ 0x00 ∷ 0x00 ∷ 0x1E ∷ 0x08 ∷ 0x0F ∷ 0x06 ∷ 0x18 ∷ [])

abbrev short : Asked
short = record { centre = 0; out = take 38 send.out; draft = send.draft; size = 9 }

abbrev request : Asked
request = asked 0 4 (0x3D ∷ 0x01 ∷ 0x01 ∷ 0x02 ∷ [])

-- a table of these T and R after a beginning, and what the next tick tells of its sixteen places
abbrev opened : ℕ → ℕ → Exchanges
opened t r = (begun_by (fresh-table t r) send).state

abbrev outcomes : Exchanges → List ℕ
outcomes x = map (λ (r : Report). r.outcome) (ticking x).reports

abbrev of_the_first : ℕ → List ℕ
of_the_first outcome = outcome ∷ replicate 15 NOTHING

abbrev modes : Exchanges → List ℕ
modes x = map (λ (p : Place). p.mode) x.places

-- what is told of the first exchange of a table of these T and R, call by call, up to the call that ends it; and how often it is sent
abbrev its : ℕ → ℕ → List Call → List Line
its t r cs = life 0 (drop 1 (box_log (fresh-table t r) (map own (begin send ∷ cs))))

abbrev told_of : ℕ → ℕ → List Call → List ℕ
told_of t r cs = map (tells 0) (its t r cs)

abbrev sendings : ℕ → ℕ → List Call → ℕ
sendings t r cs = 1 + count (resends 0) (its t r cs)

-- the second centre's beginning of B, and its packet's destination
abbrev second : Asked
second = asked 1 2 (unit_of B)

abbrev destination : Exchanges → Asked → List ℕ
destination x a = (header_of (begun_output rows x a.centre a.out a.draft a.size)).destination

-- serial 0 open with both centres, and a reply to it: the verdict's number, the place and the outcome, and the modes that are left
abbrev both : Exchanges
both = (begun_by (begun_by (fresh-table 2 1) send).state second).state

abbrev replies : List ℕ → List ℕ
replies a = let y = answered both a 0 ConfirmReply in y.verdict.number ∷ y.place ∷ y.outcome ∷ modes y.state

-- what is said, and what the documents say: documents 01 and, of 02, Q-8
abbrev checked-first : List (List ℕ × List ℕ)
checked-first =
    -- "A: .., a good confirm. Sum 93."
    (of_packet A, of good)
    ∷ ((fields_of A).command ∷ [], command_for Confirm ∷ [])
    ∷ (sum_of 0 A ∷ [], 93 ∷ [])
    -- "B: serial 6, version, label and addresses as A, command 2, unit `15 01 01 00 1E 08 0F 06 18`: sum `D0`, 39 bytes, good."
    ∷ (of_packet B, of good)
    ∷ ((fields_of B).serial ∷ (fields_of B).command ∷ [], 6 ∷ 2 ∷ [])
    ∷ (version_label_addresses B, version_label_addresses A)
    ∷ (part_in B (unit_place rows B), 0x15 ∷ 0x01 ∷ 0x01 ∷ 0x00 ∷ 0x1E ∷ 0x08 ∷ 0x0F ∷ 0x06 ∷ 0x18 ∷ [])
    ∷ (sum_of 9 B ∷ length B ∷ [], 0xD0 ∷ 39 ∷ [])
    -- "1. A with sum 5E: SUM.", of the judge and of the receiver
    ∷ (of_packet (set A 27 0x5E), of (refusal SUM 0))
    ∷ (shown (afresh (set A 27 0x5E)), shows SUM 0 0 30 0 (drop 1 (set A 27 0x5E)))
    -- "2. A with last byte 24 hex and sum 5E: END."
    ∷ (of_packet (set (set A 29 0x24) 27 0x5E), of (refusal END 0))
    ∷ (shown (afresh (set (set A 29 0x24) 27 0x5E)), shows END 0 0 30 0 (drop 1 (set (set A 29 0x24) 27 0x5E)))
    -- "3. Day 31 good; 0 and 32 TIME."
    ∷ (of_packet (on_day 31 0x6D), of good)
    ∷ (of_packet (on_day 0 0x4E), of (refusal TIME 0))
    ∷ (of_packet (on_day 32 0x6E), of (refusal TIME 0))
    -- "4. L 1,024 waits; 1,025 is LENGTH on byte 26."
    ∷ (shown (afresh (start 0 4)), shows MORE 0 0 26 0 (start 0 4))
    ∷ (shown (afresh (take 25 (start 1 4))), shows MORE 0 0 25 0 (take 25 (start 1 4)))
    ∷ (shown (afresh (start 1 4)), shows LENGTH 0 0 26 0 (drop 1 (start 1 4)))
    -- "5. n of type 24: 127 good, 128 COUNT."
    ∷ (of (judged_unit rows None (operations 127)), of good)
    ∷ (of (judged_unit rows None (operations 128)), of (refusal COUNT 0))
    -- "6. T 1, R 0: begin, tick: failed."
    ∷ (outcomes (opened 1 0), of_the_first FAILED)
    -- "7. T 1, R 1: resend, then failed."
    ∷ (outcomes (opened 1 1), of_the_first RESENT)
    ∷ (outcomes (ticking (opened 1 1)).state, of_the_first FAILED)
    -- "8. Next serial 65,535 gives 65,535, then 0."
    ∷ (begins (from_serial 65535) send, of good ++ 0 ∷ 39 ∷ 65535 ∷ 0 ∷ [])
    ∷ (begins (begun_by (from_serial 65535) send).state send, of good ++ 1 ∷ 39 ∷ 0 ∷ 1 ∷ [])
    -- "9. A lone 64 is held."
    ∷ (shown (afresh (64 ∷ [])), shows MORE 0 0 1 0 (64 ∷ []))
    -- "10. `00 40` then A lists:" "1 END", "0 PACKET 30 5 3 OK", "held 0 skipped 0"
    ∷ (listing (reading 1024 0 0 tenth), printed "1 END" ++ (printed "0 PACKET 30 5 3 OK" ++ printed "held 0 skipped 0"))
    ∷ (take 30 call-2.out, A)
    ∷ ((fields_of A).serial ∷ (fields_of A).command ∷ of_packet A, 5 ∷ 3 ∷ of good)
    -- "The END call takes 31 bytes, the next one 1."
    ∷ (shown call-1, shows END 0 1 31 0 (take 29 A))
    ∷ (shown call-2, shows PACKET 30 0 1 0 [])
    ∷ (shown call-3, shows MORE 0 0 0 0 [])
    -- Document 02, Q-8: B begun where 6 is next is B
    ∷ (begins (from_serial 6) send, of good ++ 0 ∷ 39 ∷ 6 ∷ 7 ∷ [])
    ∷ (begun_output rows (from_serial 6) 0 send.out send.draft send.size, B)
    -- next 65,535 and a write that is refused by TYPE, then a good one
    ∷ (begins (from_serial 65535) clock, refused TYPE 65535)
    ∷ (begins (begun_by (from_serial 65535) clock).state send, of good ++ 0 ∷ 39 ∷ 65535 ∷ 0 ∷ [])
    -- STATE, FULL, then LENGTH, ROOM, COMMAND
    ∷ (begins (fresh-table 0 0) (long 9), refused STATE 0)
    ∷ (begins (full 8) (long 2), refused FULL 16)
    ∷ (begins (from_serial 6) (long 5), refused LENGTH 6)
    ∷ (begins (from_serial 6) short, refused ROOM 6)
    ∷ (modes (begun_by (from_serial 6) short).state, replicate 16 FREE)
    ∷ (begins (from_serial 6) states, refused COMMAND 6)
    -- a request is open
    ∷ (begins (from_serial 6) request, of good ++ 0 ∷ 34 ∷ 6 ∷ 7 ∷ [])
    ∷ (modes (begun_by (from_serial 6) request).state, REQUEST ∷ replicate 15 FREE)
    ∷ []

-- how an exchange ends
abbrev checked-ends : List (List ℕ × List ℕ)
checked-ends =
    -- Document 02, Q-10: T 10, R 9, ticks only: failed at tick 100 after 10 sendings
    (told_of 10 9 (replicate 101 tick), repeated 9 (replicate 9 NOTHING ++ RESENT ∷ []) ++ (replicate 9 NOTHING ++ FAILED ∷ []))
    ∷ (length (its 10 9 (replicate 101 tick)) ∷ sendings 10 9 (replicate 101 tick) ∷ [], 100 ∷ 10 ∷ [])
    -- T 3, R 1, tick, tick, deny, tick, tick, tick: resent at the deny, failed at the fifth tick
    ∷ (told_of 3 1 (tick ∷ tick ∷ reply first-address 0 Deny ∷ tick ∷ tick ∷ tick ∷ tick ∷ []), NOTHING ∷ NOTHING ∷ RESENT ∷ NOTHING ∷ NOTHING ∷ FAILED ∷ [])
    -- T 1, R 0: failed at the first tick
    ∷ (told_of 1 0 (tick ∷ tick ∷ []), FAILED ∷ [])
    -- a deny at each call with R 9: failed at the tenth
    ∷ (told_of 10 9 (replicate 11 (reply first-address 0 Deny)), replicate 9 RESENT ++ FAILED ∷ [])
    ∷ []

-- the second centre
abbrev checked-centres : List (List ℕ × List ℕ)
checked-centres =
    -- Document 02, Q-11: the second centre's first beginning: place 8, serial 0, its address as destination
    (begins (fresh-table 2 1) second, of good ++ 8 ∷ 39 ∷ 0 ∷ 0 ∷ [])
    ∷ (destination (fresh-table 2 1) second, second-address)
    ∷ (destination (fresh-table 2 1) send, first-address)
    -- eight open for the first: FULL for it, the second still begins
    ∷ (begins (full 0) send, refused FULL 16)
    ∷ (begins (full 0) second, of good ++ 8 ∷ 39 ∷ 0 ∷ 16 ∷ [])
    -- centre 2: CENTRE, but STATE where the table breaks its rules
    ∷ (begins (full 8) (asked 2 2 (unit_of B)), refused CENTRE 16)
    ∷ (begins (fresh-table 0 0) (asked 2 2 (unit_of B)), refused STATE 0)
    -- a confirm of serial 0 from the second's address frees place 8 alone, though place 0 is open under serial 0; one from neither address is STRAY
    ∷ (replies second-address, 0 ∷ 8 ∷ CONFIRMED ∷ SEND ∷ replicate 15 FREE)
    ∷ (replies neither, STRAY ∷ 0 ∷ NOTHING ∷ modes both)
    -- addresses equal: SETTING at the making, STATE in a table
    ∷ (of (made 2 1 neither neither).verdict, of (refusal SETTING 0))
    ∷ (begins (blank 2 1 neither neither) send, refused STATE 0)
    ∷ []

-- all of them
abbrev pub checked : List (List ℕ × List ℕ)
checked = checked-first ++ (checked-ends ++ (checked-centres ++ (checked-labels ++ (checked-confirms ++ (checked-sizes ++ (checked-sums ++ checked-parts))))))

abbrev said : List ℕ × List ℕ → List ℕ
said e = e.0

abbrev written : List ℕ × List ℕ → List ℕ
written e = e.1

first_so : map said checked-first ≡ map written checked-first
unfolding opened_packet unit_place part_by judged_packet judged_content judged_under judged_unit in_order rows_of table find_row text_size end_of walk timely judged
    in_ranges first_fit any_fits low_first part total called answer_by sound every pad_to first found_in more noise hit onward stands reading read_on
    started judged_frame summed ended unit_length when_there room told packet_of made found begun begun_verdict begun_output mode_of packet_verdict written_packet
    packet_bytes head_bytes bytes_of put_at ticking legal lowest_free is_open_as twice all_keep are_sound serial_for swept is_open is_zero holds keeps denied ticked
    event_line packet_line short_line last_line line decimal decimal_in letters letters_in logged_by box_line box_after line_of after answered fitting fits replied tells
    goes_on ends life count centre_of all_sound same
first_so = refl

ends_so : map said checked-ends ≡ map written checked-ends
unfolding opened_packet unit_place part_by judged_packet judged_content judged_under judged_unit in_order rows_of table find_row text_size end_of walk timely judged
    in_ranges first_fit any_fits low_first part total called answer_by sound every pad_to first found_in more noise hit onward stands reading read_on
    started judged_frame summed ended unit_length when_there room told packet_of made found begun begun_verdict begun_output mode_of packet_verdict written_packet
    packet_bytes head_bytes bytes_of put_at ticking legal lowest_free is_open_as twice all_keep are_sound serial_for swept is_open is_zero holds keeps denied ticked
    event_line packet_line short_line last_line line decimal decimal_in letters letters_in logged_by box_line box_after line_of after answered fitting fits replied tells
    goes_on ends life count centre_of all_sound same
ends_so = refl

centres-so : map said checked-centres ≡ map written checked-centres
unfolding opened_packet unit_place part_by judged_packet judged_content judged_under judged_unit in_order rows_of table find_row text_size end_of walk timely judged
    in_ranges first_fit any_fits low_first part total called answer_by sound every pad_to first found_in more noise hit onward stands reading read_on
    started judged_frame summed ended unit_length when_there room told packet_of made found begun begun_verdict begun_output mode_of packet_verdict written_packet
    packet_bytes head_bytes bytes_of put_at ticking legal lowest_free is_open_as twice all_keep are_sound serial_for swept is_open is_zero holds keeps denied ticked
    event_line packet_line short_line last_line line decimal decimal_in letters letters_in logged_by box_line box_after line_of after answered fitting fits replied tells
    goes_on ends life count centre_of all_sound same
centres-so = refl

pub checked-so : map said checked ≡ map written checked
checked-so = λ i. first_so i ++ (ends_so i ++ (centres-so i ++ (labels-so i ++ (confirms-so i ++ (sizes-so i ++ (sums-so i ++ parts-so i))))))
