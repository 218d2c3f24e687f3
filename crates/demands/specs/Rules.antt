-- The rules of a release, for what going back means (the tender: "going back is also a release"): each order that Q-1, Q-2 or Q-4 moved, over the rules z of a release. At
-- `in16` it is this release's, by computation (`this-release`), at the others that of an earlier one; what is answered, written and stored is each crate's own definition over what its order says.
-- Assumes nothing.
use Rattle.std.specs.Prelude.{ℕ, suc, ◌+◌, Bool, true, cond, ◌&&◌, List, [], ◌∷◌, ◌++◌, eqb, leb, length, get_or, drop, Some, None}
use Rattle.exchange.specs.declared.Draft.{Draft}
use Rattle.exchange.specs.declared.Exchanges.{Exchanges}
use Rattle.exchange.specs.declared.Replied.{Replied}
use Rattle.exchange.specs.Begins.{headed, opening_tests}
use Rattle.exchange.specs.Table.{begin_tests, found}
use Rattle.fields.specs.declared.Fields.{Fields}
use Rattle.frame.specs.Frame.{unit_length, frame_tests}
use Rattle.kinds.specs.declared.Row.{Row}
use Rattle.kinds.specs.Table.{NONE, description_size}
use Rattle.label.specs.declared.Label.{Label}
use Rattle.label.specs.declared.Judgement.{Judgement}
use Rattle.label.specs.Times.{label_of, judged, judged_in13, allowed}
use Rattle.octets.specs.Parts.{part}
use Rattle.octets.specs.Searches.{first_refused}
use Rattle.output.specs.Writing.{room_tests, written_as}
use Rattle.packet.specs.declared.Header.{Header}
use Rattle.packet.specs.Frames.{command_of, unit_of}
use Rattle.packet.specs.Headers.{header_of}
use Rattle.reply.specs.Dues.{Due}
use Rattle.reply.specs.Replies.{due_as, is_due}
use Rattle.taking.specs.Roles.Role.{Other}
use Rattle.taking.specs.Takes.{role_in, taken_as}
use Rattle.unit.specs.Objects.{type_of, count_of, object_at}
use Rattle.unit.specs.Places.{number_test, placed_after}
use Rattle.unit.specs.Units.{Carrier, row_of, size_tests, one_size_test, shape_by, is_kept, kept_tests, empty_tests, is_command}
use Rattle.verdict.specs.declared.Verdict.{Verdict}
use Rattle.verdict.specs.declared.Part.{Part}
use Rattle.verdict.specs.Orders.{Test, ◌or_else◌, in_order, refusal, good, is_good, part_by}
use Rattle.verdict.specs.Refusals.{VERSION, COMMAND, TIME, KIND, TEXT, ROOM}

-- a rule of labels (Q-1), one of what a confirm or a deny carries (Q-2), and one of a unit's size (Q-4)
abbrev pub Rule : Type 0
Rule = Label → Judgement

pub record Rules : Type 0 where
  pub labels : Rule
  pub carried : List ℕ → List Test
  pub sizes : Row → List ℕ → List Test

-- till 1.3 a label is a time or it is bad; till 1.4 "for 3 and 6 the unit is empty"; till 1.5 a unit too short and one too long are refused alike
abbrev pub in13 : Rules
in13 = record { labels = judged_in13; carried = empty_tests; sizes = one_size_test }

abbrev pub in14 : Rules
in14 = record { labels = judged; carried = empty_tests; sizes = one_size_test }

abbrev pub in15 : Rules
in15 = record { labels = judged; carried = kept_tests; sizes = one_size_test }

abbrev pub in16 : Rules
in16 = record { labels = judged; carried = kept_tests; sizes = size_tests }

-- the label of object k
abbrev pub label_at : Row → List ℕ → ℕ → Label
label_at r u k = label_of (drop (object_at r u k + r.label) u)

-- "label after it": whether object k has no label or one that is no refusal
unfoldable pub timely_by : Rule → Row → List ℕ → ℕ → Bool
timely_by j r u k = cond (eqb r.label NONE) true (allowed (j (label_at r u k)))

-- "TIME of the first bad object"
abbrev pub time_test_by : Rule → Row → List ℕ → Test
time_test_by j r u =
    record {
      holds = leb (count_of u) (first_refused (timely_by j r u) 0 (count_of u));
      refused = refusal TIME (suc (first_refused (timely_by j r u) 0 (count_of u)));
    }

-- the judge of a unit, and of one under a command, where a confirm's bytes are judged by their own tests
abbrev pub tests_by : Rules → List Row → Carrier → List ℕ → List Test
tests_by z rs by u = shape_by z.sizes rs by u ++ (time_test_by z.labels (row_of rs u) u ∷ [])

abbrev pub unit_by : Rules → List Row → Carrier → List ℕ → Verdict
unit_by z rs by u = in_order (tests_by z rs by u) good

abbrev pub under_by : Rules → List Row → ℕ → List ℕ → Verdict
under_by z rs c u =
    in_order ((is_command c or_else COMMAND) ∷ []) (cond (is_kept c) (in_order (z.carried u) good) (unit_by z rs (Some c) u))

-- "TIME of the header", of a label that is read or written
abbrev pub head_test : Rule → Label → List Test
head_test j l = (allowed (j l) or_else TIME) ∷ []

-- the judge of a packet
abbrev pub content_by : Rules → List Row → List ℕ → Verdict
content_by z rs p =
    in_order ((eqb (get_or p 4 0) 1 or_else VERSION) ∷ (is_command (command_of p) or_else COMMAND) ∷ head_test z.labels (label_of (drop 6 p)))
    (under_by z rs (command_of p) (unit_of p))

abbrev pub packet_by : Rules → List Row → List ℕ → Verdict
packet_by z rs p = in_order (frame_tests 1024 p) (content_by z rs p)

-- the packet writer, and "begin and write as one"
abbrev pub writer_by : Rules → List Row → List ℕ → Header → ℕ → Verdict
writer_by z rs out h l =
    in_order (room_tests out l 30)
    (in_order ((is_command h.command or_else COMMAND) ∷ head_test z.labels h.label) (under_by z rs h.command (part out 27 (27 + l))))

abbrev pub begun_by : Rules → List Row → Exchanges → ℕ → List ℕ → Draft → ℕ → Verdict
begun_by z rs x c out d l = in_order (begin_tests x c) (in_order (opening_tests out d l) (writer_by z rs out (headed x c d (found x c).serial) l))

-- where an object stands
abbrev pub stands_by : Rules → List Row → List ℕ → ℕ → Part
stands_by z rs u k = placed_after (tests_by z rs None u) (row_of rs u) u k

-- the object writer
unfoldable pub new_timely_by : Rule → Row → Fields → Bool
new_timely_by j r f = cond (eqb r.label NONE) true (allowed (j f.label))

abbrev pub object_by : Rules → List Row → List ℕ → ℕ → Fields → List ℕ → Verdict
object_by z rs u k f d =
    in_order
    ((shape_by z.sizes rs None u ++ (number_test u k ∷ []))
    ++ ((eqb f.kind (type_of u) && eqb (row_of rs u).text NONE or_else KIND)
    ∷ (eqb (length d) (description_size (row_of rs u)) or_else TEXT)
    ∷ record { holds = new_timely_by z.labels (row_of rs u) f; refused = refusal TIME (suc k) }
    ∷ []))
    good

abbrev pub object_in_by : Rules → List Row → List ℕ → ℕ → ℕ → Fields → List ℕ → Verdict
object_in_by z rs out l k f d = in_order (room_tests out l 27) (object_by z rs (part out 27 (27 + l)) k f d)

-- where the unit of a packet stands of which the judge says v
abbrev pub place_as : List ℕ → Verdict → Part
place_as p v = part_by v 27 (27 + unit_length p)

-- what is written where a beginning says v and the packet writer w
abbrev pub begun_output_as : Exchanges → ℕ → List ℕ → Draft → ℕ → Verdict → Verdict → List ℕ
begun_output_as x c out d l v w = cond (is_good v) (written_as out (headed x c d (found x c).serial) l w) out

-- what is due to a packet, and the order of a reply where d is due, b being whether its label may stand
abbrev pub due_by : Rules → List Row → List ℕ → Due
due_by z rs p = due_as p (content_by z rs p)

abbrev pub reply_as : List ℕ → List ℕ → Bool → Due → Verdict
reply_as p out b d =
    in_order (frame_tests 1024 p) (in_order (cond (is_due d) ((b or_else TIME) ∷ (leb 30 (length out) or_else ROOM) ∷ []) []) good)

abbrev pub reply_by : Rules → List Row → List ℕ → Label → List ℕ → Verdict
reply_by z rs p t out = reply_as p out (allowed (z.labels t)) (due_by z rs p)

-- what a packet does to the exchange table, b being whether its frame is good, v what its content and w what all of it is judged to be
abbrev pub take_as : Exchanges → List ℕ → Bool → Verdict → Verdict → Replied
take_as x p b v w = taken_as (cond b (role_in (is_good v) (command_of p)) Other) x (header_of p).source (header_of p).serial w

abbrev pub taken_by : Rules → List Row → Exchanges → List ℕ → Replied
taken_by z rs x p = take_as x p (is_good (in_order (frame_tests 1024 p) good)) (content_by z rs p) (packet_by z rs p)
