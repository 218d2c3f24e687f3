-- What differs from release 1.5, exactly (document 02, Q-4): of a unit that is SHORT or LONG it said 14 at place 0, and called it SIZE. What 1.5 said, read, wrote and did follows from
-- what this release does. Assumes nothing.
use Prim.Native.Nat.{ℕ, suc, ◌+◌}
use mathlib.Core.Bool.{Bool, true, false, cond, false≢true}
use mathlib.Core.List.{List, [], ◌∷◌, ◌++◌}
use mathlib.Core.Path.{◌≡◌, refl, sym, ap, ◌∙◌}
use borrow.Author.Tests.{eqb-true, ne_eqb}
use lib.Dec.{eqb}
use Rattle.std.specs.Prelude.{Some, None}
use Rattle.exchange.specs.declared.Draft.{Draft}
use Rattle.exchange.specs.declared.Exchanges.{Exchanges}
use Rattle.exchange.specs.Begins.{headed, opening_tests, begun_verdict, begun_as, begun, begun_output}
use Rattle.exchange.specs.Table.{begin_tests, found}
use Rattle.fields.specs.declared.Fields.{Fields}
use Rattle.frame.specs.Frame.{frame_tests}
use Rattle.kinds.specs.Table.{Entry, table, entry_of, rows}
use Rattle.label.specs.declared.Label.{Label}
use Rattle.label.specs.Times.{judged, allowed}
use Rattle.naming.specs.Names.{names, ascii, letters_in, letters}
use Rattle.objects.specs.Writing.{is_timely, placed_tests, write_verdict, written_unit_as, written_unit}
use Rattle.octets.specs.Parts.{part}
use Rattle.octets.proofs.Flags.{by-test, of_either}
use Rattle.output.specs.Objects.{object_verdict, unit_put, written_object}
use Rattle.output.specs.Writing.{room_tests, field_tests, packet_verdict, written_as, written_packet}
use Rattle.packet.specs.declared.Header.{Header}
use Rattle.packet.specs.Frames.{command_of, unit_of, header_tests, judged_content, judged_packet, unit_place}
use Rattle.packet.specs.Headers.{header_of, read_as, opened_packet}
use Rattle.reply.specs.Dues.{Due}
use Rattle.reply.specs.Replies.{to_good, to_refused, due_to, answer_as, answered, written_reply_as, written_reply}
use Rattle.taking.specs.Roles.{Role}
use Rattle.taking.specs.Roles.Role.{Other}
use Rattle.taking.specs.Takes.{role_in, role_of, taken_as, taken}
use Rattle.typed.specs.Typing.{typed_at, typed_object, described_at, description_place}
use Rattle.unit.specs.Objects.{type_of, timely, object_at}
use Rattle.unit.specs.Places.{number_test, placed_after, object_place}
use Rattle.unit.specs.Units.{Carrier, row_of, time_test, unit_tests, is_kept, kept_tests, is_command, judged_unit, judged_under, one_size, of_size, as_one_size}
use Rattle.unit.proofs.Sizes.{of-size-refused}
use Rattle.unit.proofs.Split.{order-was, unit-was}
use Rattle.verdict.specs.declared.Verdict.{Verdict}
use Rattle.verdict.specs.declared.Part.{Part}
use Rattle.verdict.specs.Orders.{◌or_else◌, in_order, refusal, good, is_good, part_by, no_part}
use Rattle.verdict.specs.Refusals.{Row, row, COMMAND, TIME, SHORT, LONG}
use Rattle.verdict.proofs.Order.{in-other-words, part-good}
use Rattle.demands.specs.Rules.{in15, in16, timely_by, new_timely_by, unit_by, stands_by, under_by, content_by, packet_by, writer_by, begun_by, object_by, object_in_by, due_by, reply_by, taken_by}
use Rattle.demands.specs.Rules.{place_as, begun_output_as, reply_as}
use Rattle.demands.specs.Release13.{WithoutTime}
use Rattle.demands.specs.Release15.{titled_in15, letters_in15}
use Rattle.demands.proofs.Release14.{packet-spares-zeros-in-1-5}
use Rattle.demands.proofs.ThisRelease.{content-now, due-now, replied-now}

-- 1.5's verdict is good exactly where this one is, so what is written and stored on a good one is the same
good-as-now : (v : Verdict) → is_good (as_one_size v) ≡ is_good v
good-as-now v =
    by-test (of_size v) (λ e. ap (λ (b : Bool). is_good (cond b one_size v)) e ∙ sym (of-size-refused v e)) (λ e. ap (λ (b : Bool). is_good (cond b one_size v)) e)

same-on-good : {A : Type 0} (a b : A) (v : Verdict) → cond (is_good (as_one_size v)) a b ≡ cond (is_good v) a b
same-on-good a b v = ap (λ (t : Bool). cond t a b) (good-as-now v)

-- what follows from a verdict alone is what follows from SIZE where it is SHORT or LONG, and what follows now everywhere else
either : {A : Type 0} (f : Verdict → A) (v : Verdict) → f (as_one_size v) ≡ cond (of_size v) (f one_size) (f v)
either f v = of_either f (of_size v) one_size v

-- DEMAND 2 and the tender's "going back is also a release": a unit, alone and whatever carries it, and under a command
pub unit-as-in-1-5 : (by : Carrier) (u : List ℕ) → unit_by in15 rows by u ≡ as_one_size (judged_unit rows by u)
unfolding timely_by timely
unit-as-in-1-5 by u = unit-was rows by u

pub unit-under-as-in-1-5 : (c : ℕ) (u : List ℕ) → under_by in15 rows c u ≡ as_one_size (judged_under rows c u)
unfolding judged_under
unit-under-as-in-1-5 c u =
    ap (in_order ((is_command c or_else COMMAND) ∷ [])) (go (is_kept c))
    ∙ in-other-words as_one_size ((is_command c or_else COMMAND) ∷ []) (cond (is_kept c) (in_order (kept_tests u) good) (judged_unit rows (Some c) u))
  where
    go : (b : Bool) → cond b (in_order (kept_tests u) good) (unit_by in15 rows (Some c) u) ≡ as_one_size (cond b (in_order (kept_tests u) good) (judged_unit rows (Some c) u))
    go true = in-other-words as_one_size (kept_tests u) good
    go false = unit-as-in-1-5 (Some c) u

-- where an object stands
pub object-as-in-1-5 : (u : List ℕ) (k : ℕ) → stands_by in15 rows u k ≡ cond (of_size (object_place rows u k).verdict) (no_part one_size) (object_place rows u k)
unfolding object_place placed_after part_by timely_by timely
object-as-in-1-5 u k =
    let v = in_order (unit_tests rows None u ++ (number_test u k ∷ [])) good in
    let from = object_at (row_of rows u) u k in
    let to = object_at (row_of rows u) u (suc k) in
    ap (λ (w : Verdict). part_by w from to) (order-was rows None u (time_test (row_of rows u) u ∷ number_test u k ∷ []) good)
    ∙ either (λ (w : Verdict). part_by w from to) v
    ∙ ap (λ (w : Verdict). cond (of_size w) (no_part one_size) (part_by v from to)) (sym (part-good v from to).0)

-- so with what is read of it, and with its description
module _ (u : List ℕ) (k : ℕ) where
  follows : {A : Type 0} (f : Part → A) → f (stands_by in15 rows u k) ≡ cond (of_size (object_place rows u k).verdict) (f (no_part one_size)) (f (object_place rows u k))
  follows f = ap f (object-as-in-1-5 u k) ∙ of_either f (of_size (object_place rows u k).verdict) (no_part one_size) (object_place rows u k)

  abbrev entry : Entry
  entry = entry_of table (type_of u)

  pub read-object-as-in-1-5 : (typed_at entry u (stands_by in15 rows u k)
      ≡ cond (of_size (object_place rows u k).verdict) (typed_at entry u (no_part one_size)) (typed_object table u k))
      × (described_at (row_of rows u) (stands_by in15 rows u k) ≡ cond (of_size (object_place rows u k).verdict) (no_part one_size) (description_place rows u k))
  unfolding typed_object description_place
  read-object-as-in-1-5 = (follows (typed_at entry u), follows (described_at (row_of rows u)))

content-said : (p : List ℕ) → content_by in15 rows p ≡ as_one_size (judged_content rows p)
unfolding judged_content
content-said p =
    ap (in_order (header_tests p)) (unit-under-as-in-1-5 (command_of p) (unit_of p)) ∙ in-other-words as_one_size (header_tests p) (judged_under rows (command_of p) (unit_of p))

content-good : (p : List ℕ) → is_good (content_by in15 rows p) ≡ is_good (judged_content rows p)
content-good p = ap is_good (content-said p) ∙ good-as-now (judged_content rows p)

-- a packet, what is read of it and where its unit stands
pub packet-as-in-1-5 : (p : List ℕ) → packet_by in15 rows p ≡ as_one_size (judged_packet rows p)
unfolding judged_packet
packet-as-in-1-5 p = ap (in_order (frame_tests 1024 p)) (content-said p) ∙ in-other-words as_one_size (frame_tests 1024 p) (judged_content rows p)

pub read-as-in-1-5 : (p : List ℕ)
    → (read_as p (packet_by in15 rows p) ≡ cond (of_size (judged_packet rows p)) (read_as p one_size) (opened_packet rows p))
    × (place_as p (packet_by in15 rows p) ≡ cond (of_size (judged_packet rows p)) (no_part one_size) (unit_place rows p))
unfolding opened_packet unit_place part_by
read-as-in-1-5 p = (
  ap (read_as p) (packet-as-in-1-5 p) ∙ either (read_as p) (judged_packet rows p),
  ap (place_as p) (packet-as-in-1-5 p) ∙ either (place_as p) (judged_packet rows p),
)

-- the packet writer, which writes the same
module _ (out : List ℕ) (h : Header) (l : ℕ) where
  writer-said : writer_by in15 rows out h l ≡ as_one_size (packet_verdict rows out h l)
  unfolding packet_verdict
  writer-said =
      ap (λ (v : Verdict). in_order (room_tests out l 30) (in_order (field_tests h) v)) (unit-under-as-in-1-5 h.command (part out 27 (27 + l)))
      ∙ ap (in_order (room_tests out l 30)) (in-other-words as_one_size (field_tests h) _)
      ∙ in-other-words as_one_size (room_tests out l 30) _

  pub write-packet-as-in-1-5 : (writer_by in15 rows out h l ≡ as_one_size (packet_verdict rows out h l)) × (written_as out h l (writer_by in15 rows out h l) ≡ written_packet rows out h l)
  unfolding written_packet
  write-packet-as-in-1-5 = (writer-said, ap (written_as out h l) writer-said ∙ same-on-good (written_as out h l good) out (packet_verdict rows out h l))

-- the object writer, alone and in an output, which writes the same
module _ (u : List ℕ) (k : ℕ) (f : Fields) (d : List ℕ) where
  object-said : object_by in15 rows u k f d ≡ as_one_size (write_verdict rows u k f d)
  unfolding write_verdict new_timely_by is_timely
  object-said = order-was rows None u (placed_tests rows u k f d) good

  pub write-object-as-in-1-5 : (object_by in15 rows u k f d ≡ as_one_size (write_verdict rows u k f d))
      × (written_unit_as table u k f d (object_by in15 rows u k f d) ≡ written_unit table u k f d)
  unfolding written_unit
  write-object-as-in-1-5 = (object-said, ap (written_unit_as table u k f d) object-said ∙ same-on-good (written_unit_as table u k f d good) u (write_verdict rows u k f d))

pub write-packet-object-as-in-1-5 : (out : List ℕ) (l k : ℕ) (f : Fields) (d : List ℕ)
    → (object_in_by in15 rows out l k f d ≡ as_one_size (object_verdict rows out l k f d))
    × (unit_put out l (written_unit_as table (part out 27 (27 + l)) k f d (object_by in15 rows (part out 27 (27 + l)) k f d)) ≡ written_object table out l k f d)
unfolding object_verdict written_object
write-packet-object-as-in-1-5 out l k f d =
    let wrote = write-object-as-in-1-5 (part out 27 (27 + l)) k f d in
    (ap (in_order (room_tests out l 27)) wrote.0 ∙ in-other-words as_one_size (room_tests out l 27) _, ap (unit_put out l) wrote.1)

-- a beginning: the same place, serial, table and output where it is good
module _ (x : Exchanges) (c : ℕ) (out : List ℕ) (d : Draft) (l : ℕ) where
  abbrev head : Header
  head = headed x c d (found x c).serial

  begun-said : begun_by in15 rows x c out d l ≡ as_one_size (begun_verdict rows x c out d l)
  unfolding begun_verdict
  begun-said =
      ap (λ (v : Verdict). in_order (begin_tests x c) (in_order (opening_tests out d l) v)) (writer-said out head l)
      ∙ ap (in_order (begin_tests x c)) (in-other-words as_one_size (opening_tests out d l) _)
      ∙ in-other-words as_one_size (begin_tests x c) _

  pub begin-as-in-1-5 : (begun_by in15 rows x c out d l ≡ as_one_size (begun_verdict rows x c out d l))
      × (begun_as x c d l (begun_by in15 rows x c out d l)
      ≡ cond (of_size (begun_verdict rows x c out d l)) (begun_as x c d l one_size) (begun rows x c out d l))
      × (begun_output_as x c out d l (begun_by in15 rows x c out d l) (writer_by in15 rows out head l) ≡ begun_output rows x c out d l)
  unfolding begun begun_output
  begin-as-in-1-5 = (
    begun-said,
    ap (begun_as x c d l) begun-said ∙ either (begun_as x c d l) (begun_verdict rows x c out d l),
    (λ i. cond (is_good (begun-said i)) ((write-packet-as-in-1-5 out head l).1 i) out)
        ∙ same-on-good (written_packet rows out head l) out (begun_verdict rows x c out d l),
  )

-- the reply is the same to every packet: what is due, the answer and every byte of the output
pub reply-as-in-1-5 : (p : List ℕ) (t : Label) (out : List ℕ)
    → (due_by in15 rows p ≡ due_to rows p)
    × (answer_as (reply_by in15 rows p t out) (due_by in15 rows p) ≡ answered rows p t out)
    × (written_reply_as p t out (reply_by in15 rows p t out) (due_by in15 rows p) ≡ written_reply rows p t out)
reply-as-in-1-5 p t out = (
  due ∙ due-now rows p,
  ap (λ (d : Due). answer_as (reply_as p out (allowed (judged t)) d) d) due ∙ (replied-now rows p t out).0,
  ap (λ (d : Due). written_reply_as p t out (reply_as p out (allowed (judged t)) d) d) due ∙ (replied-now rows p t out).1,
)
  where
    due : due_by in15 rows p ≡ due_by in16 rows p
    due =
        ap (λ (b : Bool). cond b (to_good (command_of p)) (to_refused (command_of p)))
        (content-good p ∙ ap is_good (sym (content-now rows p)))

-- a packet is the same to the exchange table, a refused one too, but for the number and place that are told of one that is no reply
pub take-as-in-1-5 : (x : Exchanges) (p : List ℕ)
    → taken_by in15 rows x p
    ≡ cond (of_size (judged_packet rows p)) (taken_as (role_of rows p) x (header_of p).source (header_of p).serial one_size) (taken rows x p)
unfolding taken role_of
take-as-in-1-5 x p =
    (λ i. taken_as (role (content-good p i)) x (header_of p).source (header_of p).serial (packet-as-in-1-5 p i))
    ∙ either (taken_as (role (is_good (judged_content rows p))) x (header_of p).source (header_of p).serial) (judged_packet rows p)
  where
    role : Bool → Role
    role b = cond (is_good (in_order (frame_tests 1024 p) good)) (role_in b (command_of p)) Other

-- what 1.4 changed stands: TIME is told of no label of six zeros
pub packet-spares-zeros-still : (p : List ℕ) (i : ℕ) → WithoutTime (header_of p).label rows (unit_of p) i → judged_packet rows p ≡ refusal TIME i → ⊥
packet-spares-zeros-still p i w e = packet-spares-zeros-in-1-5 p i w (packet-as-in-1-5 p ∙ ap as_one_size e)

-- the names: 14 was SIZE, 28 had none, and every other number has the name that it had
titled-other : (rs : List Row) (n : ℕ) → (n ≡ SHORT → ⊥) → (n ≡ LONG → ⊥) → letters_in (titled_in15 rs) n ≡ letters_in rs n
unfolding letters_in
titled-other [] n a b = refl
titled-other (r ∷ rs) n a b = go (eqb r.number LONG) (eqb r.number SHORT) refl refl (titled-other rs n a b)
  where
    go : (l s : Bool) → eqb r.number LONG ≡ l → eqb r.number SHORT ≡ s → letters_in (titled_in15 rs) n ≡ letters_in rs n
        → letters_in (cond l (titled_in15 rs) (cond s (row 14 "SIZE") r ∷ titled_in15 rs)) n ≡ cond (eqb r.number n) (ascii r.name) (letters_in rs n)
    go true s is-long is-short ih =
        let no = ne_eqb r.number n (λ e. b (sym e ∙ eqb-true r.number LONG is-long)) in
        ih ∙ sym (ap (λ (t : Bool). cond t (ascii r.name) (letters_in rs n)) no)
    go false true is-long is-short ih =
        let no = ne_eqb r.number n (λ e. a (sym e ∙ eqb-true r.number SHORT is-short)) in
        ap (λ (t : Bool). cond t (ascii "SIZE") (letters_in (titled_in15 rs) n)) (ne_eqb SHORT n (λ e. a (sym e)))
        ∙ ih ∙ sym (ap (λ (t : Bool). cond t (ascii r.name) (letters_in rs n)) no)
    go false false is-long is-short ih = ap (cond (eqb r.number n) (ascii r.name)) ih

pub name-as-in-1-5 : (n : ℕ) → (letters_in15 SHORT ≡ ascii "SIZE") × (letters_in15 LONG ≡ []) × ((n ≡ SHORT → ⊥) → (n ≡ LONG → ⊥) → letters_in15 n ≡ letters n)
unfolding letters_in15 letters_in letters
name-as-in-1-5 n = (refl, refl, titled-other names n)

-- and so the word that the listing prints of a packet's verdict: where it now is SHORT or LONG, 1.5 prints SIZE, and the same word everywhere else
pub word-as-in-1-5 : (v : Verdict) → letters_in15 (as_one_size v).number ≡ cond (of_size v) (ascii "SIZE") (letters v.number)
word-as-in-1-5 v =
    by-test (of_size v)
    (λ e. ap (λ (b : Bool). letters_in15 (cond b one_size v).number) e ∙ (name-as-in-1-5 0).0 ∙ sym (ap (λ (b : Bool). cond b (ascii "SIZE") (letters v.number)) e))
    (λ e.
    ap (λ (b : Bool). letters_in15 (cond b one_size v).number) e
    ∙ (name-as-in-1-5 v.number).2 (λ q. false≢true (sym e ∙ ap (λ (n : ℕ). of_size (refusal n 0)) q)) (λ q. false≢true (sym e ∙ ap (λ (n : ℕ). of_size (refusal n 0)) q))
    ∙ sym (ap (λ (b : Bool). cond b (ascii "SIZE") (letters v.number)) e))
