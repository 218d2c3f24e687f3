-- At this release's rules the orders over the rules of a release are this release's, by computation. Assumes nothing.
use Prim.Native.Nat.{ℕ}
use mathlib.Core.List.{List}
use mathlib.Core.Path.{◌≡◌, refl, ap}
use Rattle.exchange.specs.declared.Draft.{Draft}
use Rattle.exchange.specs.declared.Exchanges.{Exchanges}
use Rattle.exchange.specs.Begins.{headed, begun_verdict, begun_as, begun, begun_output}
use Rattle.exchange.specs.Table.{found}
use Rattle.fields.specs.declared.Fields.{Fields}
use Rattle.frame.specs.Frame.{frame_tests}
use Rattle.kinds.specs.declared.Row.{Row}
use Rattle.kinds.specs.Table.{rows}
use Rattle.label.specs.declared.Label.{Label}
use Rattle.label.specs.Times.{judged, allowed}
use Rattle.objects.specs.Writing.{is_timely, write_verdict}
use Rattle.output.specs.Objects.{object_verdict}
use Rattle.output.specs.Writing.{packet_verdict, written_as, written_packet}
use Rattle.packet.specs.declared.Header.{Header}
use Rattle.packet.specs.Frames.{judged_content, judged_packet, unit_place}
use Rattle.packet.specs.Headers.{read_as, opened_packet}
use Rattle.reply.specs.Replies.{due_as, due_to, reply_verdict, answer_as, answered, written_reply_as, written_reply}
use Rattle.taking.specs.Takes.{role_of, taken}
use Rattle.unit.specs.Objects.{timely}
use Rattle.unit.specs.Places.{object_place}
use Rattle.unit.specs.Units.{Carrier, judged_unit, judged_under}
use Rattle.verdict.specs.Orders.{in_order, good, is_good}
use Rattle.demands.specs.Rules.{in16, timely_by, unit_by, stands_by, under_by, content_by, packet_by, writer_by, begun_by, new_timely_by, object_by, object_in_by, due_by, reply_by, taken_by}
use Rattle.demands.specs.Rules.{place_as, begun_output_as, reply_as, take_as}

module _ (rs : List Row) where
  unit-now : (by : Carrier) (u : List ℕ) → unit_by in16 rs by u ≡ judged_unit rs by u
  unfolding judged_unit timely_by timely
  unit-now by u = refl

  place-now : (u : List ℕ) (k : ℕ) → stands_by in16 rs u k ≡ object_place rs u k
  unfolding object_place timely_by timely
  place-now u k = refl

  pub under-now : (c : ℕ) (u : List ℕ) → under_by in16 rs c u ≡ judged_under rs c u
  unfolding judged_under judged_unit timely_by timely
  under-now c u = refl

  pub content-now : (p : List ℕ) → content_by in16 rs p ≡ judged_content rs p
  unfolding judged_content judged_under judged_unit timely_by timely
  content-now p = refl

  packet-now : (p : List ℕ) → packet_by in16 rs p ≡ judged_packet rs p
  unfolding judged_packet judged_content judged_under judged_unit timely_by timely
  packet-now p = refl

  writer-now : (out : List ℕ) (h : Header) (l : ℕ) → writer_by in16 rs out h l ≡ packet_verdict rs out h l
  unfolding packet_verdict judged_under judged_unit timely_by timely
  writer-now out h l = refl

  begun-now : (x : Exchanges) (c : ℕ) (out : List ℕ) (d : Draft) (l : ℕ) → begun_by in16 rs x c out d l ≡ begun_verdict rs x c out d l
  unfolding begun_verdict packet_verdict judged_under judged_unit timely_by timely
  begun-now x c out d l = refl

  object-now : (u : List ℕ) (k : ℕ) (f : Fields) (d : List ℕ) → object_by in16 rs u k f d ≡ write_verdict rs u k f d
  unfolding write_verdict new_timely_by is_timely
  object-now u k f d = refl

  object-in-now : (out : List ℕ) (l k : ℕ) (f : Fields) (d : List ℕ) → object_in_by in16 rs out l k f d ≡ object_verdict rs out l k f d
  unfolding object_verdict write_verdict new_timely_by is_timely
  object-in-now out l k f d = refl

  written-now : (out : List ℕ) (h : Header) (l : ℕ) → written_as out h l (writer_by in16 rs out h l) ≡ written_packet rs out h l
  unfolding written_packet
  written-now out h l = ap (written_as out h l) (writer-now out h l)

  begins-now : (x : Exchanges) (c : ℕ) (out : List ℕ) (d : Draft) (l : ℕ)
      → (begun_as x c d l (begun_by in16 rs x c out d l) ≡ begun rs x c out d l)
      × (begun_output_as x c out d l (begun_by in16 rs x c out d l) (writer_by in16 rs out (headed x c d (found x c).serial) l) ≡ begun_output rs x c out d l)
  unfolding begun begun_output written_packet
  begins-now x c out d l = (
    ap (begun_as x c d l) (begun-now x c out d l),
    λ i. begun_output_as x c out d l (begun-now x c out d l i) (writer-now out (headed x c d (found x c).serial) l i),
  )

  pub due-now : (p : List ℕ) → due_by in16 rs p ≡ due_to rs p
  unfolding due_to
  due-now p = ap (due_as p) (content-now p)

  reply-now : (p : List ℕ) (t : Label) (out : List ℕ) → reply_by in16 rs p t out ≡ reply_verdict rs p t out
  unfolding reply_verdict
  reply-now p t out = ap (reply_as p out (allowed (judged t))) (due-now p)

  pub replied-now : (p : List ℕ) (t : Label) (out : List ℕ)
      → (answer_as (reply_by in16 rs p t out) (due_by in16 rs p) ≡ answered rs p t out) × (written_reply_as p t out (reply_by in16 rs p t out) (due_by in16 rs p) ≡ written_reply rs p t out)
  unfolding answered written_reply
  replied-now p t out = (λ i. answer_as (reply-now p t out i) (due-now p i), λ i. written_reply_as p t out (reply-now p t out i) (due-now p i))

  taken-now : (x : Exchanges) (p : List ℕ) → taken_by in16 rs x p ≡ taken rs x p
  unfolding taken role_of
  taken-now x p = λ i. take_as x p (is_good (in_order (frame_tests 1024 p) good)) (content-now p i) (packet-now p i)

  read-now : (p : List ℕ) → (read_as p (packet_by in16 rs p) ≡ opened_packet rs p) × (place_as p (packet_by in16 rs p) ≡ unit_place rs p)
  unfolding opened_packet unit_place
  read-now p = (ap (read_as p) (packet-now p), ap (place_as p) (packet-now p))

pub this-release : ((by : Carrier) (u : List ℕ) → unit_by in16 rows by u ≡ judged_unit rows by u)
    × ((u : List ℕ) (k : ℕ) → stands_by in16 rows u k ≡ object_place rows u k)
    × ((c : ℕ) (u : List ℕ) → under_by in16 rows c u ≡ judged_under rows c u)
    × ((p : List ℕ) → (content_by in16 rows p ≡ judged_content rows p) × (packet_by in16 rows p ≡ judged_packet rows p))
    × ((p : List ℕ) → (read_as p (packet_by in16 rows p) ≡ opened_packet rows p) × (place_as p (packet_by in16 rows p) ≡ unit_place rows p))
    × ((out : List ℕ) (h : Header) (l : ℕ) → (writer_by in16 rows out h l ≡ packet_verdict rows out h l) × (written_as out h l (writer_by in16 rows out h l) ≡ written_packet rows out h l))
    × ((x : Exchanges) (c : ℕ) (out : List ℕ) (d : Draft) (l : ℕ)
    → (begun_by in16 rows x c out d l ≡ begun_verdict rows x c out d l)
    × (begun_as x c d l (begun_by in16 rows x c out d l) ≡ begun rows x c out d l)
    × (begun_output_as x c out d l (begun_by in16 rows x c out d l) (writer_by in16 rows out (headed x c d (found x c).serial) l) ≡ begun_output rows x c out d l))
    × ((u : List ℕ) (k : ℕ) (f : Fields) (d : List ℕ) → object_by in16 rows u k f d ≡ write_verdict rows u k f d)
    × ((out : List ℕ) (l k : ℕ) (f : Fields) (d : List ℕ) → object_in_by in16 rows out l k f d ≡ object_verdict rows out l k f d)
    × ((p : List ℕ) (t : Label) (out : List ℕ)
    → (due_by in16 rows p ≡ due_to rows p)
    × (answer_as (reply_by in16 rows p t out) (due_by in16 rows p) ≡ answered rows p t out)
    × (written_reply_as p t out (reply_by in16 rows p t out) (due_by in16 rows p) ≡ written_reply rows p t out))
    × ((x : Exchanges) (p : List ℕ) → taken_by in16 rows x p ≡ taken rows x p)
this-release = (
  unit-now rows,
  place-now rows,
  under-now rows,
  λ p. (content-now rows p, packet-now rows p),
  read-now rows,
  λ out h l. (writer-now rows out h l, written-now rows out h l),
  λ x c out d l. (begun-now rows x c out d l, (begins-now rows x c out d l).0, (begins-now rows x c out d l).1),
  object-now rows,
  object-in-now rows,
  λ p t out. (due-now rows p, (replied-now rows p t out).0, (replied-now rows p t out).1),
  taken-now rows,
)
