-- Document 02, Q-1, panels without a clock: what is shown of a label, and the round trips of demand 2 with no time. Assumes nothing.
use Prim.Native.Nat.{ℕ, suc, ◌+◌, ◌≤◌}
use native.Mathlib.Omega.{arith}
use mathlib.Core.Bool.{Bool, true, false, false≢true, cond}
use mathlib.Core.List.{List, []}
use mathlib.Core.Path.{◌≡◌, refl, sym, ap, ◌∙◌}
use borrow.Author.Tests.{le-leb}
use lib.ListN.{length, take, replicate}
use Rattle.std.specs.Prelude.{None}
use Rattle.fields.specs.Layouts.{fields_from, fields_in, nothing, object_bytes}
use Rattle.frame.specs.Frame.{unit_length, frame_tests}
use Rattle.kinds.specs.Table.{Entry, NONE, table, rows, entry_of}
use Rattle.label.specs.declared.Label.{Label}
use Rattle.label.specs.declared.Judgement.TheVariants.{Time, NoTime}
use Rattle.label.specs.Times.{label_bytes, is_no_time, judged, allowed, shown_as, SHOWN_NOTHING, SHOWN_NO_LABEL}
use Rattle.label.proofs.Ranges.{no-time-zeros}
use Rattle.label.proofs.Judging.{no-time-judged, time-judged}
use Rattle.objects.specs.Series.{read_at}
use Rattle.objects.proofs.Again.{bytes-again}
use Rattle.objects.proofs.Series.{bytes_at}
use Rattle.octets.specs.Numbers.{Octets}
use Rattle.octets.specs.Parts.{part}
use Rattle.octets.proofs.Flags.{by-test}
use Rattle.octets.proofs.Numbers.{low-bound}
use Rattle.output.specs.Writing.{packet_verdict, written_packet}
use Rattle.output.proofs.Promises.{opened-is}
use Rattle.output.proofs.Sent.{header-sent}
use Rattle.packet.specs.declared.Header.{Header}
use Rattle.packet.specs.declared.Opened.{Opened}
use Rattle.packet.specs.Frames.{unit_of, judged_packet}
use Rattle.packet.specs.Headers.{header_of, no_header, opened_packet}
use Rattle.packet.specs.Headers as packet
use Rattle.packet.proofs.Opening.{good-label}
use Rattle.reply.specs.Dues.{Due}
use Rattle.reply.specs.Replies.{is_due, command_for, due_tests, due_to, reply_header, reply_bytes, reply_verdict}
use Rattle.reply.proofs.Promises.{reply-accepted}
use Rattle.typed.specs.declared.Typed.{Typed}
use Rattle.typed.specs.Typing.{shown_in, showing, typed_at, typed_object}
use Rattle.typed.proofs.Shown.{labelled-stands}
use Rattle.unit.specs.Objects.{type_of, count_of}
use Rattle.unit.specs.Places.{object_place}
use Rattle.unit.specs.Units.{row_of, judged_unit}
use Rattle.unit.proofs.Good.{good-number, good-place}
use Rattle.verdict.specs.Orders.{in_order, good, is_good, part_in}
use Rattle.verdict.proofs.Order.{goes_on, all-passed}
use Rattle.demands.proofs.Demand2.{packet-again}

-- a label that may stand is shown as a time or as no time
module _ (l : Label) (stands : allowed (judged l) ≡ true) where
  shown-no-time : is_no_time l ≡ true → shown_as (judged l) ≡ shown_as NoTime
  shown-no-time z = ap shown_as (no-time-judged l z)

  shown-time : is_no_time l ≡ false → shown_as (judged l) ≡ shown_as Time
  shown-time z = ap shown_as (time-judged l stands z)

-- "All who call it pass the difference on": a packet that is read shows a time or no time, one that is refused nothing, which is neither
pub record PacketShows (o : Opened) : Type 0 where
  pub refused : is_good o.verdict ≡ false → o.shown ≡ SHOWN_NOTHING
  pub time : is_good o.verdict ≡ true → is_no_time o.header.label ≡ false → o.shown ≡ shown_as Time
  pub no_time : is_good o.verdict ≡ true → is_no_time o.header.label ≡ true → o.shown ≡ shown_as NoTime

-- a reading's verdict is the judge's, and where it is refused it shows nothing
pub packet_verdict_lem : (p : List ℕ) → ((opened_packet rows p).verdict ≡ judged_packet rows p) × (is_good (judged_packet rows p) ≡ false → (opened_packet rows p).shown ≡ SHOWN_NOTHING)
unfolding opened_packet
packet_verdict_lem p = go (is_good (judged_packet rows p)) refl
  where
    is : Bool → Opened
    is b = cond b (packet.showing (judged_packet rows p) (header_of p) (unit_length p)) (record { verdict = judged_packet rows p; header = no_header; shown = SHOWN_NOTHING; length = 0 })

    go : (b : Bool) → is_good (judged_packet rows p) ≡ b → ((is b).verdict ≡ judged_packet rows p) × (is_good (judged_packet rows p) ≡ false → (is b).shown ≡ SHOWN_NOTHING)
    go true e = (refl, λ f. absurd (false≢true (sym f ∙ e)))
    go false e = (refl, λ f. refl)

module _ (p : List ℕ) (g : is_good (opened_packet rows p).verdict ≡ true) where
  packet-judged : (opened_packet rows p).shown ≡ shown_as (judged (opened_packet rows p).header.label)
  packet-judged = ap (λ (o : Opened). o.shown) (opened-is rows p g).1 ∙ ap (λ (o : Opened). shown_as (judged o.header.label)) (sym (opened-is rows p g).1)

  packet-stands : allowed (judged (opened_packet rows p).header.label) ≡ true
  packet-stands = ap (λ (o : Opened). allowed (judged o.header.label)) (opened-is rows p g).1 ∙ good-label rows p (opened-is rows p g).0

pub packet-shows : (p : List ℕ) → PacketShows (opened_packet rows p)
packet-shows p =
    record {
      refused = λ f. (packet_verdict_lem p).1 (ap is_good (sym (packet_verdict_lem p).0) ∙ f);
      time = λ g z. packet-judged p g ∙ shown-time (opened_packet rows p).header.label (packet-stands p g) z;
      no_time = λ g z. packet-judged p g ∙ shown-no-time (opened_packet rows p).header.label (packet-stands p g) z;
    }

-- ".. and the typed reading shows it": an object that is read shows a time, no time, or that its type e has no label, one that is refused nothing
pub record ObjectShows (e : Entry) (t : Typed) : Type 0 where
  pub refused : is_good t.verdict ≡ false → t.shown ≡ SHOWN_NOTHING
  pub no_label : is_good t.verdict ≡ true → e.labelled ≡ false → t.shown ≡ SHOWN_NO_LABEL
  pub time : is_good t.verdict ≡ true → e.labelled ≡ true → is_no_time t.fields.label ≡ false → t.shown ≡ shown_as Time
  pub no_time : is_good t.verdict ≡ true → e.labelled ≡ true → is_no_time t.fields.label ≡ true → t.shown ≡ shown_as NoTime

module _ (u : List ℕ) (k : ℕ) where
  abbrev entry : Entry
  entry = entry_of table (type_of u)

  -- a reading's verdict is that of the object's place, and where it is refused it shows nothing
  object_verdict_lem : ((typed_object table u k).verdict ≡ (object_place rows u k).verdict) × (is_good (object_place rows u k).verdict ≡ false → (typed_object table u k).shown ≡ SHOWN_NOTHING)
  unfolding typed_object
  object_verdict_lem = go (is_good (object_place rows u k).verdict) refl
    where
      is : Bool → Typed
      is b =
          cond b (showing entry (object_place rows u k).verdict (fields_in entry (part_in u (object_place rows u k))))
          (record { verdict = (object_place rows u k).verdict; fields = nothing; shown = SHOWN_NOTHING })

      go : (b : Bool) → is_good (object_place rows u k).verdict ≡ b
          → ((is b).verdict ≡ (object_place rows u k).verdict) × (is_good (object_place rows u k).verdict ≡ false → (is b).shown ≡ SHOWN_NOTHING)
      go true e = (refl, λ f. absurd (false≢true (sym f ∙ e)))
      go false e = (refl, λ f. refl)

  module _ (g : is_good (typed_object table u k).verdict ≡ true) where
    there : (is_good (judged_unit rows None u) ≡ true) × (suc k ≤ count_of u)
    there = good-number rows u k (ap is_good (sym object_verdict_lem.0) ∙ g)

    read : typed_object table u k ≡ showing entry good (fields_in entry (bytes_at u k))
    unfolding typed_object
    read = ap (typed_at entry u) (good-place rows u k there.0 there.1)

    object-stands : entry.labelled ≡ true → allowed (judged (typed_object table u k).fields.label) ≡ true
    unfolding fields_from
    object-stands e = ap (λ (t : Typed). allowed (judged t.fields.label)) read ∙ labelled-stands u k there.0 there.1 e

    object-judged : (typed_object table u k).shown ≡ shown_in entry (typed_object table u k).fields
    object-judged = ap (λ (t : Typed). t.shown) read ∙ ap (λ (t : Typed). shown_in entry t.fields) (sym read)

    labelled-shows : entry.labelled ≡ true → (typed_object table u k).shown ≡ shown_as (judged (typed_object table u k).fields.label)
    unfolding shown_in
    labelled-shows e = object-judged ∙ simp e

    unlabelled-shows : entry.labelled ≡ false → (typed_object table u k).shown ≡ SHOWN_NO_LABEL
    unfolding shown_in
    unlabelled-shows e = object-judged ∙ simp e

  pub object-shows : ObjectShows (entry_of table (type_of u)) (typed_object table u k)
  object-shows =
      record {
        refused = λ f. object_verdict_lem.1 (ap is_good (sym object_verdict_lem.0) ∙ f);
        no_label = unlabelled-shows;
        time = λ g e z. labelled-shows g e ∙ shown-time (typed_object table u k).fields.label (object-stands g e) z;
        no_time = λ g e z. labelled-shows g e ∙ shown-no-time (typed_object table u k).fields.label (object-stands g e) z;
      }

-- no time is shown by a number of its own
time-apart : shown_as Time ≡ shown_as NoTime → ⊥
time-apart e = omega (arith, e)

label-apart : SHOWN_NO_LABEL ≡ shown_as NoTime → ⊥
label-apart e = omega (arith, e)

-- DEMAND 2 with no time: a packet that shows no time has six zeros as its label, and written again it has the same bytes
pub no-time-packet-again : (p out : List ℕ) (o : Opened) → Octets p → o ≡ opened_packet rows p → is_good o.verdict ≡ true → o.shown ≡ shown_as NoTime
    → 30 + o.length ≤ length out → part out 27 (27 + o.length) ≡ unit_of p
    → (label_bytes o.header.label ≡ replicate 6 0)
    × (is_good (packet_verdict rows out o.header o.length) ≡ true)
    × (take (30 + o.length) (written_packet rows out o.header o.length) ≡ p)
no-time-packet-again p out o bytes is g shown room stands =
    let again = packet-again p out o bytes is g room stands in
    let good-one = ap (λ (x : Opened). is_good x.verdict) (sym is) ∙ g in
    let zeros = by-test (is_no_time (opened_packet rows p).header.label) (λ z. z)
    (λ z. absurd (time-apart (sym ((packet-shows p).time good-one z) ∙ ap (λ (x : Opened). x.shown) (sym is) ∙ shown))) in
    (ap (λ (x : Opened). label_bytes x.header.label) is ∙ no-time-zeros (opened_packet rows p).header.label zeros, again.0, again.1)

-- and so has an object
pub no-time-object-again : (u : List ℕ) (k : ℕ) → Octets u → (row_of rows u).text ≡ NONE → is_good (typed_object table u k).verdict ≡ true
    → (typed_object table u k).shown ≡ shown_as NoTime
    → (label_bytes (typed_object table u k).fields.label ≡ replicate 6 0)
    × (object_bytes (entry_of table (type_of u)) (read_at table u k).fields (read_at table u k).description ≡ bytes_at u k)
no-time-object-again u k bytes plain g shown =
    let label = (typed_object table u k).fields.label in
    let zeros = by-test (entry_of table (type_of u)).labelled
    (λ e. by-test (is_no_time label) (λ z. z) (λ z. absurd (time-apart (sym ((object-shows u k).time g e z) ∙ shown))))
    (λ e. absurd (label-apart (sym ((object-shows u k).no_label g e) ∙ shown))) in
    (no-time-zeros label zeros, bytes-again u bytes (there u k g).0 plain k (there u k g).1)

-- "in a reply's label too": a reply is made under six zeros, it is good, carries them, and is read as one without a time
pub no-time-reply : (p : List ℕ) (t : Label) (out : List ℕ) → Octets p → is_no_time t ≡ true → is_good (in_order (frame_tests 1024 p) good) ≡ true → 30 ≤ length out
    → (reply_verdict rows p t out ≡ good)
    × ((d : Due) → is_due d ≡ true
    → ((header_of (reply_bytes p t d)).label ≡ t) × (is_good (opened_packet rows (reply_bytes p t d)).verdict ≡ true) × ((opened_packet rows (reply_bytes p t d)).shown ≡ shown_as NoTime))
unfolding reply_verdict in_order
no-time-reply p t out bytes z framed room =
    (goes_on (frame_tests 1024 p) _ refl framed ∙ go (is_due (due_to rows p)), λ d due. (header d, accepted d due, shown d due))
  where
    stands : allowed (judged t) ≡ true
    stands = ap allowed (no-time-judged t z)

    go : (b : Bool) → in_order (cond b (due_tests t out) []) good ≡ good
    go true = all-passed (due_tests t out) good (stands, (le-leb 30 (length out) room, tt))
    go false = refl

    header : (d : Due) → (header_of (reply_bytes p t d)).label ≡ t
    header d =
        ap (λ (h : Header). h.label)
        (header-sent (reply_header (header_of p) t (command_for d)) [] (record { serial = low-bound p 2 2 bytes; source = refl; destination = refl }) (omega arith))

    accepted : (d : Due) → is_due d ≡ true → is_good (opened_packet rows (reply_bytes p t d)).verdict ≡ true
    accepted d due = ap is_good ((packet_verdict_lem (reply_bytes p t d)).0 ∙ reply-accepted rows p bytes t stands d due)

    shown : (d : Due) → is_due d ≡ true → (opened_packet rows (reply_bytes p t d)).shown ≡ shown_as NoTime
    shown d due =
        (packet-shows (reply_bytes p t d)).no_time (accepted d due)
        (ap (λ (o : Opened). is_no_time o.header.label) (opened-is rows (reply_bytes p t d) (accepted d due)).1 ∙ ap is_no_time (header d) ∙ z)
