-- What release 1.4 changed, exactly (document 02, Q-1): each verdict is as in 1.3, or it was TIME at a label of six zeros and no more is. What later ones changed is Release14's and Release15's.
-- Assumes nothing.
use Prim.Native.Nat.{ℕ, ◌+◌}
use mathlib.Core.Bool.{true, false}
use mathlib.Core.List.{List}
use mathlib.Core.Logic.{◌⊎◌, inl, inr}
use mathlib.Core.Path.{◌≡◌, sym, ap, ◌∙◌}
use Rattle.std.specs.Prelude.{None}
use Rattle.exchange.specs.declared.Draft.{Draft}
use Rattle.exchange.specs.declared.Exchanges.{Exchanges}
use Rattle.fields.specs.declared.Fields.{Fields}
use Rattle.frame.specs.Frame.{frame_tests}
use Rattle.kinds.specs.Table.{rows}
use Rattle.label.specs.declared.Label.{Label}
use Rattle.label.specs.declared.Judgement.TheVariants.{NoTime, Bad}
use Rattle.label.specs.Times.{is_no_time, judged, judged_in13, allowed}
use Rattle.label.proofs.Judging.{as-in-13, no-time-in-13, no-time-judged}
use Rattle.octets.specs.Parts.{part}
use Rattle.packet.specs.declared.Header.{Header}
use Rattle.packet.specs.Frames.{command_of, unit_of}
use Rattle.packet.specs.Headers.{header_of}
use Rattle.reply.specs.Dues.{Confirm, Deny}
use Rattle.reply.specs.Replies.{to_good, to_refused, due_as}
use Rattle.verdict.specs.Orders.{in_order, refusal, good, is_good}
use Rattle.verdict.specs.Refusals.{TIME}
use Rattle.demands.specs.Rules.{in13, in14, unit_by, under_by, content_by, packet_by, writer_by, begun_by, object_by, due_by, reply_as, reply_by, take_as, taken_by}
use Rattle.demands.specs.Release13.{ObjectWithoutTime, WithoutTime, NewWithoutTime, Newly, Narrowed}
use Rattle.demands.proofs.Narrowed.{over, unit-narrowed, under-narrowed, content-narrowed, writer-narrowed, begin-narrowed, object-narrowed, unit-spares, packet-spares}

-- DEMAND 2 and the tender's "going back is also a release": what release 1.4 answers otherwise than 1.3. A label is judged as before unless it is six zeros
pub label-as-in-1-3 : (l : Label) → (is_no_time l ≡ false → judged l ≡ judged_in13 l) × (is_no_time l ≡ true → (judged_in13 l ≡ Bad) × (judged l ≡ NoTime))
label-as-in-1-3 l = (as-in-13 l, λ z. (no-time-in-13 l z, no-time-judged l z))

-- a packet's verdict is the same, or it was TIME at a label of six zeros, which it no more is; so is a unit's, alone and under a command
pub packet-as-in-1-3 : (p : List ℕ) → Narrowed (WithoutTime (header_of p).label rows (unit_of p)) (packet_by in13 rows p) (packet_by in14 rows p)
packet-as-in-1-3 p = over (WithoutTime (header_of p).label rows (unit_of p)) _ _ (content-narrowed rows p) (frame_tests 1024 p)

pub unit-as-in-1-3 : (u : List ℕ) → Narrowed (ObjectWithoutTime rows u) (unit_by in13 rows None u) (unit_by in14 rows None u)
unit-as-in-1-3 u = unit-narrowed rows None u

pub unit-under-as-in-1-3 : (c : ℕ) (u : List ℕ) → Narrowed (ObjectWithoutTime rows u) (under_by in13 rows c u) (under_by in14 rows c u)
unit-under-as-in-1-3 c u = under-narrowed rows c u

-- and it is never TIME at such a place: so the two differ exactly where release 1.3 told TIME of six zeros
pub packet-spares-zeros : (p : List ℕ) (i : ℕ) → WithoutTime (header_of p).label rows (unit_of p) i → packet_by in14 rows p ≡ refusal TIME i → ⊥
packet-spares-zeros p i w e = packet-spares rows p i w e

pub unit-spares-zeros : (u : List ℕ) (i : ℕ) → ObjectWithoutTime rows u i → unit_by in14 rows None u ≡ refusal TIME i → ⊥
unit-spares-zeros u i o e = unit-spares rows None u i o e

-- what is written, of the label that is handed over and of those in the unit that stands
pub write-packet-as-in-1-3 : (out : List ℕ) (h : Header) (l : ℕ)
    → Narrowed (WithoutTime h.label rows (part out 27 (27 + l))) (writer_by in13 rows out h l) (writer_by in14 rows out h l)
write-packet-as-in-1-3 out h l = writer-narrowed rows out h l

pub begin-as-in-1-3 : (x : Exchanges) (c : ℕ) (out : List ℕ) (d : Draft) (l : ℕ)
    → Narrowed (WithoutTime d.label rows (part out 27 (27 + l))) (begun_by in13 rows x c out d l) (begun_by in14 rows x c out d l)
begin-as-in-1-3 x c out d l = begin-narrowed rows x c out d l

pub write-object-as-in-1-3 : (u : List ℕ) (k : ℕ) (f : Fields) (d : List ℕ) → Narrowed (NewWithoutTime rows u k f) (object_by in13 rows u k f d) (object_by in14 rows u k f d)
write-object-as-in-1-3 u k f d = object-narrowed rows u k f d

-- a packet judged as before gets the same reply under a label that is judged as before, and is the same to the exchange table
pub reply-as-in-1-3 : (p : List ℕ) (t : Label) (out : List ℕ) → is_no_time t ≡ false → content_by in13 rows p ≡ content_by in14 rows p
    → (due_by in13 rows p ≡ due_by in14 rows p) × (reply_by in13 rows p t out ≡ reply_by in14 rows p t out)
reply-as-in-1-3 p t out z e = (ap (due_as p) e, λ i. reply_as p out (allowed (sym (as-in-13 t z) i)) (due_as p (e i)))

pub take-as-in-1-3 : (x : Exchanges) (p : List ℕ) → content_by in13 rows p ≡ content_by in14 rows p → taken_by in13 rows x p ≡ taken_by in14 rows x p
take-as-in-1-3 x p e = λ i. take_as x p (is_good (in_order (frame_tests 1024 p) good)) (e i) (in_order (frame_tests 1024 p) (e i))

-- "we deny each report until it fails": a report that was refused for six zeros alone is confirmed by 1.4
pub confirmed-in-1-4 : (p : List ℕ) (P : ℕ → Type 0) → Newly P (content_by in13 rows p) (content_by in14 rows p) → is_good (content_by in14 rows p) ≡ true
    → (command_of p ≡ 1) ⊎ (command_of p ≡ 2) → (due_by in13 rows p ≡ Deny) × (due_by in14 rows p ≡ Confirm)
confirmed-in-1-4 p P n g c =
    (ap (due_as p) n.told ∙ denied c, simp g (confirmed c))
  where
    denied : (command_of p ≡ 1) ⊎ (command_of p ≡ 2) → to_refused (command_of p) ≡ Deny
    denied (inl e) = ap to_refused e
    denied (inr e) = ap to_refused e

    confirmed : (command_of p ≡ 1) ⊎ (command_of p ≡ 2) → to_good (command_of p) ≡ Confirm
    confirmed (inl e) = ap to_good e
    confirmed (inr e) = ap to_good e
