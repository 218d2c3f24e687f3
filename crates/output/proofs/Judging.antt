-- What the packet writer answers and leaves in its output, by the verdict on the room and the tests that follow it. Assumes nothing.
use Prim.Native.Nat.{ℕ, ◌+◌, ◌≤◌}
use mathlib.Core.Bool.{true, false, false≢true}
use mathlib.Core.List.{List}
use mathlib.Core.Path.{◌≡◌, refl, sym, ap, ◌∙◌}
use borrow.Author.Tests.{leb-true}
use lib.ListN.{length}
use Rattle.std.specs.Prelude.{Result, Ok, Err, IsErr}
use Rattle.kinds.specs.declared.Row.{Row}
use Rattle.octets.specs.Parts.{part, put_at}
use Rattle.packet.specs.declared.Header.{Header}
use Rattle.output.specs.Packets.{packet_bytes}
use Rattle.unit.specs.Units.{judged_under}
use Rattle.verdict.specs.declared.Refused.{Refused}
use Rattle.verdict.specs.declared.Verdict.{Verdict}
use Rattle.verdict.specs.Orders.{in_order, good, is_good, told}
use Rattle.verdict.proofs.Order.{stays, goes_on, good-held}
use Rattle.verdict.proofs.Told.{not-good}
use Rattle.output.specs.Writing.{room_tests, field_tests, packet_verdict, written_packet}

module _ (out : List ℕ) (l n : ℕ) where
  -- what a good verdict on the room tells
  pub roomy : is_good (in_order (room_tests out l n) good) ≡ true → (l ≤ 1024) × (n + l ≤ length out)
  roomy g =
      let h = (good-held (room_tests out l n) good refl g).0 in
      (leb-true l 1024 h.0, leb-true (n + l) (length out) h.1.0)

  pub room-few : good ≡ in_order (room_tests out l n) good → l ≤ 1024
  room-few e = (roomy (ap is_good (sym e))).0

  pub room-there : good ≡ in_order (room_tests out l n) good → n + l ≤ length out
  room-there e = (roomy (ap is_good (sym e))).1

module _ (rs : List Row) (out : List ℕ) (h : Header) (l : ℕ) where
  -- no room
  pub room-decides : {A : Type 0} (x : Result A Refused) → IsErr x → told x ≡ in_order (room_tests out l 30) good → told x ≡ packet_verdict rs out h l
  unfolding packet_verdict
  room-decides (Ok a) b e = absurd (false≢true b)
  room-decides (Err f) b e = e ∙ sym (stays (room_tests out l 30) _ (ap is_good (sym e) ∙ not-good f.refusal f.place))

  -- room: the header's tests decide, then the unit
  pub fields-decide : (v : Verdict) → good ≡ in_order (room_tests out l 30) good → v ≡ in_order (field_tests h) (judged_under rs h.command (part out 27 (27 + l)))
      → v ≡ packet_verdict rs out h l
  unfolding packet_verdict
  fields-decide v e q = q ∙ sym (goes_on (room_tests out l 30) _ refl (ap is_good (sym e)))

module _ (rs : List Row) (out : List ℕ) (h : Header) (l : ℕ) where
  -- the output
  pub kept : is_good (packet_verdict rs out h l) ≡ false → out ≡ written_packet rs out h l
  unfolding written_packet
  kept e = simp e

  pub sealed : is_good (packet_verdict rs out h l) ≡ true → put_at out 0 (packet_bytes h (part out 27 (27 + l))) ≡ written_packet rs out h l
  unfolding written_packet
  sealed e = simp e

  -- a good verdict of the writer tells the room
  pub packet-roomy : is_good (packet_verdict rs out h l) ≡ true → (l ≤ 1024) × (30 + l ≤ length out)
  unfolding packet_verdict
  packet-roomy g =
      let k = (good-held (room_tests out l 30) (in_order (field_tests h) (judged_under rs h.command (part out 27 (27 + l)))) refl g).0 in
      (leb-true l 1024 k.0, leb-true (30 + l) (length out) k.1.0)

  -- the same of what was answered
  pub packet-kept : {A : Type 0} (x : Result A Refused) → IsErr x → told x ≡ packet_verdict rs out h l → out ≡ written_packet rs out h l
  packet-kept (Ok a) b e = absurd (false≢true b)
  packet-kept (Err f) b e = kept (ap is_good (sym e) ∙ not-good f.refusal f.place)

  module _ (e : good ≡ packet_verdict rs out h l) where
    pub packet-sealed : (w : List ℕ) → w ≡ put_at out 0 (packet_bytes h (part out 27 (27 + l))) → w ≡ written_packet rs out h l
    packet-sealed w q = q ∙ sealed (ap is_good (sym e))

    pub packet-few : l ≤ 1024
    packet-few = (packet-roomy (ap is_good (sym e))).0

    pub packet-there : 30 + l ≤ length out
    packet-there = (packet-roomy (ap is_good (sym e))).1

pub ruleset judging = (room-decides, fields-decide, room-few)

pub ruleset writing = (packet-kept, packet-sealed, packet-few, packet-there)
