-- "A packet we write reads back as the same fields": the frame of a packet made of a header and a unit is good, and says both.
-- Assumes nothing.
use Prim.Native.Nat.{ℕ, ◌+◌, ◌-◌, ◌%◌, ◌≤◌, ◌<◌}
use native.Mathlib.Omega.{arith}
use mathlib.Core.Bool.{true}
use mathlib.Core.List.{List, [], ◌∷◌, ◌++◌, append_assoc}
use mathlib.Core.Path.{◌≡◌, refl, sym, ap, ◌∙◌}
use borrow.Author.Tests.{eq-eqb}
use lib.Dec.{eqb}
use lib.ListN.{length, get_or, take, drop, length-append, length-drop}
use lib.Seq.{take_at, take-append-add, drop-append-le, get_or-append-add, drop_at}
use Rattle.frame.specs.Frame.{packet_length, unit_length, ended, summed, frame_tests}
use Rattle.frame.proofs.Framing.{end-right}
use Rattle.frame.proofs.Framed.{Framed, framed-held, byte-sum}
use Rattle.kinds.specs.declared.Row.{Row}
use Rattle.label.specs.declared.Label.{Label}
use Rattle.label.specs.Times.{label_of, label_bytes, judged, allowed}
use Rattle.octets.specs.Numbers.{bytes_of}
use Rattle.octets.specs.Parts.{part, one_by_one}
use Rattle.octets.specs.Sums.{total}
use Rattle.octets.proofs.Numbers.{bytes_low}
use Rattle.octets.proofs.Parts.{part-is}
use Rattle.packet.specs.declared.Header.{Header}
use Rattle.packet.specs.Frames.{command_of, unit_of, header_tests, judged_content, judged_packet}
use Rattle.packet.specs.Headers.{header_of}
use Rattle.output.specs.Packets.{head_bytes, tail_bytes, packet_bytes}
use Rattle.unit.specs.Units.{is_command, judged_under}
use Rattle.verdict.specs.Orders.{in_order}
use Rattle.verdict.proofs.Order.{all-passed}
use Rattle.output.proofs.Filling.{head-is, head-long, six}

-- the numbers of a header are of its bytes' sizes
pub record Fitting (h : Header) : Type 0 where
  pub serial : h.serial < 65536
  pub source : length h.source ≡ 6
  pub destination : length h.destination ≡ 6

module _ (h : Header) (u : List ℕ) (fit : Fitting h) (few : length u ≤ 1024) where
  hd : List ℕ
  hd = head_bytes h (length u)

  -- the head, spelt out byte by byte
  spelt : List ℕ
  spelt =
      64 ∷ 64 ∷ (bytes_of 2 h.serial ++ (1 ∷ h.version ∷ (label_bytes h.label ++ (one_by_one h.source 0 6 ++ (one_by_one h.destination 0 6 ++ (bytes_of 2 (length u) ++ (h.command ∷ [])))))))

  spelt_is : spelt ≡ hd
  unfolding hd spelt bytes_of
  spelt_is = head-is h (length u) (bytes_of 2 h.serial) (bytes_of 2 (length u)) (label_bytes h.label) refl refl refl fit.source fit.destination

  hd-long : length hd ≡ 27
  unfolding hd
  hd-long = head-long h (length u) fit.source fit.destination

  t : List ℕ
  t = tail_bytes (drop 2 hd ++ u)

  q-is : packet_bytes h u ≡ spelt ++ (u ++ t)
  unfolding packet_bytes hd t
  q-is = ap (λ (x : List ℕ). x ++ (u ++ t)) (sym spelt_is)

  q-is' : packet_bytes h u ≡ hd ++ (u ++ t)
  unfolding packet_bytes hd t
  q-is' = refl

  -- L reads back
  pub length-sent : unit_length (packet_bytes h u) ≡ length u
  unfolding spelt bytes_of unit_length
  length-sent = ap unit_length q-is ∙ bytes_low 2 (length u) (omega arith)

  -- and every other field of the header
  pub header-sent : header_of (packet_bytes h u) ≡ h
  unfolding spelt bytes_of
  header-sent =
      ap header_of q-is
      ∙ (λ i.
      record {
        serial = bytes_low 2 h.serial fit.serial i;
        version = h.version;
        label = h.label;
        source = six h.source fit.source i;
        destination = six h.destination fit.destination i;
        command = h.command;
      })

  hu-long : length (hd ++ u) ≡ 27 + length u
  hu-long = length-append hd u ∙ ap (λ (n : ℕ). n + length u) hd-long

  parts : packet_bytes h u ≡ (hd ++ u) ++ t
  parts = q-is' ∙ sym (append_assoc hd u t)

  pub sent-long : length (packet_bytes h u) ≡ 30 + length u
  unfolding t
  sent-long = omega (arith, ap length parts, length-append (hd ++ u) t, hu-long)

  -- the bytes behind the unit
  behind : (k : ℕ) → get_or (packet_bytes h u) (27 + length u + k) 0 ≡ get_or t k 0
  behind k =
      ap (λ (x : List ℕ). get_or x (27 + length u + k) 0) parts
      ∙ ap (λ (n : ℕ). get_or ((hd ++ u) ++ t) (n + k) 0) (sym hu-long)
      ∙ get_or-append-add (hd ++ u) t k 0

  after : (k n : ℕ) → n ≡ 27 + length u + k → get_or (packet_bytes h u) n 0 ≡ get_or t k 0
  after k n e = ap (λ (m : ℕ). get_or (packet_bytes h u) m 0) e ∙ behind k

  -- what the sum takes in
  sealed : take (25 + length u) (drop 2 (packet_bytes h u)) ≡ drop 2 hd ++ u
  sealed =
      let n : 25 + length u ≡ length (drop 2 hd) + length u = omega (arith, length-drop 2 hd, hd-long) in
      ap (λ (k : ℕ). take k (drop 2 (packet_bytes h u))) n
      ∙ ap (λ (x : List ℕ). take (length (drop 2 hd) + length u) (drop 2 x)) q-is'
      ∙ ap (take (length (drop 2 hd) + length u)) (drop-append-le 2 hd (u ++ t) (omega (arith, hd-long)))
      ∙ take-append-add (drop 2 hd) (u ++ t) (length u)
      ∙ ap (λ (x : List ℕ). drop 2 hd ++ x) (take_at u t (length u) refl)

  -- the frame is good
  framed : Framed 1024 (packet_bytes h u)
  unfolding t spelt
  framed =
      let p : List ℕ = packet_bytes h u in
      let l : ℕ = length u in
      let end = end-right l p (after 1 (28 + l) (omega arith)) (after 2 (29 + l) (omega arith)) in
      let sum = byte-sum l p (ap (λ (x : List ℕ). total x % 256) sealed ∙ sym (after 0 (27 + l) (omega arith))) in
      record {
        first = ap (λ (x : List ℕ). get_or x 0 0) q-is;
        second = ap (λ (x : List ℕ). get_or x 1 0) q-is;
        few = omega (arith, length-sent);
        long = sent-long ∙ ap packet_length (sym length-sent);
        ends = ap (λ (n : ℕ). ended n p) length-sent ∙ end;
        sums = ap (λ (n : ℕ). summed n p) length-sent ∙ sum;
      }

  -- the unit reads back
  pub unit-sent : unit_of (packet_bytes h u) ≡ u
  unit-sent =
      let few' : 27 + length u - 27 ≡ length u = omega arith in
      ap (λ (n : ℕ). part (packet_bytes h u) 27 (27 + n)) length-sent
      ∙ part-is (packet_bytes h u) 27 (27 + length u) (omega arith) (omega (arith, sent-long))
      ∙ ap (λ (n : ℕ). take n (drop 27 (packet_bytes h u))) few'
      ∙ ap (λ (x : List ℕ). take (length u) (drop 27 x)) q-is'
      ∙ ap (take (length u)) (drop_at hd (u ++ t) 27 hd-long)
      ∙ take_at u t (length u) refl

  -- and the judge says of the packet what it says of the unit under the command
  pub judged-sent : (rs : List Row) → is_command h.command ≡ true → allowed (judged h.label) ≡ true → judged_packet rs (packet_bytes h u) ≡ judged_under rs h.command u
  unfolding judged_packet judged_content spelt bytes_of
  judged-sent rs c a =
      let p : List ℕ = packet_bytes h u in
      let command : command_of p ≡ h.command = ap (λ (x : Header). x.command) header-sent in
      let label : label_of (drop 6 p) ≡ h.label = ap (λ (x : Header). x.label) header-sent in
      let version : eqb (get_or p 4 0) 1 ≡ true = eq-eqb (get_or p 4 0) 1 (ap (λ (x : List ℕ). get_or x 4 0) q-is) in
      all-passed (frame_tests 1024 p) (in_order (header_tests p) (judged_under rs (command_of p) (unit_of p))) (framed-held 1024 p framed)
      ∙ all-passed (header_tests p) (judged_under rs (command_of p) (unit_of p))
      (version, (ap is_command command ∙ c, (ap (λ (x : Label). allowed (judged x)) label ∙ a, tt)))
      ∙ ap (λ (x : ℕ). judged_under rs x (unit_of p)) command
      ∙ ap (judged_under rs h.command) unit-sent
