-- "An accepted packet, written again from its fields, has the same bytes": each chunk of it is the bytes that stand there.
-- Assumes nothing.
use Prim.Native.Nat.{ℕ, suc, ◌+◌, ◌-◌, ◌%◌, ◌≤◌}
use native.Mathlib.Omega.{arith}
use mathlib.Core.Bool.{true}
use mathlib.Core.List.{List, [], ◌∷◌, ◌++◌}
use mathlib.Core.Path.{◌≡◌, refl, sym, ap, ◌∙◌}
use borrow.Author.Tests.{eqb-true}
use lib.ListN.{length, get_or, take, drop, length-drop}
use lib.Seq.{take_all, take-append-add, drop-append-le}
use Rattle.frame.specs.Frame.{unit_length, frame_tests}
use Rattle.frame.proofs.Framed.{Framed, held-framed, end_is, sum-byte}
use Rattle.kinds.specs.declared.Row.{Row}
use Rattle.label.specs.Times.{label_of, label_bytes}
use Rattle.octets.specs.Numbers.{Octets, low_first, bytes_of}
use Rattle.octets.specs.Parts.{one_by_one}
use Rattle.octets.specs.Sums.{total}
use Rattle.octets.proofs.Numbers.{part_bytes}
use Rattle.octets.proofs.Parts.{part-is, length_part, one_by_one_lem, chunk}
use Rattle.packet.specs.Frames.{command_of, unit_of, header_tests, judged_content, judged_packet}
use Rattle.packet.specs.Headers.{header_of}
use Rattle.output.specs.Packets.{head_bytes, tail_bytes, packet_bytes}
use Rattle.unit.specs.Units.{judged_under}
use Rattle.verdict.specs.Orders.{in_order, is_good}
use Rattle.verdict.proofs.Order.{good-held}
use Rattle.output.proofs.Filling.{head-long}

-- what a good verdict tells of a packet
pub record Accepted (p : List ℕ) : Type 0 where
  pub frame : Framed 1024 p
  pub main : get_or p 4 0 ≡ 1

pub accepted : (rs : List Row) (p : List ℕ) → is_good (judged_packet rs p) ≡ true → Accepted p
unfolding judged_packet judged_content
accepted rs p g =
    let f = good-held (frame_tests 1024 p) (in_order (header_tests p) (judged_under rs (command_of p) (unit_of p))) refl g in
    let h = (good-held (header_tests p) (judged_under rs (command_of p) (unit_of p)) refl f.1).0 in
    record { frame = held-framed 1024 p f.0; main = eqb-true (get_or p 4 0) 1 h.0 }

module _ (p : List ℕ) (b : Octets p) (ok : Accepted p) where
  u : List ℕ
  u = unit_of p

  -- bytes of the packet, one by one, with what follows them
  bytes : (at n : ℕ) (c rest : List ℕ) → at + n ≤ 27 → c ≡ one_by_one p at n → rest ≡ drop (at + n) p → c ++ rest ≡ drop at p
  bytes at n c rest h e r = chunk p at n c rest (e ∙ one_by_one_lem p at n (omega (arith, ok.frame.long))) r

  number : (at : ℕ) (rest : List ℕ) → at + 2 ≤ 27 → rest ≡ drop (at + 2) p → bytes_of 2 (low_first (take 2 (drop at p))) ++ rest ≡ drop at p
  number at rest h r = chunk p at 2 (bytes_of 2 (low_first (take 2 (drop at p)))) rest (part_bytes p at 2 b (omega (arith, ok.frame.long))) r

  label_bytes_lem : label_bytes (label_of (drop 6 p)) ≡ take 6 (drop 6 p)
  label_bytes_lem = one_by_one_lem (drop 6 p) 0 6 (omega (arith, length-drop 6 p, ok.frame.long))

  pub head-back : head_bytes (header_of p) (unit_length p) ++ drop 27 p ≡ p
  unfolding head_bytes bytes_of unit_length
  head-back =
      bytes 0 2 (64 ∷ 64 ∷ []) _ (omega arith) (λ i. sym ok.frame.first i ∷ sym ok.frame.second i ∷ [])
      (number 2 _ (omega arith)
      (bytes 4 2 (1 ∷ get_or p 5 0 ∷ []) _ (omega arith) (λ i. sym ok.main i ∷ get_or p 5 0 ∷ [])
      (chunk p 6 6 (label_bytes (label_of (drop 6 p))) _ label_bytes_lem
      (bytes 12 6 (one_by_one p 12 6) _ (omega arith) refl
      (bytes 18 6 (one_by_one p 18 6) _ (omega arith) refl
      (number 24 _ (omega arith) (bytes 26 1 (get_or p 26 0 ∷ []) (drop 27 p) (omega arith) refl refl)))))))

  hd : List ℕ
  hd = head_bytes (header_of p) (unit_length p)

  hd-long : length hd ≡ 27
  unfolding hd
  hd-long = head-long (header_of p) (unit_length p) refl refl

  u-long : length u ≡ unit_length p
  unfolding u
  u-long = let n : 27 + unit_length p - 27 ≡ unit_length p = omega arith in length_part p 27 (27 + unit_length p) (omega arith) (omega (arith, ok.frame.long)) ∙ n

  u-is : u ≡ take (unit_length p) (drop 27 p)
  unfolding u
  u-is =
      let n : 27 + unit_length p - 27 ≡ unit_length p = omega arith in
      part-is p 27 (27 + unit_length p) (omega arith) (omega (arith, ok.frame.long)) ∙ ap (λ (k : ℕ). take k (drop 27 p)) n

  -- what the sum takes in
  sealed : drop 2 hd ++ u ≡ take (25 + unit_length p) (drop 2 p)
  unfolding hd
  sealed =
      let n : length (drop 2 hd) + unit_length p ≡ 25 + unit_length p = omega (arith, length-drop 2 hd, hd-long) in
      ap (λ (x : List ℕ). drop 2 hd ++ x) u-is
      ∙ sym (take-append-add (drop 2 hd) (drop 27 p) (unit_length p))
      ∙ ap (take (length (drop 2 hd) + unit_length p)) (sym (drop-append-le 2 hd (drop 27 p) (omega (arith, hd-long))) ∙ ap (drop 2) head-back)
      ∙ ap (λ (k : ℕ). take k (drop 2 p)) n

  tail-back : tail_bytes (drop 2 hd ++ u) ≡ drop (27 + unit_length p) p
  tail-back =
      let at : ℕ = 27 + unit_length p in
      let one : suc at ≡ 28 + unit_length p = omega arith in
      let two : suc (suc at) ≡ 29 + unit_length p = omega arith in
      let s : total (drop 2 hd ++ u) % 256 ≡ get_or p at 0 = ap (λ (x : List ℕ). total x % 256) sealed ∙ sum-byte (unit_length p) p ok.frame.sums in
      let end = end_is (unit_length p) p ok.frame.ends in
      let e : 35 ≡ get_or p (suc at) 0 = sym (ap (λ (k : ℕ). get_or p k 0) one ∙ end.0) in
      let f : 35 ≡ get_or p (suc (suc at)) 0 = sym (ap (λ (k : ℕ). get_or p k 0) two ∙ end.1) in
      (λ i. s i ∷ e i ∷ f i ∷ [])
      ∙ one_by_one_lem p at 3 (omega (arith, ok.frame.long))
      ∙ take_all 3 (drop at p) (omega (arith, length-drop at p, ok.frame.long))

  -- demand 2: "An accepted packet, written again from its fields, has the same bytes"
  pub packet-back : packet_bytes (header_of p) (unit_of p) ≡ p
  unfolding packet_bytes hd u
  packet-back =
      ap (λ (n : ℕ). head_bytes (header_of p) n ++ (u ++ tail_bytes (drop 2 (head_bytes (header_of p) n) ++ u))) u-long
      ∙ ap (λ (x : List ℕ). hd ++ x) (chunk p 27 (unit_length p) u (tail_bytes (drop 2 hd ++ u)) u-is tail-back)
      ∙ head-back
