-- A packet's head and tail put around the unit that stands in the output are the packet put at once. Assumes nothing.
use Prim.Native.Nat.{ℕ, ◌+◌, ◌-◌, ◌%◌, ◌≤◌}
use native.Mathlib.Omega.{arith}
use mathlib.Core.List.{List, [], ◌∷◌, ◌++◌}
use mathlib.Core.Path.{◌≡◌, sym, ap, ◌∙◌}
use lib.ListN.{length, get_or, take, drop, length-append, length-drop}
use lib.Seq.{take_all, take-append-add, drop-append-le, drop_at}
use Rattle.label.specs.Times.{label_bytes}
use Rattle.octets.specs.Numbers.{bytes_of}
use Rattle.octets.specs.Parts.{part, put_at, one_by_one}
use Rattle.octets.specs.Sums.{total}
use Rattle.octets.proofs.Parts.{part-is, length_part, put-put, put_same, put-from, length-put, one_by_one_lem}
use Rattle.packet.specs.declared.Header.{Header}
use Rattle.output.specs.Packets.{head_bytes, tail_bytes, packet_bytes}

-- six bytes, one by one
pub six : (a : List ℕ) → length a ≡ 6 → one_by_one a 0 6 ≡ a
six a h = one_by_one_lem a 0 6 (omega arith) ∙ take_all 6 a (omega arith)

pub head-long : (h : Header) (l : ℕ) → length h.source ≡ 6 → length h.destination ≡ 6 → length (head_bytes h l) ≡ 27
unfolding head_bytes bytes_of
head-long h l a b =
    omega (
      arith,
      length-append h.source (h.destination ++ (bytes_of 2 l ++ (h.command ∷ []))),
      length-append h.destination (bytes_of 2 l ++ (h.command ∷ [])),
      length-append (bytes_of 2 l) (h.command ∷ []),
    )

-- the 27 bytes as they are spelt out, from the bytes of the serial, of L and of the label
abbrev pub spelt : Header → List ℕ → List ℕ → List ℕ → List ℕ
spelt h s k t =
    64 ∷ 64 ∷ get_or s 0 0 ∷ get_or s 1 0 ∷ 1 ∷ h.version ∷ (one_by_one t 0 6 ++ (one_by_one h.source 0 6 ++ (one_by_one h.destination 0 6 ++ (get_or k 0 0 ∷ get_or k 1 0 ∷ h.command ∷ []))))

pub head-is : (h : Header) (l : ℕ) (s k t : List ℕ) → s ≡ bytes_of 2 h.serial → k ≡ bytes_of 2 l → t ≡ label_bytes h.label
    → length h.source ≡ 6 → length h.destination ≡ 6 → spelt h s k t ≡ head_bytes h l
unfolding head_bytes bytes_of
head-is h l s k t es ek et a b =
    let front : List ℕ → List ℕ = λ x. 64 ∷ 64 ∷ (bytes_of 2 h.serial ++ (1 ∷ h.version ∷ (label_bytes h.label ++ x))) in
    ap (λ (x : List ℕ). spelt h x k t) es
    ∙ ap (λ (x : List ℕ). spelt h (bytes_of 2 h.serial) x t) ek
    ∙ ap (spelt h (bytes_of 2 h.serial) (bytes_of 2 l)) et
    ∙ ap (λ (x : List ℕ). front (x ++ (one_by_one h.destination 0 6 ++ (bytes_of 2 l ++ (h.command ∷ []))))) (six h.source a)
    ∙ ap (λ (x : List ℕ). front (h.source ++ (x ++ (bytes_of 2 l ++ (h.command ∷ []))))) (six h.destination b)

module _ (o : List ℕ) (h : Header) (l : ℕ) (hd : List ℕ) (few : l ≤ 1024) (room : 30 + l ≤ length o) (head : hd ≡ head_bytes h l) (long : length hd ≡ 27) where
  u : List ℕ
  u = part o 27 (27 + l)

  o1 : List ℕ
  o1 = put_at o 0 hd

  u-long : length u ≡ l
  unfolding u
  u-long = length_part o 27 (27 + l) (omega arith) (omega arith) ∙ omega arith

  u-is : u ≡ take l (drop 27 o)
  unfolding u
  u-is = let n : 27 + l - 27 ≡ l = omega arith in part-is o 27 (27 + l) (omega arith) (omega arith) ∙ ap (λ (k : ℕ). take k (drop 27 o)) n

  -- the head, then what stood behind it
  o1-is : o1 ≡ hd ++ drop 27 o
  unfolding o1
  o1-is = let n : 0 + length hd ≡ 27 = omega (arith, long) in put-from o 0 hd (omega arith) ∙ ap (λ (k : ℕ). hd ++ drop k o) n

  behind : drop 27 o1 ≡ drop 27 o
  behind = ap (drop 27) o1-is ∙ drop_at hd (drop 27 o) 27 long

  -- bytes 3 to 27+L of the output are those that the sum takes in
  sealed : take (27 + l - 2) (drop 2 o1) ≡ drop 2 hd ++ u
  sealed =
      let n : 27 + l - 2 ≡ length (drop 2 hd) + l = omega (arith, length-drop 2 hd) in
      ap (λ (k : ℕ). take k (drop 2 o1)) n
      ∙ ap (λ (x : List ℕ). take (length (drop 2 hd) + l) (drop 2 x)) o1-is
      ∙ ap (take (length (drop 2 hd) + l)) (drop-append-le 2 hd (drop 27 o) (omega arith))
      ∙ take-append-add (drop 2 hd) (drop 27 o) l
      ∙ ap (λ (x : List ℕ). drop 2 hd ++ x) (sym u-is)

  sum_is : total (take 1049 (take (27 + l - 2) (drop 2 o1))) % 256 ≡ total (drop 2 hd ++ u) % 256
  sum_is =
      ap (λ (x : List ℕ). total x % 256)
      (ap (take 1049) sealed ∙ take_all 1049 (drop 2 hd ++ u) (omega (arith, length-append (drop 2 hd) u, length-drop 2 hd, u-long)))

  pub filled : (q r : List ℕ) (s : ℕ) → q ≡ put_at o 0 hd → s ≡ total (take 1049 (take (27 + l - 2) (drop 2 q))) % 256
      → r ≡ put_at q (27 + l) (s ∷ 35 ∷ 35 ∷ []) → r ≡ put_at o 0 (packet_bytes h (part o 27 (27 + l)))
  unfolding packet_bytes u o1
  filled q r s put summed last =
      let t : List ℕ = tail_bytes (drop 2 hd ++ u) in
      let stood : u ≡ take (length u) (drop 27 o1) = u-is ∙ ap (take l) (sym behind) ∙ ap (λ (n : ℕ). take n (drop 27 o1)) (sym u-long) in
      let right : s ≡ total (drop 2 hd ++ u) % 256 = summed ∙ ap (λ (x : List ℕ). total (take 1049 (take (27 + l - 2) (drop 2 x))) % 256) put ∙ sum_is in
      let at : 27 ≡ 0 + length hd = omega (arith, long) in
      let whole : head_bytes h (length u) ≡ hd = ap (head_bytes h) u-long ∙ sym head in
      last
      ∙ ap (λ (x : List ℕ). put_at x (27 + l) (s ∷ 35 ∷ 35 ∷ [])) put
      ∙ ap (λ (x : ℕ). put_at o1 (27 + l) (x ∷ 35 ∷ 35 ∷ [])) right
      ∙ ap (λ (x : List ℕ). put_at x (27 + l) t) (sym (put_same o1 27 u (omega (arith, u-long, length-put o 0 hd)) stood))
      ∙ ap (λ (n : ℕ). put_at (put_at o1 27 u) (27 + n) t) (sym u-long)
      ∙ put-put o1 27 u t (omega (arith, u-long, length-put o 0 hd))
      ∙ ap (λ (n : ℕ). put_at o1 n (u ++ t)) at
      ∙ put-put o 0 hd (u ++ t) (omega (arith, long, u-long, length-append u t))
      ∙ ap (λ (x : List ℕ). put_at o 0 (x ++ (u ++ tail_bytes (drop 2 x ++ u)))) (sym whole)
