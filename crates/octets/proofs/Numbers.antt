-- The laws of numbers as bytes: how a number is read byte by byte, and the round trips. By induction on the bytes.
-- Assumes nothing.
use Prim.Native.Nat.{ℕ, zero, suc, ◌+◌, ◌*◌, ◌/◌, ◌%◌, ◌^◌, ◌≤◌, ◌<◌}
use native.Mathlib.Nat.{pow-suc}
use native.Mathlib.Numerals.{add-one, add-two}
use native.Mathlib.Omega.{arith}
use mathlib.Core.Path.{◌≡◌, refl, sym, ap, subst, ◌∙◌}
use mathlib.Core.List.{List, [], ◌∷◌}
use lib.ListN.{length, get_or, take, drop}
use lib.Seq.{take-nil, drop-cons, get_or-drop}
use Rattle.std.specs.Int.{w16, w32, from_le_bytes}
use Rattle.octets.specs.Numbers.{Octets, low_first, bytes_of}
use Rattle.octets.specs.Parts.{one_by_one}

-- a number of one byte more: the byte at its place and 256 times what follows
pub low_step : (s : List ℕ) (at n : ℕ) → low_first (take (suc n) (drop at s)) ≡ get_or s at 0 + 256 * low_first (take n (drop (suc at) s))
unfolding low_first
low_step [] zero n = simp (take-nil {A = ℕ})
low_step [] (suc at) n = simp (take-nil {A = ℕ})
low_step (b ∷ s) zero n = refl
low_step (b ∷ s) (suc at) n = low_step s at n

pub low-two : (s : List ℕ) (at : ℕ) → low_first (take 2 (drop at s)) ≡ get_or s at 0 + 256 * get_or s (at + 1) 0
unfolding low_first
low-two s at = rw (add-one at) (omega (arith, low_step s at 1, low_step s (suc at) 0))

pub low-four : (s : List ℕ) (at : ℕ) → low_first (take 4 (drop at s)) ≡ low_first (take 2 (drop at s)) + 65536 * low_first (take 2 (drop (at + 2) s))
unfolding low_first
low-four s at =
    rw (add-two at)
    (omega
    (arith, low_step s at 3, low_step s (suc at) 2, low_step s at 1, low_step s (suc at) 0))

-- the same of the bytes read one by one
pub low_read : (s : List ℕ) (at n : ℕ) → low_first (take n (drop at s)) ≡ low_first (one_by_one s at n)
unfolding low_first
low_read s at zero = refl
low_read s at (suc n) = low_step s at n ∙ ap (λ (r : ℕ). get_or s at 0 + 256 * r) (low_read s (suc at) n)

-- and as std reads two of them, or four, low byte first
pub two_read : (s : List ℕ) (at : ℕ) (b : List ℕ) → b ≡ one_by_one s at 2 → from_le_bytes w16 b ≡ low_first (take 2 (drop at s))
unfolding low_first
two_read s at b e = ap (from_le_bytes w16) e ∙ omega arith ∙ sym (low_read s at 2)

pub four_read : (s : List ℕ) (at : ℕ) (b : List ℕ) → b ≡ one_by_one s at 4 → from_le_bytes w32 b ≡ low_first (take 4 (drop at s))
unfolding low_first
four_read s at b e = ap (from_le_bytes w32) e ∙ omega arith ∙ sym (low_read s at 4)

-- the bytes that stand for a number are so many, and bytes
pub length-bytes : (n x : ℕ) → length (bytes_of n x) ≡ n
unfolding bytes_of
length-bytes zero x = refl
length-bytes (suc n) x = ap suc (length-bytes n _)

pub octets-bytes : (n x : ℕ) → Octets (bytes_of n x)
unfolding bytes_of
octets-bytes zero x i = omega arith
octets-bytes (suc n) x zero = omega arith
octets-bytes (suc n) x (suc i) = octets-bytes n _ i

octets-take : (n : ℕ) (s : List ℕ) → Octets s → Octets (take n s)
octets-take zero s h i = omega arith
octets-take (suc n) [] h i = h i
octets-take (suc n) (b ∷ s) h zero = h zero
octets-take (suc n) (b ∷ s) h (suc i) = octets-take n s (λ j. h (suc j)) i

pub octets-drop : (s : List ℕ) (at : ℕ) → Octets s → Octets (drop at s)
octets-drop s at h i = subst (λ (b : ℕ). b < 256) (sym (get_or-drop at s i 0)) (h (at + i))

-- a part of a row of bytes is one too
pub octets-part : (s : List ℕ) (at n : ℕ) → Octets s → Octets (take n (drop at s))
octets-part s at n h = octets-take n (drop at s) (octets-drop s at h)

-- written and read back: the same number
pub bytes_low : (n x : ℕ) → x < 256 ^ n → low_first (bytes_of n x) ≡ x
unfolding bytes_of low_first
bytes_low zero x h = omega arith
bytes_low (suc n) x h = omega (arith, bytes_low n (x / 256) (below n x h))
  where
    below : (n x : ℕ) → x < 256 ^ suc n → x / 256 < 256 ^ n
    below n x h = omega (arith, pow-suc 256 n)

-- read and written back: the same bytes
pub low-bytes : (s : List ℕ) → Octets s → bytes_of (length s) (low_first s) ≡ s
unfolding bytes_of low_first
low-bytes [] h = refl
low-bytes (b ∷ s) h =
    let here : b < 256 = h 0 in
    let low : (b + 256 * low_first s) % 256 ≡ b = omega arith in
    let rest : (b + 256 * low_first s) / 256 ≡ low_first s = omega arith in
    simp (low, rest) (ap (λ (t : List ℕ). b ∷ t) (low-bytes s (λ i. h (suc i))))

-- a number of n bytes of a row is below 256 ^ n, and its bytes are those of the row
pub low-bound : (s : List ℕ) (at n : ℕ) → Octets s → low_first (take n (drop at s)) < 256 ^ n
unfolding low_first
low-bound s at zero h = omega arith
low-bound s at (suc n) h = omega (arith, low_step s at n, low-bound s (suc at) n h, h at, pow-suc 256 n)

pub part_bytes : (s : List ℕ) (at n : ℕ) → Octets s → at + n ≤ length s → bytes_of n (low_first (take n (drop at s))) ≡ take n (drop at s)
unfolding bytes_of low_first
part_bytes s at zero h fits = refl
part_bytes s at (suc n) h fits =
    let b : ℕ = get_or s at 0 in
    let rest : ℕ = low_first (take n (drop (suc at) s)) in
    let here : b < 256 = h at in
    let low : (b + 256 * rest) % 256 ≡ b = omega arith in
    let high : (b + 256 * rest) / 256 ≡ rest = omega arith in
    rw (drop-cons s at 0 (omega arith))
    (simp (low, high) (ap (λ (t : List ℕ). b ∷ t) (part_bytes s (suc at) n h (omega arith))))
