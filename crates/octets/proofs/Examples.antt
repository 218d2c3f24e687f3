-- Bytes of document 01's examples, by computation. Assumes nothing.
use Prim.Native.Nat.{ℕ}
use mathlib.Core.Path.{◌≡◌, refl}
use mathlib.Core.List.{List, [], ◌∷◌, map}
use lib.IntN.{pos, negsuc}
use Rattle.octets.specs.Numbers.{low_first, bytes_of, signed_of, bits_of}

-- packet A
abbrev pub A : List ℕ
A =
    0x40 ∷ 0x40 ∷ 0x05 ∷ 0x00 ∷ 0x01 ∷ 0x00 ∷ 0x00 ∷ 0x1E ∷ 0x08 ∷ 0x0F ∷ 0x06 ∷ 0x18 ∷ 0x01 ∷ 0x00 ∷ 0x00
    ∷ 0x00 ∷ 0x00 ∷ 0x00 ∷ 0x00 ∷ 0x00 ∷ 0x00 ∷ 0x00 ∷ 0x00 ∷ 0x00 ∷ 0x00 ∷ 0x00 ∷ 0x03 ∷ 0x5D ∷ 0x23 ∷ 0x23 ∷ []

-- L 1,024 and 1,025 as they stand on the line; a part address of four bytes
pub read : map low_first ((0 ∷ 4 ∷ []) ∷ (1 ∷ 4 ∷ []) ∷ (0 ∷ 1 ∷ 0 ∷ 0 ∷ []) ∷ (255 ∷ 255 ∷ 255 ∷ 255 ∷ []) ∷ []) ≡ 1024 ∷ 1025 ∷ 256 ∷ 4294967295 ∷ []
unfolding low_first
read = refl

pub written : map (bytes_of 2) (1024 ∷ 5 ∷ 65535 ∷ []) ≡ (0 ∷ 4 ∷ []) ∷ (5 ∷ 0 ∷ []) ∷ (255 ∷ 255 ∷ []) ∷ []
unfolding bytes_of
written = refl

-- "-32 768 ~ +32 767" (001, 8.2.1.3)
pub signed : map signed_of (0 ∷ 32767 ∷ 32768 ∷ 65535 ∷ []) ≡ pos 0 ∷ pos 32767 ∷ negsuc 32767 ∷ negsuc 0 ∷ []
unfolding signed_of
signed = refl

pub unsigned : map bits_of (pos 0 ∷ pos 32767 ∷ negsuc 32767 ∷ negsuc 0 ∷ []) ≡ 0 ∷ 32767 ∷ 32768 ∷ 65535 ∷ []
unfolding bits_of
unsigned = refl
