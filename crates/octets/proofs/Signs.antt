-- The laws of a signed number of two bytes, and its round trips. By cases on the sign. Assumes nothing.
use Prim.Native.Nat.{ℕ, suc, ◌-◌, ◌≤◌, ◌<◌}
use native.Mathlib.Omega.{arith}
use mathlib.Core.Bool.{Bool, true, false}
use mathlib.Core.Path.{◌≡◌, refl, ap, ◌∙◌}
use borrow.Author.Tests.{lt-ltb, le-ltb, ltb-true, ltb-false}
use lib.Dec.{ltb}
use lib.IntN.{ℤ, pos, negsuc}
use mir.Syntax.{w16}
use mir.Val.{SFits}
use Rattle.octets.specs.Numbers.{signed_of, bits_of}

pub signed_low : (x : ℕ) → x < 32768 → signed_of x ≡ pos x
unfolding signed_of
signed_low x h = simp (lt-ltb x 32768 h)

pub signed_high : (x : ℕ) → 32768 ≤ x → x < 65536 → signed_of x ≡ negsuc (65535 - x)
unfolding signed_of
signed_high x l h = let e : 65536 - x ≡ suc (65535 - x) = omega arith in simp (le-ltb x 32768 l, e)

-- written and read back, read and written back
pub signed-bits : (z : ℤ) → SFits w16 z → signed_of (bits_of z) ≡ z
unfolding bits_of
signed-bits (pos x) f = signed_low x f.sfits
signed-bits (negsuc x) f =
    let h : x < 32768 = f.sfits in
    let e : 65535 - (65536 - suc x) ≡ x = omega arith in
    signed_high (65536 - suc x) (omega arith) (omega arith) ∙ ap negsuc e

pub bits-bound : (z : ℤ) → SFits w16 z → bits_of z < 65536
unfolding bits_of
bits-bound (pos x) f = let h : x < 32768 = f.sfits in omega arith
bits-bound (negsuc x) f = omega arith

pub bits-signed : (x : ℕ) → x < 65536 → bits_of (signed_of x) ≡ x
unfolding bits_of
bits-signed x h = by-half (ltb x 32768) refl
  where
    by-half : (t : Bool) → ltb x 32768 ≡ t → bits_of (signed_of x) ≡ x
    by-half true e = simp (signed_low x (ltb-true x 32768 e))
    by-half false e =
        let l : 32768 ≤ x = ltb-false x 32768 e in
        simp (signed_high x l h) (omega arith)
