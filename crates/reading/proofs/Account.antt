-- Each byte of a stream is accounted for once: in a packet, as the first byte of a refused start, as skipped, or still held.
-- By induction on the stream. Assumes nothing.
use Prim.Native.Nat.{ℕ, zero, suc, ◌+◌, ◌-◌, ◌≤◌}
use native.Mathlib.Omega.{arith}
use mathlib.Core.Bool.{Bool, true, false, cond}
use mathlib.Core.List.{List, [], ◌∷◌}
use mathlib.Core.Path.{◌≡◌, refl}
use borrow.Author.Tests.{eqb-true}
use lib.Dec.{eqb}
use lib.ListN.{length}
use Rattle.reading.specs.Events.Event.{Noise}
use Rattle.reading.specs.Events.{Standing}
use Rattle.reading.specs.Events.Standing.{Wait, Skip, Hit}
use Rattle.reading.specs.Values.{start_byte}
use Rattle.reading.specs.Standing.{stands}
use Rattle.reading.specs.Finding.{noise_at, after, read_on, reading}
use Rattle.reading.specs.Offers.{counted_all, accounted}
use Rattle.reading.proofs.Worths.{worth-is}
use Rattle.reading.proofs.Stands.{Bounds, bounds}

-- with s skipped before and k bytes still to pass
pub accounts : (M s k : ℕ) (xs : List ℕ) → k ≤ length xs → accounted (reading M s k xs) + k ≡ s + length xs
unfolding reading read_on counted_all start_byte
accounts M s zero [] h = omega arith
accounts M s (suc k) [] h = absurd (omega arith)
accounts M s (suc k) (x ∷ xs) h = omega (arith, accounts M s k xs (omega arith))
accounts M s zero (x ∷ xs) h = by-case (stands M (x ∷ xs)) (bounds M (x ∷ xs)) (λ t j. accounts M t j xs)
  where
    by-test : (k : ℕ) (t : Bool) → eqb (suc s) noise_at ≡ t → ((t j : ℕ) → j ≤ length xs → accounted (reading M t j xs) + j ≡ t + length xs)
        → accounted (cond t (after (record { event = Noise; skipped = noise_at; packet = [] }) (reading M 0 0 xs)) (reading M (suc s) 0 xs)) + 0 ≡ s + suc (length xs)
    by-test k true e ih = omega (arith, eqb-true (suc s) noise_at e, ih 0 0 (omega arith))
    by-test k false e ih = omega (arith, ih (suc s) 0 (omega arith))

    by-case : (v : Standing) → Bounds M (x ∷ xs) v → ((t j : ℕ) → j ≤ length xs → accounted (reading M t j xs) + j ≡ t + length xs)
        → accounted (read_on v s (x ∷ xs) (λ t j. reading M t j xs)) + 0 ≡ s + suc (length xs)
    by-case Wait b ih = omega arith
    by-case (Skip k) b ih = by-test k (eqb (suc s) noise_at) refl ih
    by-case (Hit e k p) b ih = omega (arith, worth-is e (x ∷ xs) (omega arith), ih 0 (p - 1) (omega arith))
