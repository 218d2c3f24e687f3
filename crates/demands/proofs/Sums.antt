-- Document 02, Q-5, a sum one can read: add all, then drop what is above eight bits. Nothing is lost on the way, and every sum is release 1.6's. Assumes nothing.
use Prim.Native.Nat.{ℕ, ◌+◌, ◌%◌, ◌≤◌, ◌<◌}
use native.Mathlib.Omega.{arith}
use mathlib.Core.List.{List, [], ◌∷◌, ◌++◌}
use mathlib.Core.Path.{◌≡◌}
use lib.ListN.{take, drop}
use Rattle.octets.specs.Numbers.{Octets}
use Rattle.octets.specs.Sums.{total}
use Rattle.octets.proofs.Numbers.{octets-drop}
use Rattle.octets.proofs.Sums.{in_all, total-append}
use Rattle.demands.specs.Release16.{kept_from, kept_in16}

-- "At most 1,049 bytes of at most 255 are added, 267,495 in all": bytes 3 to 27+L of every packet
pub packet-in-all : (p : List ℕ) (l : ℕ) → Octets p → l ≤ 1024 → total (take (25 + l) (drop 2 p)) ≤ 267495
packet-in-all p l bytes h = in_all (25 + l) (drop 2 p) (octets-drop p 2 bytes) (omega arith)

kept_from_lem : (kept : ℕ) (s : List ℕ) → kept < 256 → kept_from kept s ≡ (kept + total s) % 256
unfolding kept_from total
kept_from_lem kept [] h = omega arith
kept_from_lem kept (b ∷ s) h = omega (arith, kept_from_lem ((kept + b) % 256) s (omega arith))

-- "The routine's promise and its callers stay": what drops at every byte comes to the same
pub sum-as-in-1-6 : (s : List ℕ) → kept_in16 s ≡ total s % 256
unfolding kept_in16
sum-as-in-1-6 s = omega (arith, kept_from_lem 0 s (omega arith))

-- so does the receiver's sum of a packet that lies in two rows, of which each was dropped by itself and then both
pub rows-as-in-1-6 : (a b : List ℕ) → (kept_in16 a + kept_in16 b) % 256 ≡ total (a ++ b) % 256
rows-as-in-1-6 a b = omega (arith, sum-as-in-1-6 a, sum-as-in-1-6 b, total-append a b)
