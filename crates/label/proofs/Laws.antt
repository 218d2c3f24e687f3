-- The laws of a label: its two round trips, and that it is its six bytes. Assumes nothing.
use Prim.Native.Nat.{ℕ, ◌≤◌, ◌<◌}
use native.Mathlib.Omega.{arith}
use mathlib.Core.Path.{◌≡◌, refl, ◌∙◌}
use mathlib.Core.List.{List, ◌++◌}
use lib.Dec.{lit<}
use lib.ListN.{length, get_or, take, drop}
use lib.Seq.{take_all, get_or-take}
use Rattle.octets.proofs.Parts.{one_by_one_lem}
use Rattle.label.specs.declared.Label.{Label}
use Rattle.label.specs.Times.{label_of, label_bytes}

-- a label whose six numbers are those that stand in a row is the row's label
pub same : (s : List ℕ) (l : Label) → l.second ≡ get_or s 0 0 → l.minute ≡ get_or s 1 0 → l.hour ≡ get_or s 2 0 → l.day ≡ get_or s 3 0
    → l.month ≡ get_or s 4 0 → l.year ≡ get_or s 5 0 → l ≡ label_of s
same s l a b c d e f = λ i. record { second = a i; minute = b i; hour = c i; day = d i; month = e i; year = f i }

-- written and read back: the same label
pub bytes-label : (l : Label) (rest : List ℕ) → label_of (label_bytes l ++ rest) ≡ l
bytes-label l rest = refl

-- read and written back: the same six bytes
pub label_bytes_lem : (s : List ℕ) → length s ≡ 6 → label_bytes (label_of s) ≡ s
label_bytes_lem s h = one_by_one_lem s 0 6 (omega arith) ∙ take_all 6 s (omega arith)

-- a label is its six bytes, wherever they stand
pub label_same : (s t : List ℕ) → ((i : ℕ) → i < 6 → get_or s i 0 ≡ get_or t i 0) → label_of s ≡ label_of t
label_same s t h = same t (label_of s) (h 0 (lit< tt)) (h 1 (lit< tt)) (h 2 (lit< tt)) (h 3 (lit< tt)) (h 4 (lit< tt)) (h 5 (lit< tt))

-- and is read from them alone
pub label-alone : (s : List ℕ) (at n : ℕ) → 6 ≤ n → label_of (take n (drop at s)) ≡ label_of (drop at s)
label-alone s at n h = label_same (take n (drop at s)) (drop at s) (λ i l. get_or-take n (drop at s) i 0 (omega arith))
