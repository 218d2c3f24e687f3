-- The cases of document 02's Q-5, a sum one can read, as rows of the one table of checked examples (Checked). Assumes nothing.
use Prim.Native.Nat.{ℕ, ◌%◌}
use mathlib.Core.List.{List, [], ◌∷◌, ◌++◌, map}
use mathlib.Core.Path.{◌≡◌, refl}
use lib.ListN.{take, drop, replicate}
use Rattle.frame.specs.Frame.{frame_tests, sum_of, unit_length, ended, summed}
use Rattle.octets.specs.Numbers.{low_first}
use Rattle.octets.specs.Sums.{total}
use Rattle.verdict.specs.Orders.{in_order, refusal, good}
use Rattle.verdict.specs.Refusals.{SUM}
use Rattle.demands.proofs.CheckedConfirms.{of}
use Rattle.demands.specs.Release16.{kept_from, kept_in16}

-- "`40 40`, 22 x FF, `00 04`, FF, then 1,024 x FF", under a sum, ended
abbrev largest : ℕ → List ℕ
largest sum = 0x40 ∷ 0x40 ∷ replicate 22 0xFF ++ (0x00 ∷ 0x04 ∷ 0xFF ∷ replicate 1024 0xFF ++ (sum ∷ 0x23 ∷ 0x23 ∷ []))

abbrev frame : List ℕ → List ℕ
frame p = of (in_order (frame_tests 1024 p) good)

abbrev most : List ℕ
most = replicate 1049 0xFF

abbrev pub checked-sums : List (List ℕ × List ℕ)
checked-sums =
    -- "the bytes 3 to 27+L add up to 266,989, sum ED"
    (total (take 1049 (drop 2 (largest 0xED))) ∷ sum_of 1024 (largest 0xED) ∷ [], 266989 ∷ 0xED ∷ [])
    ∷ (frame (largest 0xED), of good)
    ∷ (frame (largest 0xEE), of (refusal SUM 0))
    -- "1,049 x FF: 267,495, E7", as much as there can be
    ∷ (total most ∷ total most % 256 ∷ [], 267495 ∷ 0xE7 ∷ [])
    -- release 1.6's sums of both
    ∷ (kept_in16 (take 1049 (drop 2 (largest 0xED))) ∷ kept_in16 most ∷ [], 0xED ∷ 0xE7 ∷ [])
    ∷ []

pub sums-so : map (λ (e : List ℕ × List ℕ). e.0) checked-sums ≡ map (λ (e : List ℕ × List ℕ). e.1) checked-sums
unfolding total in_order unit_length low_first ended summed kept_from kept_in16
sums-so = refl
