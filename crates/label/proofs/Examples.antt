-- The ranges of a label and its readings, by computation. Assumes nothing.
use Prim.Native.Nat.{ℕ}
use mathlib.Core.Path.{◌≡◌, refl}
use mathlib.Core.List.{List, [], ◌∷◌, map}
use Rattle.label.specs.declared.Judgement.{Judgement}
use Rattle.label.specs.declared.Judgement.TheVariants.{Time, NoTime, Bad}
use Rattle.label.specs.Times.{label_of, judged, in_ranges}

-- a label's bytes, and its judgement
abbrev pub cases : List (List ℕ × Judgement)
cases =
    -- the label of packet A, 8:30 on 15 June 2024
    (0 ∷ 30 ∷ 8 ∷ 15 ∷ 6 ∷ 24 ∷ [], Time)
    -- the last day, and one past each end
    ∷ (0 ∷ 30 ∷ 8 ∷ 31 ∷ 6 ∷ 24 ∷ [], Time)
    ∷ (0 ∷ 30 ∷ 8 ∷ 0 ∷ 6 ∷ 24 ∷ [], Bad)
    ∷ (0 ∷ 30 ∷ 8 ∷ 32 ∷ 6 ∷ 24 ∷ [], Bad)
    -- each byte alone: 31 February is good
    ∷ (0 ∷ 0 ∷ 0 ∷ 31 ∷ 2 ∷ 0 ∷ [], Time)
    -- the ends of each other range, and one past each
    ∷ (0 ∷ 0 ∷ 0 ∷ 1 ∷ 1 ∷ 0 ∷ [], Time)
    ∷ (59 ∷ 59 ∷ 23 ∷ 31 ∷ 12 ∷ 99 ∷ [], Time)
    ∷ (60 ∷ 59 ∷ 23 ∷ 31 ∷ 12 ∷ 99 ∷ [], Bad)
    ∷ (59 ∷ 60 ∷ 23 ∷ 31 ∷ 12 ∷ 99 ∷ [], Bad)
    ∷ (59 ∷ 59 ∷ 24 ∷ 31 ∷ 12 ∷ 99 ∷ [], Bad)
    ∷ (59 ∷ 59 ∷ 23 ∷ 31 ∷ 13 ∷ 99 ∷ [], Bad)
    ∷ (59 ∷ 59 ∷ 23 ∷ 31 ∷ 0 ∷ 99 ∷ [], Bad)
    ∷ (59 ∷ 59 ∷ 23 ∷ 31 ∷ 12 ∷ 100 ∷ [], Bad)
    -- six zeros are no time, "A day of 0 with any other byte above 0 stays TIME"
    ∷ (0 ∷ 0 ∷ 0 ∷ 0 ∷ 0 ∷ 0 ∷ [], NoTime)
    ∷ (0 ∷ 0 ∷ 0 ∷ 0 ∷ 1 ∷ 0 ∷ [], Bad)
    ∷ (0 ∷ 0 ∷ 0 ∷ 0 ∷ 0 ∷ 0x18 ∷ [], Bad)
    ∷ (0 ∷ 0 ∷ 0 ∷ 1 ∷ 0 ∷ 0 ∷ [], Bad)
    ∷ (1 ∷ 0 ∷ 0 ∷ 0 ∷ 0 ∷ 0 ∷ [], Bad)
    ∷ []

pub examples : map (λ (e : List ℕ × Judgement). judged (label_of e.0)) cases ≡ map (λ (e : List ℕ × Judgement). e.1) cases
unfolding judged in_ranges
examples = refl
