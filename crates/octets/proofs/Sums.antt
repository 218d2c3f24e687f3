-- The laws of the sum: two rows one after the other, the bound of what is added, and that it is std's sum. Assumes nothing.
use Prim.Native.Nat.{ℕ, zero, suc, ◌+◌, ◌*◌, ◌^◌, ◌≤◌, min}
use native.Mathlib.Omega.{arith}
use mathlib.Core.Path.{◌≡◌, refl, sym, subst, ap, ◌∙◌}
use mathlib.Core.List.{List, [], ◌∷◌, ◌++◌, map, map-id}
use lib.Dec.{T, ltb}
use lib.ListN.{length, take}
use lib.Seq.{take_all}
use mir.Syntax.{Width}
use mir.Val.{Fits, bits}
use mir.Facts.{Fits-below}
use Rattle.std.specs.Iterator.{Yields, AlwaysYields}
use Rattle.std.specs.Iterator.Runs.{EachRunFrom, YieldsRun}
use Rattle.std.specs.List.{fold}
use Rattle.std.specs.Prelude.{Option}
use Rattle.std.proofs.Common.{sum}
use Rattle.std.proofs.lemmas.Iterator.{YieldsList}
use Rattle.std.proofs.lemmas.List.{take_min}
use Rattle.std.proofs.lemmas.List.Recursion.{is_sum_by}
use Rattle.octets.specs.Numbers.{Octets}
use Rattle.octets.specs.Sums.{total}

pub total-append : (s t : List ℕ) → total (s ++ t) ≡ total s + total t
unfolding total
total-append [] t = omega arith
total-append (b ∷ s) t = omega (arith, total-append s t)

-- so many bytes of at most 255
pub most : (n : ℕ) (s : List ℕ) → Octets s → total (take n s) ≤ 255 * n
unfolding total
most zero s bytes = omega arith
most (suc n) [] bytes = omega arith
most (suc n) (b ∷ s) bytes = omega (arith, bytes 0, most n s (λ i. bytes (suc i)))

-- Document 02, Q-5: "At most 1,049 bytes of at most 255 are added, 267,495 in all."
pub in_all : (n : ℕ) (s : List ℕ) → Octets s → n ≤ 1049 → total (take n s) ≤ 267495
in_all n s bytes h = omega (arith, most n s bytes)

-- at most 1,049 of them
pub of_few : (s : List ℕ) (r : ℕ) → Octets s → length s ≤ 1049 → r ≡ total s → r ≤ 267495
of_few s r bytes few e = omega (arith, e, in_all 1049 s bytes (omega arith), ap total (take_all 1049 s few))

-- what is added of the bytes before a place, within the bound
pub record Added (s : List ℕ) (sum i : ℕ) : Type 0 where
  pub there : i ≤ length s
  pub same : sum ≡ total (take i s)
  pub bound : sum ≤ 267495

-- nothing is lost on the way in a number that is wide enough for all
pub wide_enough : {w : Width} {s : List ℕ} {sum i : ℕ} → Added s sum i → T (ltb 267495 (2 ^ bits w)) → Fits w sum
wide_enough a wide = Fits-below wide a.bound

-- on the way is every place of so few bytes
pub on-the-way : (s : List ℕ) (i : ℕ) → Octets s → length s ≤ 1049 → i ≤ length s → Added s (total (take i s)) i
on-the-way s i bytes few h = record { there = h; same = refl; bound = in_all i s bytes (omega arith) }

-- a row cut at so many bytes, where it has more
pub take_least : (s : List ℕ) (n : ℕ) → take (min (length s) n) s ≡ take n s
take_least s n = let e : min (length s) n ≡ min n (length s) = omega arith in ap (λ (m : ℕ). take m s) e ∙ take_min n s

-- the definition's sum is std's
pub total_is_sum : (s : List ℕ) → total s ≡ sum s
unfolding total
total_is_sum s = is_sum_by total (λ x. x) refl (λ _ _. refl) s

-- of the items that are to come, those that came are the first
first-came : {S : Type 0} (steps : S → Option ℕ → S → Type 0) (items s : List ℕ) (it now : S) → AlwaysYields steps (λ b. b) it s → Yields steps it items now
    → (length items ≤ length s) × (take (length items) s ≡ items)
first-came steps [] s it now all came = (omega arith, refl)
first-came steps (b ∷ items) [] it now all came = absurd (all b came.0 came.1)
first-came steps (b ∷ items) (c ∷ s) it now all came =
    let here = all.1 b came.0 came.1 in
    let later = first-came steps items s came.0 now here.1 came.2 in
    (omega (arith, later.0), λ i. sym here.0 i ∷ later.1 i)

-- std's sum adds the items as they come, and asks that what it has added fits after each: that is on the way, at their number
pub along : {S : Type 0} {steps : S → Option ℕ → S → Type 0} (s : List ℕ) (it : S) → Octets s → length s ≤ 1049 → YieldsList steps (λ b. b) it (map (λ b. b) s)
    → EachRunFrom steps it (λ p. Added s (fold (λ a b. a + b) 0 p.items) (length p.items))
unfolding YieldsRun
along {steps = steps} s it bytes few road = λ p _ at.
    let all : AlwaysYields steps (λ b. b) it s = subst (AlwaysYields steps (λ b. b) it) (map-id s) road.runs in
    let first = first-came steps p.items s it p.gave.0.0 all (subst (λ u. Yields steps u p.items p.gave.0.0) at p.gave.0.1) in
    let same : total (take (length p.items) s) ≡ fold (λ a b. a + b) 0 p.items = ap total first.1 ∙ total_is_sum p.items in
    subst (λ n. Added s n (length p.items)) same (on-the-way s (length p.items) bytes few first.0)
