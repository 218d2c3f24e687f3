-- The laws of tests that are made entry by entry, and of the loop that makes them. By induction on the number of entries. Assumes nothing.
use Prim.Native.Nat.{ℕ, zero, suc, ◌+◌, ◌-◌, ◌≤◌, ◌<◌}
use native.Mathlib.Nat.{eq-or-lt_of_le}
use native.Mathlib.Numerals.{add-one}
use native.Mathlib.Omega.{arith}
use mathlib.Core.Bool.{true}
use mathlib.Core.List.{List, ◌++◌}
use mathlib.Core.Logic.{⊎_elim}
use mathlib.Core.Path.{◌≡◌, refl, ap, subst, ◌∙◌}
use Rattle.verdict.specs.Orders.{Test, in_order, good, Held, refusing}
use Rattle.verdict.proofs.Order.{joined, refusing-append, held-left, held-right, held-append}
use Rattle.devices.specs.Sections.{each_entry}

-- of a loop that has come to entry k of n: the tests of that entry, and then those behind it
pub turn : (f : ℕ → List Test) (k n : ℕ) → k < n → in_order (each_entry f k (n - k)) good ≡ in_order (f k) (in_order (each_entry f (k + 1) (n - (k + 1))) good)
unfolding each_entry
turn f k n h =
    let left : n - k ≡ suc (n - (k + 1)) = omega arith in
    let one : each_entry f k (n - k) ≡ f k ++ each_entry f (k + 1) (n - (k + 1)) = simp (left, add-one k) in
    ap (λ (ts : List Test). in_order ts good) one ∙ joined (f k) (each_entry f (k + 1) (n - (k + 1))) good

-- where each entry's tests refuse, all do
pub refusing-each : (f : ℕ → List Test) → ((k : ℕ) → refusing (f k) ≡ true) → (i n : ℕ) → refusing (each_entry f i n) ≡ true
unfolding each_entry
refusing-each f r i zero = refl
refusing-each f r i (suc n) = refusing-append (f i) (each_entry f (suc i) n) (r i) (refusing-each f r (suc i) n)

-- where all held, those of each entry did
pub held-each : (f : ℕ → List Test) (i n k : ℕ) → Held (each_entry f i n) → i ≤ k → k < i + n → Held (f k)
unfolding each_entry
held-each f i zero k h l b = absurd (omega arith)
held-each f i (suc n) k h l b =
    ⊎_elim
    (λ (e : i ≡ k). subst (λ (m : ℕ). Held (f m)) e (held-left (f i) (each_entry f (suc i) n) h))
    (λ (m : i < k). held-each f (suc i) n k (held-right (f i) (each_entry f (suc i) n) h) m (omega arith))
    (eq-or-lt_of_le l)

-- and where those of each entry hold, all do
pub each-held : (f : ℕ → List Test) (i n : ℕ) → ((k : ℕ) → i ≤ k → k < i + n → Held (f k)) → Held (each_entry f i n)
unfolding each_entry
each-held f i zero h = tt
each-held f i (suc n) h =
    held-append (f i) (each_entry f (suc i) n) (h i (omega arith) (omega arith)) (each-held f (suc i) n (λ k l m. h k (omega arith) (omega arith)))
