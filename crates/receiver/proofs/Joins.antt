-- A run of noise that goes on from one row into the next. Assumes nothing.
use Prim.Native.Nat.{ℕ, zero, suc, ◌+◌, ◌-◌, ◌≤◌, ◌<◌, min}
use native.Mathlib.Omega.{arith}
use mathlib.Core.Bool.{Bool, true, false, not, ◌&&◌, ◌||◌, cond, and-eq-true_iff, false≢true}
use mathlib.Core.List.{List, [], ◌∷◌, ◌++◌}
use mathlib.Core.Path.{◌≡◌, refl, sym, ap, ◌∙◌}
use borrow.Author.Rules.{rules}
use borrow.Author.Tests.{eqb-true, eq-eqb, ltb-true, ltb-false}
use lib.Dec.{eqb, ltb}
use lib.ListN.{length, drop, length-drop, drop_of_length-le}
use Rattle.rows.specs.Runs.{starts_other, noise_run}
use Rattle.rows.proofs.Noises.{noise-long}
use Rattle.receiver.specs.Runs.{crossing}
use Rattle.receiver.proofs.Finds.{run-left, no-noise}

other-over : (a b : List ℕ) → starts_other a ≡ true → starts_other (a ++ b) ≡ true
other-over [] b o = absurd (false≢true o)
other-over (y ∷ a) b o = o

-- a run goes on behind a part of it, whatever follows
noise-over : (n : ℕ) (a b : List ℕ) → n ≤ noise_run a → noise_run (a ++ b) ≡ n + noise_run (drop n a ++ b)
unfolding noise_run
noise-over zero a b h = omega arith
noise-over (suc n) [] b h = absurd (omega arith)
noise-over (suc n) (x ∷ a) b h = by-test (eqb x 64) (starts_other a) refl h (noise-over n a b)
  where
    by-test : (t u : Bool) → starts_other a ≡ u → suc n ≤ cond (not t || u) (suc (noise_run a)) 0
        → (n ≤ noise_run a → noise_run (a ++ b) ≡ n + noise_run (drop n a ++ b))
        → cond (not t || starts_other (a ++ b)) (suc (noise_run (a ++ b))) 0 ≡ suc n + noise_run (drop n a ++ b)
    by-test false u e h ih = omega (arith, ih (omega arith))
    by-test true true e h ih = rw (other-over a b e) (omega (arith, ih (omega arith)))
    by-test true false e h ih = absurd (omega arith)

module _ (s n : ℕ) (a b : List ℕ) (run : n ≡ min (65534 - s) (noise_run a)) where
  over : noise_run (a ++ b) ≡ n + noise_run (drop n a ++ b)
  over = noise-over n a b (omega arith)

  -- all of the first row is noise
  pub joins-all : (r m : ℕ) → length a - n ≡ 0 → r ≡ n + m → m ≡ min (65534 - (s + n)) (noise_run b) → r ≡ min (65534 - s) (noise_run (a ++ b))
  joins-all r m e q t =
      let past : length a ≤ n = omega arith in
      omega (arith, over, ap (λ (l : List ℕ). noise_run (l ++ b)) (drop_of_length-le a past))

  module _ (t : Bool) (told : t ≡ crossing (length a - n) b (s + n)) where
    -- its last byte is skipped by what follows it
    pub joins-crossing : (r m : ℕ) → t ≡ true → r ≡ n + 1 + m → m ≡ min (65533 - (s + n)) (noise_run b) → r ≡ min (65534 - s) (noise_run (a ++ b))
    unfolding crossing noise_run
    joins-crossing r m f q e =
        let both = (and-eq-true_iff (eqb (length a - n) 1 && ltb (s + n) 65534) (starts_other b)).0 (sym told ∙ f) in
        let tests = (and-eq-true_iff (eqb (length a - n) 1) (ltb (s + n) 65534)).0 both.0 in
        omega
        (arith, over, by-rest (drop n a) (omega (arith, length-drop n a, eqb-true (length a - n) 1 tests.0)) both.1, ltb-true (s + n) 65534 tests.1)
      where
        by-test : (u : Bool) → cond (u || true) (suc (noise_run b)) 0 ≡ suc (noise_run b)
        by-test true = refl
        by-test false = refl

        by-rest : (xs : List ℕ) → length xs ≡ 1 → starts_other b ≡ true → noise_run (xs ++ b) ≡ suc (noise_run b)
        by-rest [] l o = absurd (omega arith)
        by-rest (x ∷ []) l o = rw o (by-test (not (eqb x 64)))
        by-rest (x ∷ y ∷ xs) l o = absurd (omega arith)

    -- neither
    pub joins-none : (r : ℕ) → t ≡ false → (length a - n ≡ 0 → ⊥) → r ≡ n → r ≡ min (65534 - s) (noise_run (a ++ b))
    unfolding crossing noise_run
    joins-none r f left q = by_count (ltb (s + n) 65534) refl
      where
        size : length (drop n a) ≡ length a - n
        size = length-drop n a

        ends : (xs : List ℕ) → noise_run xs ≡ 0 → (length xs ≡ 0 → ⊥) → (length xs ≡ 1 → starts_other b ≡ false) → noise_run (xs ++ b) ≡ 0
        ends [] z none one = absurd (none refl)
        ends (x ∷ []) z none one = rw ((no-noise x [] z).0, one refl) refl
        ends (x ∷ y ∷ xs) z none one = rw ((no-noise x (y ∷ xs) z).0, (no-noise x (y ∷ xs) z).1) refl

        by_count : (u : Bool) → ltb (s + n) 65534 ≡ u → r ≡ min (65534 - s) (noise_run (a ++ b))
        by_count true e =
            let lower : s + n < 65534 = ltb-true (s + n) 65534 e in
            let nothing : noise_run (drop n a ++ b) ≡ 0 =
            ends (drop n a) (omega (arith, run-left n a (omega arith))) (λ z. left (omega (arith, size)))
            (λ z. let one : length a - n ≡ 1 = omega (arith, size) in simp (eq-eqb (length a - n) 1 one, e) at (sym told ∙ f)) in
            omega (arith, over)
        by_count false e = omega (arith, over, ltb-false (s + n) 65534 e)

-- a byte that is skipped so does not fill the count
pub crossing-low : (left count : ℕ) (b : List ℕ) (t : Bool) → t ≡ crossing left b count → t ≡ true → count < 65534
unfolding crossing
crossing-low left count b t e f =
    let both = (and-eq-true_iff (eqb left 1 && ltb count 65534) (starts_other b)).0 (sym e ∙ f) in
    ltb-true count 65534 ((and-eq-true_iff (eqb left 1) (ltb count 65534)).0 both.0).1

-- a run lies in its row
pub run-inside : (most n : ℕ) (a : List ℕ) → n ≡ min most (noise_run a) → n ≤ length a
run-inside most n a e = omega (arith, noise-long a)

pub ruleset joining = (rules, joins-all, joins-crossing, joins-none, crossing-low, run-inside)
