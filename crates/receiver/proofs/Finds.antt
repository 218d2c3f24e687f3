-- What is found first, behind a run of noise. Assumes nothing.
use Prim.Native.Nat.{ℕ, zero, suc, ◌+◌, ◌-◌, ◌≤◌, ◌<◌, min}
use native.Mathlib.Omega.{arith}
use mathlib.Core.Bool.{Bool, true, false, not, ◌||◌, cond, true≢false, false≢true}
use mathlib.Core.List.{List, [], ◌∷◌}
use mathlib.Core.Logic.{◌⊎◌, inl, inr, ⊎_elim}
use mathlib.Core.Path.{◌≡◌, refl, sym, ap, ◌∙◌}
use borrow.Author.Tests.{eq-eqb, ne_eqb, ltb-true, ltb-false, le-leb, not-true, not-false}
use lib.Dec.{leb, ltb, eqb}
use lib.ListN.{length, get_or, drop}
use Rattle.reading.specs.Events.{Standing, Step}
use Rattle.reading.specs.Events.Standing.{Wait, Skip, Hit}
use Rattle.frame.specs.Frame.{unit_length, ended, summed}
use Rattle.reading.specs.Standing.{when_there, judged_frame, started, stands}
use Rattle.reading.specs.Finding.{noise_at, onward, noise, found, first}
use Rattle.reading.proofs.Stands.{nothing-waits, not_there}
use Rattle.rows.specs.Runs.{starts_other, noise_run}
use Rattle.receiver.specs.Runs.{ahead, settled}

ahead-zero : (f : Step) → ahead 0 f ≡ f
unfolding ahead
ahead-zero f =
    let p : 0 + f.at ≡ f.at = omega arith in
    let q : 0 + f.looked ≡ f.looked = omega arith in
    let r : 0 + f.next ≡ f.next = omega arith in
    λ i. record { event = f.event; carried = f.carried; at = p i; looked = q i; next = r i; count = f.count }

ahead-onward : (n : ℕ) (f : Step) → onward (ahead n f) ≡ ahead (suc n) f
unfolding ahead onward
ahead-onward n f =
    let p : suc (n + f.at) ≡ suc n + f.at = omega arith in
    let q : suc (n + f.looked) ≡ suc n + f.looked = omega arith in
    let r : suc (n + f.next) ≡ suc n + f.next = omega arith in
    λ i. record { event = f.event; carried = f.carried; at = p i; looked = q i; next = r i; count = f.count }

-- a skip
abbrev is_skip : Standing → Bool
is_skip Wait = false
is_skip (Skip k) = true
is_skip (Hit e k p) = false

there-calm : (n : ℕ) (xs : List ℕ) (v : Standing) → is_skip v ≡ false → is_skip (when_there n xs v) ≡ false
unfolding when_there
there-calm n xs v h = by-test (leb n (length xs))
  where
    by-test : (t : Bool) → is_skip (cond t v Wait) ≡ false
    by-test true = h
    by-test false = refl

choice-calm : (t : Bool) (v w : Standing) → is_skip v ≡ false → is_skip w ≡ false → is_skip (cond t v w) ≡ false
choice-calm true v w h k = h
choice-calm false v w h k = k

-- a start is no skip
started-calm : (M : ℕ) (xs : List ℕ) → is_skip (started M xs) ≡ false
unfolding started judged_frame
started-calm M xs =
    there-calm 26 xs _
    (choice-calm (leb (unit_length xs) M) _ _
    (there-calm (30 + unit_length xs) xs _
    (choice-calm (ended (unit_length xs) xs) _ _ (choice-calm (summed (unit_length xs) xs) _ _ refl refl) refl))
    refl)

-- where nothing is skipped, or the skip makes NOISE
first-settled : (M c : ℕ) (xs : List ℕ) → (is_skip (stands M xs) ≡ false) ⊎ (suc c ≡ noise_at) → first M c xs ≡ settled (stands M xs) c (length xs)
unfolding first found settled
first-settled M c [] w = ap (λ (v : Standing). settled v c 0) (sym (nothing-waits M))
first-settled M c (x ∷ xs) w = by-case (stands M (x ∷ xs)) w
  where
    full : (k : ℕ) → suc c ≡ noise_at → cond (eqb (suc c) noise_at) (noise k) (onward (first M (suc c) xs)) ≡ noise k
    full k e = rw (eq-eqb (suc c) noise_at e) refl

    by-case : (v : Standing) → (is_skip v ≡ false) ⊎ (suc c ≡ noise_at) → found v c (length (x ∷ xs)) (first M (suc c) xs) ≡ settled v c (length (x ∷ xs))
    by-case Wait w = refl
    by-case (Skip k) w = ⊎_elim (λ (e : true ≡ false). absurd (true≢false e)) (full k) w
    by-case (Hit e k p) w = refl

-- a byte of noise is skipped
skips : (M x : ℕ) (xs : List ℕ) → not (eqb x 64) || starts_other xs ≡ true → (k : ℕ) × (stands M (x ∷ xs) ≡ Skip k)
unfolding stands when_there
skips M x xs o = by-test (eqb x 64) refl o
  where
    one : leb 1 (suc (length xs)) ≡ true
    one = le-leb 1 (suc (length xs)) (omega arith)

    by_next : (zs : List ℕ) → starts_other zs ≡ true → eqb x 64 ≡ true → stands M (x ∷ zs) ≡ Skip 2
    by_next [] o e = absurd (false≢true o)
    by_next (z ∷ zs) o e =
        let here : leb 1 (suc (suc (length zs))) ≡ true = le-leb 1 (suc (suc (length zs))) (omega arith) in
        let two : leb 2 (suc (suc (length zs))) ≡ true = le-leb 2 (suc (suc (length zs))) (omega arith) in
        rw (here, e, two, not-true (eqb z 64) o) refl

    by-test : (t : Bool) → eqb x 64 ≡ t → not t || starts_other xs ≡ true → (k : ℕ) × (stands M (x ∷ xs) ≡ Skip k)
    by-test true e o = (2, by_next xs o e)
    by-test false e o = (1, rw (one, e) refl)

-- a skip goes on
first-skip : (M s x : ℕ) (xs : List ℕ) (k : ℕ) → stands M (x ∷ xs) ≡ Skip k → suc s < noise_at → first M s (x ∷ xs) ≡ onward (first M (suc s) xs)
unfolding first found
first-skip M s x xs k e h = rw (e, ne_eqb (suc s) noise_at (λ q. omega arith)) refl

-- a run of noise is skipped
first_run : (M s n : ℕ) (a : List ℕ) → n ≤ noise_run a → s + n < noise_at → first M s a ≡ ahead n (first M (s + n) (drop n a))
unfolding noise_run
first_run M s zero a h k =
    let same : s + 0 ≡ s = omega arith in
    sym (ahead-zero (first M (s + 0) a) ∙ ap (λ (t : ℕ). first M t a) same)
first_run M s (suc n) [] h k = absurd (omega arith)
first_run M s (suc n) (x ∷ a) h k = by-test (not (eqb x 64) || starts_other a) refl h (first_run M (suc s) n a)
  where
    by-test : (t : Bool) → not (eqb x 64) || starts_other a ≡ t → suc n ≤ cond t (suc (noise_run a)) 0
        → (n ≤ noise_run a → suc s + n < noise_at → first M (suc s) a ≡ ahead n (first M (suc s + n) (drop n a)))
        → first M s (x ∷ a) ≡ ahead (suc n) (first M (s + suc n) (drop n a))
    by-test true e h ih =
        let skip = skips M x a e in
        let same : suc s + n ≡ s + suc n = omega arith in
        first-skip M s x a skip.0 skip.1 (omega arith)
        ∙ ap onward (ih (omega arith) (omega arith))
        ∙ ahead-onward n (first M (suc s + n) (drop n a))
        ∙ ap (λ (t : ℕ). ahead (suc n) (first M t (drop n a))) same
    by-test false e h ih = absurd (omega arith)

-- the run that is left behind a part of it
pub run-left : (n : ℕ) (a : List ℕ) → n ≤ noise_run a → noise_run a ≡ n + noise_run (drop n a)
unfolding noise_run
run-left zero a h = omega arith
run-left (suc n) [] h = absurd (omega arith)
run-left (suc n) (x ∷ a) h = by-test (not (eqb x 64) || starts_other a) h (run-left n a)
  where
    by-test : (t : Bool) → suc n ≤ cond t (suc (noise_run a)) 0 → (n ≤ noise_run a → noise_run a ≡ n + noise_run (drop n a))
        → cond t (suc (noise_run a)) 0 ≡ suc n + noise_run (drop n a)
    by-test true h ih = omega (arith, ih (omega arith))
    by-test false h ih = absurd (omega arith)

-- a first byte that is no noise is a 64, and so is the second where it is there
pub no-noise : (x : ℕ) (xs : List ℕ) → noise_run (x ∷ xs) ≡ 0 → (eqb x 64 ≡ true) × (starts_other xs ≡ false)
unfolding noise_run
no-noise x xs e = by-test (eqb x 64) refl (starts_other xs) refl e
  where
    by-test : (t : Bool) → eqb x 64 ≡ t → (u : Bool) → starts_other xs ≡ u → cond (not t || u) (suc (noise_run xs)) 0 ≡ 0 → (eqb x 64 ≡ true) × (starts_other xs ≡ false)
    by-test true p true q e = absurd (omega arith)
    by-test true p false q e = (p, q)
    by-test false p u q e = absurd (omega arith)

-- a 64 before nothing or before another is no skip
marked : (M x : ℕ) (ys : List ℕ) → eqb x 64 ≡ true
    → stands M (x ∷ ys) ≡ when_there 1 (x ∷ ys) (when_there 2 (x ∷ ys) (cond (eqb (get_or ys 0 0) 64) (started M (x ∷ ys)) (Skip 2)))
unfolding stands
marked M x ys e = rw e refl

marked-calm : (M x : ℕ) (ys : List ℕ) → eqb x 64 ≡ true → starts_other ys ≡ false → is_skip (stands M (x ∷ ys)) ≡ false
marked-calm M x [] e o =
    ap is_skip (marked M x [] e)
    ∙ there-calm 1 (x ∷ []) (when_there 2 (x ∷ []) (cond (eqb 0 64) (started M (x ∷ [])) (Skip 2)))
    (ap is_skip (not_there 2 (x ∷ []) (cond (eqb 0 64) (started M (x ∷ [])) (Skip 2)) (omega arith)))
marked-calm M x (y ∷ ys) e o =
    ap is_skip (marked M x (y ∷ ys) e)
    ∙ there-calm 1 (x ∷ y ∷ ys) (when_there 2 (x ∷ y ∷ ys) (cond (eqb y 64) (started M (x ∷ y ∷ ys)) (Skip 2)))
    (there-calm 2 (x ∷ y ∷ ys) (cond (eqb y 64) (started M (x ∷ y ∷ ys)) (Skip 2))
    (ap (λ (t : Bool). is_skip (cond t (started M (x ∷ y ∷ ys)) (Skip 2))) (not-false (eqb y 64) o) ∙ started-calm M (x ∷ y ∷ ys)))

-- behind the run nothing is skipped
pub first-here : (M s n : ℕ) (a : List ℕ) → s ≤ 65534 → n ≡ min (65534 - s) (noise_run a)
    → first M s a ≡ ahead n (settled (stands M (drop n a)) (s + n) (length (drop n a)))
first-here M s n a low run =
    first_run M s n a (omega arith) (omega arith)
    ∙ ap (ahead n) (first-settled M (s + n) (drop n a) (by_count (ltb (s + n) 65534) refl))
  where
    here-calm : (xs : List ℕ) → noise_run xs ≡ 0 → is_skip (stands M xs) ≡ false
    here-calm [] z = ap is_skip (nothing-waits M)
    here-calm (x ∷ xs) z = marked-calm M x xs (no-noise x xs z).0 (no-noise x xs z).1

    by_count : (t : Bool) → ltb (s + n) 65534 ≡ t → (is_skip (stands M (drop n a)) ≡ false) ⊎ (suc (s + n) ≡ noise_at)
    by_count true e = inl (here-calm (drop n a) (omega (arith, ltb-true (s + n) 65534 e, run-left n a (omega arith))))
    by_count false e = inr (omega (arith, ltb-false (s + n) 65534 e))
