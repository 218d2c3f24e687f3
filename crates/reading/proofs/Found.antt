-- What the reading finds first: it survives more bytes, it looked at none too many, its bounds, and the whole reading goes on from it.
-- Each by induction on the bytes, a skip dropping exactly the head. Assumes nothing.
use Prim.Native.Nat.{ℕ, zero, suc, ◌+◌, ◌-◌, ◌≤◌, ◌<◌}
use native.Mathlib.Omega.{arith}
use mathlib.Core.Bool.{Bool, true, false, cond, true≢false}
use mathlib.Core.List.{List, [], ◌∷◌, ◌++◌}
use mathlib.Core.Logic.{◌⊎◌, inl, inr, ⊎_elim}
use mathlib.Core.Path.{◌≡◌, refl, sym, ap, ◌∙◌}
use borrow.Author.Tests.{eqb-true, eqb-false}
use lib.Dec.{eqb}
use lib.ListN.{length, take, drop, length-take, take-append-drop}
use Rattle.frame.specs.Frame.{room}
use Rattle.reading.specs.Events.{Event, Standing, Step}
use Rattle.reading.specs.Events.Event.{More, Noise}
use Rattle.reading.specs.Events.Standing.{Wait, Skip, Hit}
use Rattle.reading.specs.Values.{asks, told, packet_of}
use Rattle.reading.specs.Standing.{stands}
use Rattle.reading.specs.Finding.{noise_at, onward, more, noise, hit, found, first, Heard, Reading, after, read_on, reading}
use Rattle.reading.proofs.Worths.{worth}
use Rattle.reading.proofs.Stands.{stays, Bounds, bounds, nothing-waits}

-- an event survives more bytes
pub first-stable : (M s : ℕ) (xs ys : List ℕ) → asks (first M s xs).event ≡ false → first M s (xs ++ ys) ≡ first M s xs
unfolding first found more onward asks
first-stable M s [] ys a = absurd (true≢false a)
first-stable M s (x ∷ xs) ys a = by-case (stands M (x ∷ xs)) refl a (first-stable M (suc s) xs ys)
  where
    by-test : (k : ℕ) (t : Bool) → asks (cond t (noise k) (onward (first M (suc s) xs))).event ≡ false
        → (asks (first M (suc s) xs).event ≡ false → first M (suc s) (xs ++ ys) ≡ first M (suc s) xs)
        → cond t (noise k) (onward (first M (suc s) (xs ++ ys))) ≡ cond t (noise k) (onward (first M (suc s) xs))
    by-test k true a ih = refl
    by-test k false a ih = ap onward (ih a)

    by-case : (v : Standing) → stands M (x ∷ xs) ≡ v → asks (found v s (length (x ∷ xs)) (first M (suc s) xs)).event ≡ false
        → (asks (first M (suc s) xs).event ≡ false → first M (suc s) (xs ++ ys) ≡ first M (suc s) xs)
        → found (stands M (x ∷ xs ++ ys)) s (length (x ∷ xs ++ ys)) (first M (suc s) (xs ++ ys)) ≡ found (stands M (x ∷ xs)) s (length (x ∷ xs)) (first M (suc s) xs)
    by-case Wait e a ih = absurd (true≢false a)
    by-case (Skip k) e a ih = rw (e, stays M (x ∷ xs) ys (Skip k) e refl) (by-test k (eqb (suc s) noise_at) a ih)
    by-case (Hit w k p) e a ih = rw (e, stays M (x ∷ xs) ys (Hit w k p) e refl) refl

-- the bounds where more is asked for: all was looked at, and what was not skipped is too few bytes to decide
pub record Asked (M s : ℕ) (xs : List ℕ) (f : Step) : Type 0 where
  pub event : f.event ≡ More
  pub carried : f.carried ≡ 0
  pub all : f.looked ≡ length xs
  pub stays : f.next ≡ f.at
  pub inside : f.at ≤ length xs
  pub counts : f.count ≡ s + f.at
  pub low : f.count < noise_at
  pub waits : stands M (drop f.at xs) ≡ Wait
  pub fits : length (drop f.at xs) < room M

-- and where an event is given: each byte passed is counted once, in what it carries or in its worth
pub record Gave (M s : ℕ) (xs : List ℕ) (f : Step) : Type 0 where
  pub gives : asks f.event ≡ false
  pub moves : 1 ≤ f.next
  pub seen : f.next ≤ f.looked
  pub there : f.looked ≤ length xs
  pub fits : f.looked ≤ f.next + room M
  pub restarts : f.count ≡ 0
  pub counted : f.carried + worth f.event ≡ s + f.next
  pub stood : f.at + worth f.event ≤ f.looked
  pub small : worth f.event ≤ room M

asked-onward : (M s x : ℕ) (xs : List ℕ) (f : Step) → Asked M (suc s) xs f → Asked M s (x ∷ xs) (onward f)
unfolding onward
asked-onward M s x xs f a =
    record {
      event = a.event;
      carried = a.carried;
      all = ap suc a.all;
      stays = ap suc a.stays;
      inside = omega arith;
      counts = omega arith;
      low = a.low;
      waits = a.waits;
      fits = a.fits;
    }

gave-onward : (M s x : ℕ) (xs : List ℕ) (f : Step) → Gave M (suc s) xs f → Gave M s (x ∷ xs) (onward f)
unfolding onward
gave-onward M s x xs f a =
    record {
      gives = a.gives;
      moves = omega arith;
      seen = omega arith;
      there = omega arith;
      fits = omega arith;
      restarts = a.restarts;
      counted = omega arith;
      stood = omega arith;
      small = a.small;
    }

pub either : (M s : ℕ) (xs : List ℕ) → s < noise_at → Asked M s xs (first M s xs) ⊎ Gave M s xs (first M s xs)
unfolding first found more onward noise hit asks worth room
either M s [] h =
    inl
    (record { event = refl; carried = refl; all = refl; stays = refl; inside = omega arith; counts = omega arith; low = h; waits = nothing-waits M; fits = omega arith })
either M s (x ∷ xs) h = by-case (stands M (x ∷ xs)) refl (bounds M (x ∷ xs)) (either M (suc s) xs)
  where
    by-test : (k : ℕ) → (1 ≤ k) × (k ≤ 2) × (k ≤ length (x ∷ xs)) → (t : Bool) → eqb (suc s) noise_at ≡ t
        → (suc s < noise_at → Asked M (suc s) xs (first M (suc s) xs) ⊎ Gave M (suc s) xs (first M (suc s) xs))
        → Asked M s (x ∷ xs) (cond t (noise k) (onward (first M (suc s) xs))) ⊎ Gave M s (x ∷ xs) (cond t (noise k) (onward (first M (suc s) xs)))
    by-test k b true e ih =
        let full : suc s ≡ noise_at = eqb-true (suc s) noise_at e in
        inr
        (record { gives = refl; moves = omega arith; seen = b.0; there = b.2; fits = omega arith; restarts = refl; counted = omega arith; stood = omega arith; small = omega arith })
    by-test k b false e ih =
        let lower : suc s < noise_at = omega (arith, eqb-false (suc s) noise_at e) in
        ⊎_elim (λ a. inl (asked-onward M s x xs _ a)) (λ g. inr (gave-onward M s x xs _ g)) (ih lower)

    by-case : (v : Standing) → stands M (x ∷ xs) ≡ v → Bounds M (x ∷ xs) v
        → (suc s < noise_at → Asked M (suc s) xs (first M (suc s) xs) ⊎ Gave M (suc s) xs (first M (suc s) xs))
        → Asked M s (x ∷ xs) (found (stands M (x ∷ xs)) s (length (x ∷ xs)) (first M (suc s) xs)) ⊎ Gave M s (x ∷ xs) (found (stands M (x ∷ xs)) s (length (x ∷ xs)) (first M (suc s) xs))
    by-case Wait e b ih =
        rw e
        (inl
        (record { event = refl; carried = refl; all = refl; stays = refl; inside = omega arith; counts = omega arith; low = h; waits = e; fits = b }))
    by-case (Skip k) e b ih = rw e (by-test k b (eqb (suc s) noise_at) refl ih)
    by-case (Hit w k p) e b ih =
        rw e
        (inr
        (record { gives = b.5; moves = b.1; seen = b.2; there = b.3; fits = omega arith; restarts = refl; counted = omega arith; stood = omega arith; small = omega arith }))

-- Early: on fewer bytes than an event looked at, more is asked for
pub first-early : (M s n : ℕ) (xs : List ℕ) → s < noise_at → asks (first M s xs).event ≡ false → n < (first M s xs).looked
    → (first M s (take n xs)).event ≡ More
first-early M s n xs low a h = ⊎_elim (λ (q : Asked M s (take n xs) (first M s (take n xs))). q.event) too-late (either M s (take n xs) low)
  where
    too-late : Gave M s (take n xs) (first M s (take n xs)) → (first M s (take n xs)).event ≡ More
    too-late g =
        let same : first M s xs ≡ first M s (take n xs) =
        ap (first M s) (sym (take-append-drop n xs)) ∙ first-stable M s (take n xs) (drop n xs) g.gives in
        absurd (omega (arith, ap (λ (f : Step). f.looked) same, g.there, length-take n xs))

-- bytes still to pass are dropped
pub reading-pass : (M s k : ℕ) (xs : List ℕ) → reading M s k xs ≡ reading M s 0 (drop k xs)
unfolding reading
reading-pass M s zero xs = refl
reading-pass M s (suc k) [] = refl
reading-pass M s (suc k) (x ∷ xs) = reading-pass M s k xs

-- what is heard of what was found in a stream
abbrev pub heard_at : Step → List ℕ → Heard
heard_at f xs = record { event = f.event; skipped = f.carried; packet = packet_of f.event (drop f.at xs) }

abbrev pub hearing : Step → List ℕ → Reading → Reading
hearing f xs r = cond (asks f.event) r (after (heard_at f xs) r)

-- the reading of a stream goes on from what was found in its beginning
abbrev GoesOn : ℕ → ℕ → List ℕ → Step → Type 0
GoesOn M s zs f = reading M s 0 zs ≡ hearing f zs (reading M f.count 0 (drop f.next zs))

pub reading-first : (M s : ℕ) (xs ys : List ℕ) → GoesOn M s (xs ++ ys) (first M s xs)
unfolding first found more noise hit onward asks reading read_on told packet_of
reading-first M s [] ys = refl
reading-first M s (x ∷ xs) ys = by-case (stands M (x ∷ xs)) refl (bounds M (x ∷ xs)) (reading-first M (suc s) xs ys)
  where
    by-test : (k : ℕ) (t : Bool) → GoesOn M (suc s) (xs ++ ys) (first M (suc s) xs)
        → cond t (after (record { event = Noise; skipped = noise_at; packet = [] }) (reading M 0 0 (xs ++ ys))) (reading M (suc s) 0 (xs ++ ys))
        ≡ hearing (cond t (noise k) (onward (first M (suc s) xs))) (x ∷ xs ++ ys)
        (reading M (cond t (noise k) (onward (first M (suc s) xs))).count 0 (drop (cond t (noise k) (onward (first M (suc s) xs))).next (x ∷ xs ++ ys)))
    by-test k true ih = refl
    by-test k false ih = ih

    by-hit : (w : Event) (k p : ℕ) → 1 ≤ p → asks w ≡ false
        → after (record { event = w; skipped = s; packet = packet_of w (x ∷ xs ++ ys) }) (reading M 0 (p - 1) (xs ++ ys))
        ≡ hearing (hit w s k p) (x ∷ xs ++ ys) (reading M 0 0 (drop p (x ∷ xs ++ ys)))
    by-hit w k zero h a = absurd (omega arith)
    by-hit w k (suc p) h a =
        let less : suc p - 1 ≡ p = omega arith in
        rw (a, less, reading-pass M 0 p (xs ++ ys)) refl

    by-case : (v : Standing) → stands M (x ∷ xs) ≡ v → Bounds M (x ∷ xs) v → GoesOn M (suc s) (xs ++ ys) (first M (suc s) xs)
        → GoesOn M s (x ∷ xs ++ ys) (found (stands M (x ∷ xs)) s (length (x ∷ xs)) (first M (suc s) xs))
    by-case Wait e b ih = rw e refl
    by-case (Skip k) e b ih = rw (e, stays M (x ∷ xs) ys (Skip k) e refl) (by-test k (eqb (suc s) noise_at) ih)
    by-case (Hit w k p) e b ih = rw (e, stays M (x ∷ xs) ys (Hit w k p) e refl) (by-hit w k p b.1 b.5)
