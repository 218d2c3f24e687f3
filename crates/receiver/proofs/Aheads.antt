-- What is found first, by what stands behind the run of noise. Assumes nothing.
use Prim.Native.Nat.{ℕ, ◌+◌, ◌-◌, ◌<◌, ◌≤◌, min}
use native.Mathlib.Omega.{arith}
use mathlib.Core.List.{List, ◌++◌}
use mathlib.Core.Path.{◌≡◌, refl, sym, ap, subst, ◌∙◌}
use borrow.Author.Rules.{rules}
use lib.ListN.{length, drop, length-append, length-drop}
use Rattle.reading.specs.Events.{Standing, Step, event_of}
use Rattle.reading.specs.Events.Event.{More, Noise}
use Rattle.reading.specs.Events.Standing.{Wait, Skip, Hit}
use Rattle.reading.specs.declared.Event.{Event as Coded}
use Rattle.reading.specs.Standing.{stands}
use Rattle.reading.specs.Finding.{noise_at, more, noise, hit, first}
use Rattle.reading.proofs.Stands.{Bounds, bounds}
use Rattle.rows.specs.Runs.{noise_run}
use Rattle.rows.proofs.Noises.{noise-long}
use Rattle.receiver.specs.declared.line.Standing.{Standing as CodedStanding}
use Rattle.receiver.specs.declared.line.Standing.TheVariants as coded
use Rattle.receiver.specs.Lines.{standing_of}
use Rattle.receiver.specs.Runs.{ahead, settled}
use Rattle.receiver.proofs.Finds.{first-here}

-- a step whose three places lie so much further
further : (f : Step) (n at looked next : ℕ) → at ≡ n + f.at → looked ≡ n + f.looked → next ≡ n + f.next
    → record { event = f.event; carried = f.carried; at = at; looked = looked; next = next; count = f.count } ≡ ahead n f
unfolding ahead
further f n at looked next p q r =
    λ i. record { event = f.event; carried = f.carried; at = p i; looked = q i; next = r i; count = f.count }

-- behind a run of noise in a line, what is left stands as it was told
module _ (M s n : ℕ) (a b rest : List ℕ) (r : CodedStanding) (run : n ≡ min (65534 - s) (noise_run (a ++ b))) (left : rest ≡ drop n (a ++ b))
    (told : standing_of r ≡ stands M rest) where
  inside : n + length rest ≡ length a + length b
  inside = omega (arith, noise-long (a ++ b), length-append a b, ap length left, length-drop n (a ++ b))

  -- no place that follows from it passes the line's end
  module _ (k m : ℕ) (q : r ≡ coded.Skip k) (h : length a + length b < m) where
    looks : Bounds M rest (Skip k)
    looks = subst (Bounds M rest) (sym told ∙ ap standing_of q) (bounds M rest)

    pub skip-looked : n + k < m
    skip-looked = omega (arith, looks.2, inside)

    pub skip-next : n + 1 < m
    skip-next = omega (arith, looks.0, looks.2, inside)

  module _ (w : Coded) (k p m : ℕ) (q : r ≡ coded.Hit w k p) (h : length a + length b < m) where
    few : Bounds M rest (Hit (event_of w) k p)
    few = subst (Bounds M rest) (sym told ∙ ap standing_of q) (bounds M rest)

    pub hit-looked : n + k < m
    hit-looked = omega (arith, few.3, inside)

    pub hit-next : n + p < m
    hit-next = omega (arith, few.2, few.3, inside)

  module _ (low : s ≤ 65534) where
    by-standing : (w : Standing) → standing_of r ≡ w → ahead n (settled w (s + n) (length rest)) ≡ first M s (a ++ b)
    by-standing w q =
        ap (λ (u : Standing). ahead n (settled u (s + n) (length rest))) (sym q ∙ told)
        ∙ ap (λ (l : List ℕ). ahead n (settled (stands M l) (s + n) (length l))) left
        ∙ sym (first-here M s n (a ++ b) low run)

    pub here-waits : (size : ℕ) → size ≡ length (a ++ b) → r ≡ coded.Wait
        → record { event = More; carried = 0; at = n; looked = size; next = n; count = s + n } ≡ first M s (a ++ b)
    unfolding settled more
    here-waits size e q =
        further (more (s + n) (length rest)) n n size n (omega arith) (omega (arith, inside, length-append a b)) (omega arith)
        ∙ by-standing Wait (ap standing_of q)

    pub here-skips : (k : ℕ) → r ≡ coded.Skip k
        → record { event = Noise; carried = noise_at; at = n; looked = n + k; next = n + 1; count = 0 } ≡ first M s (a ++ b)
    unfolding settled noise
    here-skips k q = further (noise k) n n (n + k) (n + 1) (omega arith) refl refl ∙ by-standing (Skip k) (ap standing_of q)

    pub here-hits : (w : Coded) (k p carried : ℕ) → r ≡ coded.Hit w k p → carried ≡ s + n
        → record { event = event_of w; carried = carried; at = n; looked = n + k; next = n + p; count = 0 } ≡ first M s (a ++ b)
    unfolding settled hit
    here-hits w k p carried q so =
        (λ i. record { event = event_of w; carried = so i; at = n; looked = n + k; next = n + p; count = 0 })
        ∙ further (hit (event_of w) (s + n) k p) n n (n + k) (n + p) (omega arith) refl refl ∙ by-standing (Hit (event_of w) k p) (ap standing_of q)

-- a run lies in its line
pub run-inside : (most n : ℕ) (xs : List ℕ) → n ≡ min most (noise_run xs) → n ≤ length xs
run-inside most n xs e = omega (arith, noise-long xs)

pub ruleset heres = (rules, skip-looked, skip-next, hit-looked, hit-next, here-waits, here-skips, here-hits, run-inside)
