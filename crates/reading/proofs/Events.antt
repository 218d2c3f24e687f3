-- What the reading finds is never a refusal, nor is an event in code; and what an event's number then says. Assumes nothing.
use Prim.Native.Nat.{ℕ, suc}
use native.Mathlib.Omega.{arith}
use mathlib.Core.Bool.{Bool, true, false, cond}
use mathlib.Core.List.{List, [], ◌∷◌}
use mathlib.Core.Path.{◌≡◌, refl, sym, ap, ◌∙◌}
use lib.Dec.{leb, eqb}
use lib.ListN.{length, get_or}
use Rattle.frame.specs.Frame.{packet_length, unit_length, ended, summed}
use Rattle.verdict.specs.Refusals.{STATE, ROOM}
use Rattle.reading.specs.declared.Event.{Event as Coded}
use Rattle.reading.specs.declared.Event.TheVariants as coded
use Rattle.reading.specs.Events.{Event, Standing, event_of}
use Rattle.reading.specs.Events.Event.{More, Noise, Length, End, Sum, Packet, Refused}
use Rattle.reading.specs.Events.Standing.{Wait, Skip, Hit}
use Rattle.reading.specs.Values.{MORE, told, asks}
use Rattle.reading.specs.Standing.{judged_frame, started, stands}
use Rattle.reading.specs.Finding.{noise_at, onward, more, noise, hit, found, first}
use Rattle.reading.proofs.Stands.{there-any, choice-any}

unfoldable pub refuses : Event → Bool
refuses More = false
refuses Noise = false
refuses Length = false
refuses End = false
refuses Sum = false
refuses (Packet n) = false
refuses (Refused n) = true

-- no refusal stands at a position
abbrev Taken : Standing → Type 0
Taken Wait = Unit {0}
Taken (Skip k) = Unit {0}
Taken (Hit e k p) = refuses e ≡ false

stands-taken : (M : ℕ) (xs : List ℕ) → Taken (stands M xs)
unfolding stands started judged_frame refuses
stands-taken M xs =
    there-any Taken 1 xs _ (λ w. tt)
    (λ one. choice-any Taken (eqb (get_or xs 0 0) 64) _ _
    (λ _. there-any Taken 2 xs _ (λ w. tt)
    (λ two. choice-any Taken (eqb (get_or xs 1 0) 64) _ _
    (λ _. there-any Taken 26 xs _ (λ w. tt)
    (λ head. choice-any Taken (leb (unit_length xs) M) _ _
    (λ _. there-any Taken (packet_length (unit_length xs)) xs _ (λ w. tt)
    (λ all. choice-any Taken (ended (unit_length xs) xs) _ _
    (λ _. choice-any Taken (summed (unit_length xs) xs) _ _ (λ _. refl) (λ _. refl))
    (λ _. refl)))
    (λ _. refl)))
    (λ _. tt)))
    (λ _. tt))

pub first_taken : (M s : ℕ) (xs : List ℕ) → refuses (first M s xs).event ≡ false
unfolding first found more noise hit onward refuses
first_taken M s [] = refl
first_taken M s (x ∷ xs) = by-case (stands M (x ∷ xs)) (stands-taken M (x ∷ xs)) (first_taken M (suc s) xs)
  where
    by-test : (k : ℕ) (t : Bool) → refuses (first M (suc s) xs).event ≡ false → refuses (cond t (noise k) (onward (first M (suc s) xs))).event ≡ false
    by-test k true ih = refl
    by-test k false ih = ih

    by-case : (v : Standing) → Taken v → refuses (first M (suc s) xs).event ≡ false
        → refuses (found v s (length (x ∷ xs)) (first M (suc s) xs)).event ≡ false
    by-case Wait b ih = refl
    by-case (Skip k) b ih = by-test k (eqb (suc s) noise_at) ih
    by-case (Hit w k p) b ih = b

-- the number of an event that is no refusal says whether more is asked for
pub number-asks : (e : Event) → ((n : ℕ) → e ≡ Refused n → ⊥) → eqb (told e).number MORE ≡ asks e
unfolding told asks
number-asks More h = refl
number-asks Noise h = refl
number-asks Length h = refl
number-asks End h = refl
number-asks Sum h = refl
number-asks (Packet n) h = refl
number-asks (Refused n) h = absurd (h n refl)

-- and is none of a refused call's
pub number-taken : (e : Event) → ((n : ℕ) → e ≡ Refused n → ⊥) → ((told e).number ≡ STATE → ⊥) × ((told e).number ≡ ROOM → ⊥)
unfolding told
number-taken More h = ((λ k. omega arith), λ k. omega arith)
number-taken Noise h = ((λ k. omega arith), λ k. omega arith)
number-taken Length h = ((λ k. omega arith), λ k. omega arith)
number-taken End h = ((λ k. omega arith), λ k. omega arith)
number-taken Sum h = ((λ k. omega arith), λ k. omega arith)
number-taken (Packet n) h = ((λ k. omega arith), λ k. omega arith)
number-taken (Refused n) h = absurd (h n refl)

-- the code's events are never a refusal, and no two of them are one event
pub event-taken : (e : Coded) → refuses (event_of e) ≡ false
unfolding refuses
event-taken coded.More = refl
event-taken coded.Noise = refl
event-taken coded.Length = refl
event-taken coded.End = refl
event-taken coded.Sum = refl
event-taken (coded.Packet n) = refl

abbrev coded_as : Event → Coded
coded_as More = coded.More
coded_as Noise = coded.Noise
coded_as Length = coded.Length
coded_as End = coded.End
coded_as Sum = coded.Sum
coded_as (Packet n) = coded.Packet n
coded_as (Refused n) = coded.More

coded-back : (e : Coded) → coded_as (event_of e) ≡ e
coded-back coded.More = refl
coded-back coded.Noise = refl
coded-back coded.Length = refl
coded-back coded.End = refl
coded-back coded.Sum = refl
coded-back (coded.Packet n) = refl

pub event-tells : (e f : Coded) → event_of e ≡ event_of f → e ≡ f
event-tells e f h = sym (coded-back e) ∙ ap coded_as h ∙ coded-back f
