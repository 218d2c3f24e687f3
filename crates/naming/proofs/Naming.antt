-- The table of names: what stands at each number, that every row's number gives its name, and that no two numbers have one name.
-- Computed over the one table. Assumes nothing.
use Prim.Native.Nat.{ℕ, ◌≤◌}
use native.Mathlib.Omega.{arith}
use mathlib.Core.Bool.{Bool, true, false, cond, and-eq-true_iff}
use mathlib.Core.List.{List, [], ◌∷◌, map}
use mathlib.Core.Path.{◌≡◌, refl, sym, ap, ◌∙◌}
use borrow.Author.Tests.{eqb-true, ne_eqb, leb-true}
use lib.Dec.{eqb, leb}
use lib.ListN.{length}
use Rattle.octets.specs.Searches.{every, same}
use Rattle.verdict.specs.declared.Refusal.{Refusal}
use Rattle.verdict.specs.declared.Refusal.TheVariants.{State, Room, Cut, Start, Length, End, Sum, Version, Command, Time, Unit as OfUnit, «Type» as OfType, Count, Short, Number, Kind, Text, Setting, Full, Stray, Many, Order, Orphan, Tail, Unlisted, Long, Centre}
use Rattle.verdict.specs.Refusals.{Row, number_of, name_of}
use Rattle.reading.specs.declared.Event.TheVariants.{More, Noise, Packet}
use Rattle.reading.specs.Events as events
use Rattle.reading.specs.Values.{MORE, NOISE, PACKET}
use Rattle.place.specs.declared.Outcome.{Outcome}
use Rattle.place.specs.declared.Outcome.TheVariants.{Nothing, Confirmed, Answered, Resent, Failed}
use Rattle.place.specs.Outcomes as outcomes
use Rattle.naming.specs.Names.{names, ascii, letters_in, letters}

-- the name of a refusal's number, and of an outcome's
pub refusal_named : (r : Refusal) → letters (number_of r) ≡ name_of r
unfolding letters letters_in
refusal_named State = refl
refusal_named Room = refl
refusal_named Cut = refl
refusal_named Start = refl
refusal_named Length = refl
refusal_named End = refl
refusal_named Sum = refl
refusal_named Version = refl
refusal_named Command = refl
refusal_named Time = refl
refusal_named OfUnit = refl
refusal_named OfType = refl
refusal_named Count = refl
refusal_named Short = refl
refusal_named Number = refl
refusal_named Kind = refl
refusal_named Text = refl
refusal_named Setting = refl
refusal_named Full = refl
refusal_named Stray = refl
refusal_named Many = refl
refusal_named Order = refl
refusal_named Orphan = refl
refusal_named Tail = refl
refusal_named Unlisted = refl
refusal_named Long = refl
refusal_named Centre = refl

pub outcome_named : (o : Outcome) → letters (outcomes.number_of o) ≡ outcomes.name_of o
unfolding letters letters_in
outcome_named Nothing = refl
outcome_named Confirmed = refl
outcome_named Answered = refl
outcome_named Resent = refl
outcome_named Failed = refl

-- of an event's that is no refused start
pub more_named : letters MORE ≡ events.name_of More
unfolding letters letters_in
more_named = refl

pub noise_named : letters NOISE ≡ events.name_of Noise
unfolding letters letters_in
noise_named = refl

pub packet_named : letters PACKET ≡ events.name_of (Packet 0)
unfolding letters letters_in
packet_named = refl

-- a number of none of them has no name
pub none_named : (n : ℕ) → (n ≡ MORE → ⊥) → (n ≡ NOISE → ⊥) → (n ≡ PACKET → ⊥) → ((o : Outcome) → outcomes.number_of o ≡ n → ⊥) → ((r : Refusal) → number_of r ≡ n → ⊥)
    → letters n ≡ []
unfolding letters letters_in
none_named n more noise packet o r =
    simp (
      not n MORE more,
      not n NOISE noise,
      not n PACKET packet,
      outcome n o Nothing,
      outcome n o Confirmed,
      outcome n o Answered,
      outcome n o Resent,
      outcome n o Failed,
      refused n r State,
      refused n r Room,
      refused n r Cut,
      refused n r Start,
      refused n r Length,
      refused n r End,
      refused n r Sum,
      refused n r Version,
      refused n r Command,
      refused n r Time,
      refused n r OfUnit,
      refused n r OfType,
      refused n r Count,
      refused n r Short,
      refused n r Number,
      refused n r Kind,
      refused n r Text,
      refused n r Setting,
      refused n r Full,
      refused n r Stray,
      refused n r Many,
      refused n r Order,
      refused n r Orphan,
      refused n r Tail,
      refused n r Unlisted,
      refused n r Long,
      refused n r Centre,
    )
  where
    not : (n k : ℕ) → (n ≡ k → ⊥) → eqb k n ≡ false
    not n k h = ne_eqb k n (λ e. h (sym e))

    outcome : (n : ℕ) → ((o : Outcome) → outcomes.number_of o ≡ n → ⊥) → (o : Outcome) → eqb (outcomes.number_of o) n ≡ false
    outcome n h o = ne_eqb (outcomes.number_of o) n (h o)

    refused : (n : ℕ) → ((r : Refusal) → number_of r ≡ n → ⊥) → (r : Refusal) → eqb (number_of r) n ≡ false
    refused n h r = ne_eqb (number_of r) n (h r)

pub ruleset naming = (refusal_named, outcome_named, more_named, noise_named, packet_named, none_named)

-- every row's number gives the row's name
pub each-named : map (λ (r : Row). letters r.number) names ≡ map (λ (r : Row). ascii r.name) names
unfolding letters letters_in
each-named = refl

-- a name has at most nine bytes
pub short_name : (n : ℕ) → length (letters n) ≤ 9
unfolding letters letters_in every
short_name n = each_short names refl
  where
    each_short : (rs : List Row) → every (λ (r : Row). leb (length (ascii r.name)) 9) rs ≡ true → length (letters_in rs n) ≤ 9
    each_short [] a = omega arith
    each_short (r ∷ rs) a = by-test (eqb r.number n) ((and-eq-true_iff (leb (length (ascii r.name)) 9) _).0 a) (each_short rs)
      where
        by-test : (b : Bool) → (leb (length (ascii r.name)) 9 ≡ true) × (every (λ (r : Row). leb (length (ascii r.name)) 9) rs ≡ true)
            → (every (λ (r : Row). leb (length (ascii r.name)) 9) rs ≡ true → length (letters_in rs n) ≤ 9)
            → length (cond b (ascii r.name) (letters_in rs n)) ≤ 9
        by-test true a ih = leb-true (length (ascii r.name)) 9 a.0
        by-test false a ih = ih a.1

-- the number of the first row that has a name
number_in : List Row → List ℕ → ℕ
number_in [] t = 0
number_in (r ∷ rs) t = cond (same (ascii r.name) t) r.number (number_in rs t)

-- where each row's name leads back to its number, so does the name that a number has
led-back : (f : List ℕ → ℕ) (rs : List Row) (n : ℕ) → every (λ (r : Row). eqb (f (ascii r.name)) r.number) rs ≡ true
    → (letters_in rs n ≡ [] → ⊥) → f (letters_in rs n) ≡ n
unfolding letters_in every
led-back f [] n a some = absurd (some refl)
led-back f (r ∷ rs) n a some =
    by-test (eqb r.number n) refl ((and-eq-true_iff (eqb (f (ascii r.name)) r.number) _).0 a) some (led-back f rs n)
  where
    by-test : (b : Bool) → eqb r.number n ≡ b
        → (eqb (f (ascii r.name)) r.number ≡ true) × (every (λ (r : Row). eqb (f (ascii r.name)) r.number) rs ≡ true)
        → (cond b (ascii r.name) (letters_in rs n) ≡ [] → ⊥)
        → (every (λ (r : Row). eqb (f (ascii r.name)) r.number) rs ≡ true → (letters_in rs n ≡ [] → ⊥) → f (letters_in rs n) ≡ n)
        → f (cond b (ascii r.name) (letters_in rs n)) ≡ n
    by-test true e a some ih = eqb-true (f (ascii r.name)) r.number a.0 ∙ eqb-true r.number n e
    by-test false e a some ih = ih a.1 some

led : (n : ℕ) → (letters n ≡ [] → ⊥) → number_in names (letters n) ≡ n
unfolding letters every number_in same
led n some = led-back (number_in names) names n refl some

-- different numbers have different names, where they have one
pub distinct : (m n : ℕ) → (letters m ≡ [] → ⊥) → letters m ≡ letters n → m ≡ n
distinct m n some e = sym (led m some) ∙ ap (number_in names) e ∙ led n (λ none. some (e ∙ none))
