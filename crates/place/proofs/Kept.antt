-- What a step keeps: a place that kept the rules keeps them, and one that is open after it was open before under the same serial.
-- By the tests of each rule. Assumes nothing.
use Prim.Native.Nat.{ℕ, ◌+◌, ◌≤◌, ◌<◌}
use native.Mathlib.Omega.{arith}
use mathlib.Core.Bool.{Bool, true, false, ◌&&◌, cond, and-eq-true_iff, false≢true}
use mathlib.Core.Path.{◌≡◌, refl, sym, ◌∙◌}
use borrow.Author.Tests.{ltb-true, leb-true, eqb-true, lt-ltb, le-leb, eq-eqb}
use lib.Dec.{ltb, leb, eqb}
use Rattle.place.specs.declared.Place.{Place}
use Rattle.place.specs.declared.Reply.{Reply}
use Rattle.place.specs.declared.Reply.TheVariants.{Confirm, Answer, Deny, BadAnswer}
use Rattle.place.specs.Rules.{REQUEST, free, is_open, is_zero, holds, keeps}
use Rattle.place.specs.Steps.{NOTHING, RESENT, FAILED, once_more, one_older, becomes, denied, ticked, awaits, fits, replied}

-- a place that holds a serial is open, and the serial is its own
pub holds-is : (s : ℕ) (p : Place) → holds s p ≡ true → (is_open p.mode ≡ true) × (p.serial ≡ s)
unfolding holds
holds-is s p h =
    let a = (and-eq-true_iff (is_open p.mode) (eqb p.serial s)).0 h in
    (a.0, eqb-true p.serial s a.1)

pub open-holds : (p : Place) → is_open p.mode ≡ true → holds p.serial p ≡ true
unfolding holds
open-holds p o = simp (o, eq-eqb p.serial p.serial refl)

-- a reply fits open places only, and only under its serial
pub awaits-open : (m : ℕ) (w : Reply) → awaits m w ≡ true → is_open m ≡ true
unfolding is_open
awaits-open m Confirm h = simp h
awaits-open m Answer h = simp (eqb-true m REQUEST h)
awaits-open m Deny h = h
awaits-open m BadAnswer h = simp (eqb-true m REQUEST h)

pub fits-holds : (s : ℕ) (w : Reply) (p : Place) → fits s w p ≡ true → holds s p ≡ true
unfolding fits holds
fits-holds s w p h =
    let a = (and-eq-true_iff (awaits p.mode w) (eqb p.serial s)).0 h in
    (and-eq-true_iff (is_open p.mode) (eqb p.serial s)).1 (awaits-open p.mode w a.0, a.1)

-- a free place is open under no serial
pub free-holds : (s : ℕ) → holds s free ≡ false
unfolding holds is_open
free-holds s = refl

-- what is open after a step was open before it, under the same serial
module _ (s r : ℕ) (p : Place) where
  pub denied-holds : holds s (denied r p).place ≡ true → holds s p ≡ true
  unfolding denied holds
  denied-holds = by-test (ltb p.resends r)
    where
      by-test : (b : Bool) → holds s (cond b (becomes (once_more p) RESENT) (becomes free FAILED)).place ≡ true → holds s p ≡ true
      by-test true h = h
      by-test false h = absurd (false≢true (sym (free-holds s) ∙ h))

  pub replied-holds : (w : Reply) → holds s (replied r w p).place ≡ true → holds s p ≡ true
  unfolding replied
  replied-holds Confirm h = absurd (false≢true (sym (free-holds s) ∙ h))
  replied-holds Answer h = absurd (false≢true (sym (free-holds s) ∙ h))
  replied-holds Deny h = denied-holds h
  replied-holds BadAnswer h = denied-holds h

  pub ticked-holds : (t : ℕ) → holds s (ticked t r p).place ≡ true → holds s p ≡ true
  unfolding ticked holds
  ticked-holds t = by-test (is_open p.mode) (ltb (p.age + 1) t)
    where
      by-test : (o b : Bool)
          → holds s (cond o (cond b (becomes (one_older p) NOTHING) (denied r p)) (becomes p NOTHING)).place ≡ true
          → holds s p ≡ true
      by-test true true h = h
      by-test true false h = denied-holds h
      by-test false b h = h

-- the rules of an open place, and that zeros keep them
pub open-keeps : (t r : ℕ) (p : Place) → is_open p.mode ≡ true → p.age < t → p.resends ≤ r → keeps t r p ≡ true
unfolding keeps
open-keeps t r p o a h = simp (o, lt-ltb p.age t a, le-leb p.resends r h)

pub free-keeps : (t r : ℕ) → keeps t r free ≡ true
unfolding keeps is_zero is_open
free-keeps t r = refl

pub open_kept : (t r : ℕ) (p : Place) → is_open p.mode ≡ true → keeps t r p ≡ true → (p.age < t) × (p.resends ≤ r)
unfolding keeps
open_kept t r p o k =
    let h = (and-eq-true_iff (ltb p.age t) (leb p.resends r)).0 (simp o at k) in
    (ltb-true p.age t h.0, leb-true p.resends r h.1)

-- a place of zeros keeps them and is not open, and one that keeps them and is not of zeros is open
module _ (p : Place) where
  pub zero-free : is_zero p ≡ true → is_open p.mode ≡ false
  unfolding is_zero is_open
  zero-free z =
      let a = (and-eq-true_iff (eqb p.serial 0 && eqb p.mode 0 && eqb p.resends 0) (eqb p.age 0)).0 z in
      let b = (and-eq-true_iff (eqb p.serial 0 && eqb p.mode 0) (eqb p.resends 0)).0 a.0 in
      let m = eqb-true p.mode 0 ((and-eq-true_iff (eqb p.serial 0) (eqb p.mode 0)).0 b.0).1 in
      simp m

  pub zero-keeps : (t r : ℕ) → is_zero p ≡ true → keeps t r p ≡ true
  unfolding keeps
  zero-keeps t r z = simp (zero-free z, z)

  pub kept-open : (t r : ℕ) → keeps t r p ≡ true → is_zero p ≡ false → is_open p.mode ≡ true
  unfolding keeps
  kept-open t r k z = by_mode (is_open p.mode) k
    where
      by_mode : (o : Bool) → cond o (ltb p.age t && leb p.resends r) (is_zero p) ≡ true → o ≡ true
      by_mode true k = refl
      by_mode false k = absurd (false≢true (sym z ∙ k))

  -- of a place that is not of zeros: it is open, young and not sent too often
  pub kept-as-open : (t r : ℕ) → is_zero p ≡ false → is_open p.mode && (ltb p.age t && leb p.resends r) ≡ keeps t r p
  unfolding keeps
  kept-as-open t r z = by_mode (is_open p.mode)
    where
      by_mode : (o : Bool) → o && (ltb p.age t && leb p.resends r) ≡ cond o (ltb p.age t && leb p.resends r) (is_zero p)
      by_mode true = refl
      by_mode false = sym z

-- a step keeps the rules
module _ (t r : ℕ) (p : Place) (some : 1 ≤ t) where
  pub denied-keeps : is_open p.mode ≡ true → keeps t r (denied r p).place ≡ true
  unfolding denied
  denied-keeps o = by-test (ltb p.resends r) refl
    where
      by-test : (b : Bool) → ltb p.resends r ≡ b
          → keeps t r (cond b (becomes (once_more p) RESENT) (becomes free FAILED)).place ≡ true
      by-test true e =
          let h = ltb-true p.resends r e in
          open-keeps t r (once_more p) o (omega arith) (omega arith)
      by-test false e = free-keeps t r

  pub replied-keeps : (w : Reply) → is_open p.mode ≡ true → keeps t r (replied r w p).place ≡ true
  unfolding replied
  replied-keeps Confirm o = free-keeps t r
  replied-keeps Answer o = free-keeps t r
  replied-keeps Deny o = denied-keeps o
  replied-keeps BadAnswer o = denied-keeps o

  pub ticked-keeps : keeps t r p ≡ true → keeps t r (ticked t r p).place ≡ true
  unfolding ticked
  ticked-keeps k = by-test (is_open p.mode) refl (ltb (p.age + 1) t) refl
    where
      by-test : (o : Bool) → is_open p.mode ≡ o → (b : Bool) → ltb (p.age + 1) t ≡ b
          → keeps t r (cond o (cond b (becomes (one_older p) NOTHING) (denied r p)) (becomes p NOTHING)).place ≡ true
      by-test true o true e =
          open-keeps t r (one_older p) o (omega (arith, ltb-true (p.age + 1) t e)) (open_kept t r p o k).1
      by-test true o false e = denied-keeps o
      by-test false o b e = k
