-- What each way out of a place's calls answers, from the tests that led there. Assumes nothing.
use Prim.Native.Nat.{ℕ, ◌+◌, ◌≤◌, ◌<◌}
use native.Mathlib.Omega.{arith}
use mathlib.Core.Bool.{Bool, false, not, ◌&&◌, and-eq-true_iff}
use mathlib.Core.Path.{◌≡◌, sym, ap, ◌∙◌}
use borrow.Author.Tests.{lt-ltb, le-ltb, eqb-true, eq-eqb, ne_eqb}
use lib.Dec.{eqb}
use Rattle.octets.proofs.Flags.{on, both-or-none}
use Rattle.place.specs.declared.Place.{Place}
use Rattle.place.specs.declared.Mode.{Mode}
use Rattle.place.specs.declared.Mode.TheVariants.{Send, Request}
use Rattle.place.specs.Modes.{number_of}
use Rattle.place.specs.Rules.{SEND, REQUEST, free, is_open, is_zero, weight}
use Rattle.place.specs.Steps.{NOTHING, RESENT, FAILED, Step, becomes, once_more, one_older, denied, ticked}

-- a number that no mode has opens no place
pub unknown_closed : (m : ℕ) → ((mode : Mode) → number_of mode ≡ m → ⊥) → false ≡ is_open m
unfolding is_open
unknown_closed m none = simp (ne_eqb m SEND (λ e. none Send (sym e)), ne_eqb m REQUEST (λ e. none Request (sym e)))

module _ (p : Place) where
  -- all zero, of the numbers as one
  pub as_one : eqb (weight p) 0 ≡ is_zero p
  unfolding is_zero
  as_one =
      let n = weight p in
      both-or-none (eqb n 0) (eqb p.serial 0 && eqb p.mode 0 && eqb p.resends 0 && eqb p.age 0)
      (λ t.
      let e = eqb-true n 0 t in
      simp (eq-eqb p.serial 0 (omega (arith, e)), eq-eqb p.mode 0 (omega (arith, e)), eq-eqb p.resends 0 (omega (arith, e)), eq-eqb p.age 0 (omega (arith, e))))
      (λ t.
      let a = (and-eq-true_iff (eqb p.serial 0 && eqb p.mode 0 && eqb p.resends 0) (eqb p.age 0)).0 t in
      let b = (and-eq-true_iff (eqb p.serial 0 && eqb p.mode 0) (eqb p.resends 0)).0 a.0 in
      let c = (and-eq-true_iff (eqb p.serial 0) (eqb p.mode 0)).0 b.0 in
      let s = eqb-true p.serial 0 c.0 in
      let m = eqb-true p.mode 0 c.1 in
      let r = eqb-true p.resends 0 b.1 in
      let g = eqb-true p.age 0 a.1 in
      eq-eqb n 0 (omega (arith, s, m, r, g)))

  -- open, or not
  module _ (o : Bool) (told : o ≡ is_open p.mode) where
    module _ (t r : ℕ) where
      pub older : not o ≡ false → p.age + 1 < t → becomes (one_older p) NOTHING ≡ ticked t r p
      unfolding ticked
      older n h = simp (on told n, lt-ltb _ _ h)

      pub run_out : (s : Step) → not o ≡ false → t ≤ p.age + 1 → s ≡ denied r p → s ≡ ticked t r p
      unfolding ticked
      run_out s n h e = e ∙ simp (on told n, le-ltb _ _ h)

  -- denied
  module _ (r : ℕ) where
    pub sent-again : p.resends < r → becomes (once_more p) RESENT ≡ denied r p
    unfolding denied
    sent-again h = simp (lt-ltb _ _ h)

    pub has-failed : (f : Place) → f ≡ free → r ≤ p.resends → becomes f FAILED ≡ denied r p
    unfolding denied
    has-failed f e h = ap (λ (q : Place). becomes q FAILED) e ∙ simp (le-ltb _ _ h)
