-- A call makes of each place that it does not open, and tells of it, what the rule for one place says. By the calls' answers. Assumes nothing.
use Prim.Native.Nat.{ℕ, ◌-◌, ◌≤◌, ◌<◌}
use native.Mathlib.Omega.{arith}
use mathlib.Core.Bool.{Bool, true, false, cond, and-eq-true_iff, false≢true}
use mathlib.Core.List.{List}
use mathlib.Core.Path.{◌≡◌, refl, sym, ap, ◌∙◌}
use borrow.Author.Tests.{ltb-true, ltb-false, eqb-true, eqb-false, eq-eqb, ne_eqb}
use lib.Dec.{ltb, eqb}
use lib.ListN.{get_or, length}
use Rattle.octets.proofs.Flags.{by-test}
use Rattle.octets.proofs.Searches.{first-is}
use Rattle.verdict.specs.Orders.{is_good}
use Rattle.place.specs.declared.Place.{Place}
use Rattle.place.specs.declared.Reply.{Reply}
use Rattle.place.specs.Steps.{Step}
use Rattle.place.specs.Rules.{opened}
use Rattle.place.specs.Steps.{NOTHING, becomes, replied}
use Rattle.place.proofs.Kept.{fits-holds}
use Rattle.places.specs.Rows.{place_at, fits_at, fitting, low_of, end_of, owner_of, nothing}
use Rattle.places.proofs.Rules.{changed, unchanged}
use Rattle.exchange.specs.declared.Exchanges.{Exchanges}
use Rattle.exchange.specs.declared.Begun.{Begun}
use Rattle.exchange.specs.declared.Replied.{Replied}
use Rattle.exchange.specs.Begins.{mode_of}
use Rattle.exchange.specs.Table.{centre_of, fitting_of, stepped, answered, ticking}
use Rattle.exchange.specs.Calls.{Asked, begun_by, Call, begin, reply, tick, after, Sound}
use Rattle.exchange.specs.Logs.{line_of, begins, tells}
use Rattle.exchange.specs.Steps.{fits_from, step_by}
use Rattle.exchange.proofs.Answers.{answered-outside, answered-stray, answered-good}
use Rattle.exchange.proofs.Kept.{rules-of, fitting-low, fitting-fits}
use Rattle.exchange.proofs.Changes.{begin-refused, begin-others, begun-state, begun-inside, tick-each, tick-tells}

module _ (x : Exchanges) (sound : Sound x) (k : ℕ) (here : k < 16) where
  inside : k < length x.places
  inside = omega (arith, here, sound.long)

  -- a reply fits one place of a centre at most, since no two of them are open under one serial
  pub fitting-is : (s : ℕ) (w : Reply) → fits_at x.places s w k ≡ true → fitting_of x (owner_of k) s w ≡ k
  unfolding fitting
  fitting-is s w e =
      first-is (fits_at x.places s w) (low_of (owner_of k)) (end_of (owner_of k) - low_of (owner_of k)) k (omega arith) (omega (arith, here)) e
      (λ j l u. by-fit j l u (fits_at x.places s w j) refl)
    where
      by-fit : (j : ℕ) → low_of (owner_of k) ≤ j → j < k → (b : Bool) → fits_at x.places s w j ≡ b → b ≡ false
      by-fit j l u false q = refl
      by-fit j l u true q =
          let other = (rules-of x sound.kept).apart (owner_of k) (omega (arith, here)) s j k l u (omega arith) (fits-holds s w (place_at x.places j) q) in
          absurd (false≢true (sym other ∙ fits-holds s w (place_at x.places k) e))

  -- what a reply's answer makes of the place and tells of it
  abbrev at : Replied → Step
  at y = becomes (place_at y.state.places k) (cond (eqb k y.place) y.outcome NOTHING)

  none : (b : Bool) → becomes (place_at x.places k) (cond b NOTHING NOTHING) ≡ becomes (place_at x.places k) NOTHING
  none true = refl
  none false = refl

  module _ (a : List ℕ) (s : ℕ) (w : Reply) where
    abbrev c : ℕ
    c = centre_of x a

    abbrev n : ℕ
    n = fitting_of x c s w

    abbrev to : ℕ → Step
    to j = replied x.resends w (place_at x.places j)

    -- where it does not fit
    passed : fits_from x a s w k ≡ false → at (answered x a s w) ≡ becomes (place_at x.places k) NOTHING
    passed e = by_tests (ltb c 2) refl (ltb n (end_of c)) refl
      where
        by_tests : (o : Bool) → ltb c 2 ≡ o → (b : Bool) → ltb n (end_of c) ≡ b → at (answered x a s w) ≡ becomes (place_at x.places k) NOTHING
        by_tests false p b q = ap at (answered-outside x a s w sound.kept (ltb-false c 2 p)) ∙ none (eqb k 0)
        by_tests true p false q = ap at (answered-stray x a s w sound.kept (ltb-true c 2 p) (ltb-false n (end_of c) q)) ∙ none (eqb k 0)
        by_tests true p true q =
            let h = ltb-true n (end_of c) q in
            let own : c ≡ owner_of n = omega (arith, fitting-low x c s w, h) in
            let other : k ≡ n → ⊥ =
            λ m.
            false≢true
            (sym e
            ∙ ap (fits_from x a s w) m
            ∙ (and-eq-true_iff (eqb c (owner_of n)) (fits_at x.places s w n)).1 (eq-eqb c (owner_of n) own, fitting-fits x c s w h)) in
            ap at (answered-good x a s w sound.kept (ltb-true c 2 p) h)
            ∙ (λ i. becomes (unchanged x.places n (to n).place k other i) (cond (ne_eqb k n other i) (to n).outcome NOTHING))

    -- where it does
    reached : fits_from x a s w k ≡ true → at (answered x a s w) ≡ to k
    reached e =
        let both = (and-eq-true_iff (eqb c (owner_of k)) (fits_at x.places s w k)).0 e in
        let own : c ≡ owner_of k = eqb-true c (owner_of k) both.0 in
        let is : n ≡ k = ap (λ (d : ℕ). fitting_of x d s w) own ∙ fitting-is s w both.1 in
        ap at (answered-good x a s w sound.kept (omega (arith, own, here)) (omega (arith, is, own)))
        ∙ ap (λ (j : ℕ). at (stepped x j w)) is
        ∙ (λ i. becomes (changed x.places k (to k).place inside i) (cond (eq-eqb k k refl i) (to k).outcome NOTHING))

    reply-step : at (answered x a s w) ≡ step_by x k (reply a s w)
    unfolding step_by
    reply-step =
        by-test (fits_from x a s w k)
        (λ e. reached e ∙ sym (ap (λ (b : Bool). cond b (to k) (becomes (place_at x.places k) NOTHING)) e))
        (λ e. passed e ∙ sym (ap (λ (b : Bool). cond b (to k) (becomes (place_at x.places k) NOTHING)) e))

  tick-step : becomes (place_at (ticking x).state.places k) (get_or (ticking x).reports k nothing).outcome ≡ step_by x k tick
  unfolding step_by
  tick-step = λ i. becomes (tick-each x sound.kept k i) (tick-tells x sound.kept k i).outcome

  begin-step : (a : Asked) → begins k (line_of x (begin a)) ≡ false → place_at (begun_by x a).state.places k ≡ place_at x.places k
  unfolding begins line_of
  begin-step a e =
      by-test (is_good (begun_by x a).verdict)
      (λ g. begin-others x a g k (eqb-false k (begun_by x a).place (simp g at e)))
      (λ g. ap (λ (y : Begun). place_at y.state.places k) (begin-refused x a g))

  -- the place and what is told of it, after a call that does not open it
  pub each_step : (c : Call) → begins k (line_of x c) ≡ false → becomes (place_at (after x c).places k) (tells k (line_of x c)) ≡ step_by x k c
  unfolding after tells line_of step_by
  each_step (begin a) e = ap (λ (q : Place). becomes q NOTHING) (begin-step a e)
  each_step (reply a s w) e = reply-step a s w
  each_step tick e = tick-step

  -- of a reply: the place that it fits, and one that it does not
  module _ (a : List ℕ) (s : ℕ) (w : Reply) where
    pub reply-fits : fits_from x a s w k ≡ true
        → becomes (place_at (answered x a s w).state.places k) (tells k (line_of x (reply a s w))) ≡ replied x.resends w (place_at x.places k)
    unfolding tells line_of
    reply-fits = reached a s w

    pub reply-passes : fits_from x a s w k ≡ false
        → becomes (place_at (answered x a s w).state.places k) (tells k (line_of x (reply a s w))) ≡ becomes (place_at x.places k) NOTHING
    unfolding tells line_of
    reply-passes = passed a s w

-- the place that a beginning takes
pub taken-opened : (x : Exchanges) → Sound x → (a : Asked) → is_good (begun_by x a).verdict ≡ true
    → place_at (begun_by x a).state.places (begun_by x a).place ≡ opened (begun_by x a).serial (mode_of a.draft.command)
taken-opened x sound a e =
    ap (λ (y : Exchanges). place_at y.places (begun_by x a).place) (begun-state x a e)
    ∙ changed x.places (begun_by x a).place (opened (begun_by x a).serial (mode_of a.draft.command)) (inside x sound (begun_by x a).place (begun-inside x a e))
