-- An open place's age and resends are what the log has of it: the ticks since its last sending, and the resends told since its beginning.
-- By one line more, from a fresh table, in which no place is open. Assumes nothing.
use Prim.Native.Nat.{ℕ, ◌+◌, ◌≤◌, ◌<◌}
use native.Mathlib.Omega.{arith}
use mathlib.Core.Bool.{Bool, true, false, cond, false≢true, and-eq-true_iff}
use mathlib.Core.List.{List, [], ◌∷◌, reverse_aux, reverse}
use mathlib.Core.Path.{◌≡◌, sym, ap, subst, subst⁻¹, ◌∙◌}
use borrow.Author.Tests.{eqb-true}
use lib.Dec.{eqb}
use lib.ListN.{replicate, get_or-replicate}
use Rattle.octets.proofs.Flags.{by-test}
use Rattle.verdict.specs.declared.Verdict.{Verdict}
use Rattle.verdict.specs.Orders.{is_good}
use Rattle.place.specs.declared.Place.{Place}
use Rattle.place.specs.Steps.{Step}
use Rattle.place.specs.Rules.{free, opened, is_open}
use Rattle.place.proofs.Lives.{On, Turn, on, over}
use Rattle.places.specs.Rows.{place_at}
use Rattle.exchange.specs.declared.Exchanges.{Exchanges}
use Rattle.exchange.specs.Table.{blank, made}
use Rattle.exchange.specs.Calls.{Call, after, run, Sound}
use Rattle.exchange.specs.Logs.{Line, of_begin, of_reply, of_tick, line_of, logged_by, logged, is_tick, begins, tells, answers, resends, sends, count, up_to}
use Rattle.exchange.proofs.Kept.{made-sound}
use Rattle.exchange.proofs.Turns.{comes, Acts, call-acts}

-- the place at k was begun, its age is the ticks since it was last sent, and its resends are those told since it was begun; the latest line stands first
pub record Accounted (k : ℕ) (p : Place) (h : List Line) : Type 0 where
  pub begun : 1 ≤ count (begins k) h
  pub aged : p.age ≡ count is_tick (up_to (sends k) h)
  pub resent : p.resends ≡ count (resends k) (up_to (begins k) h)

-- so is every place that is open
abbrev pub Accounts : ℕ → Place → List Line → Type 0
Accounts k p h = is_open p.mode ≡ true → Accounted k p h

-- one line more: a beginning
just-begun : (k s m : ℕ) (l : Line) (h : List Line) → begins k l ≡ true → Accounted k (opened s m) (l ∷ h)
unfolding count up_to
just-begun k s m l h b = record { begun = simp b (omega arith); aged = simp b; resent = simp b }

-- or one after which the exchange goes on
goes_on : (t r k : ℕ) (p q : Place) (l : Line) (h : List Line) (f : Bool) → Accounted k p h → begins k l ≡ false
    → On t r p (cond (is_tick l) 1 0) f (record { place = q; outcome = tells k l }) → Accounted k q (l ∷ h)
unfolding count up_to
goes_on t r k p q l h f a u g =
    record {
      begun = simp u (omega (arith, a.begun));
      aged = simp u (by-resend (resends k l) g.aged);
      resent = simp u (omega (arith, a.resent, g.resent));
    }
  where
    by-resend : (b : Bool) → q.age ≡ cond b 0 (cond (is_tick l) 1 0 + p.age) → q.age ≡ count is_tick (cond b [] (l ∷ up_to (sends k) h))
    by-resend true e = e
    by-resend false e = omega (arith, e, a.aged)

-- the line of a beginning that was taken at a place
begins-line : (k : ℕ) (l : Line) → begins k l ≡ true → (v : Verdict) × (s : ℕ) × (l ≡ of_begin v k s) × (is_good v ≡ true)
unfolding begins
begins-line k (of_begin v j s) e =
    let g = (and-eq-true_iff (is_good v) (eqb k j)).0 e in
    (v, s, ap (λ (n : ℕ). of_begin v n s) (sym (eqb-true k j g.1)), g.0)
begins-line k (of_reply v j o) e = absurd (false≢true e)
begins-line k (of_tick v rs) e = absurd (false≢true e)

module _ (k : ℕ) (here : k < 16) where
  module _ (x y : Exchanges) (l : Line) (acts : Acts x l y) (h : List Line) (a : Accounts k (place_at x.places k) h) where
    abbrev p : Place
    p = place_at x.places k

    abbrev q : Place
    q = place_at y.places k

    -- an open place
    from-open : is_open p.mode ≡ true → Accounts k q (l ∷ h)
    unfolding is_open
    from-open o e = let t = acts.turned k here o in by_turn t.turn t.own.place
      where
        by_turn : Turn x.timeout x.resends p (cond (is_tick l) 1 0) (answers k l) (comes y k l) → begins k l ≡ false → Accounted k q (l ∷ h)
        by_turn (on g) u = goes_on x.timeout x.resends k p q l h (answers k l) (a o) u g
        by_turn (over g) u = absurd (false≢true (subst (λ (z : Place). is_open z.mode ≡ true) g.freed e))

    -- a free one, which a beginning took
    from-free : is_open p.mode ≡ false → Accounts k q (l ∷ h)
    from-free o e =
        by-test (begins k l)
        (λ u.
        let b = begins-line k l u in
        let begun = acts.opens b.0 k b.1 b.2 b.3 in
        subst⁻¹ (λ (z : Place). Accounted k z (l ∷ h)) begun.is (just-begun k b.1 begun.mode l h u))
        (λ u. absurd (false≢true (sym o ∙ sym (ap (λ (z : Step). is_open z.place.mode) (acts.stayed k here o u)) ∙ e)))

    one_line : Accounts k q (l ∷ h)
    one_line = by-test (is_open p.mode) from-open from-free

  -- over any sequence of calls
  pub accounts-run : (x : Exchanges) → Sound x → (h : List Line) → Accounts k (place_at x.places k) h → (cs : List Call)
      → Accounts k (place_at (run x cs).places k) (reverse_aux (logged x cs) h)
  unfolding run logged_by
  accounts-run x sound h a [] = a
  accounts-run x sound h a (c ∷ cs) =
      let acts = call-acts x sound c in
      accounts-run (after x c) acts.sound (line_of x c ∷ h) (one_line x (after x c) (line_of x c) acts h a) cs

  -- in a fresh table no place is open
  pub none_open : (t r : ℕ) (a b : List ℕ) → place_at (made t r a b).state.places k ≡ free
  unfolding made
  none_open t r a b = by-verdict (is_good (made t r a b).verdict)
    where
      by-verdict : (g : Bool) → place_at (cond g (blank t r a b) (blank 0 0 (replicate 6 0) (replicate 6 0))).places k ≡ free
      by-verdict true = get_or-replicate 16 k free free here
      by-verdict false = get_or-replicate 16 k free free here

  pub accounted : (t r : ℕ) (a b : List ℕ) → is_good (made t r a b).verdict ≡ true → (cs : List Call)
      → Accounts k (place_at (run (made t r a b).state cs).places k) (reverse (logged (made t r a b).state cs))
  unfolding is_open
  accounted t r a b g =
      accounts-run (made t r a b).state (made-sound t r a b g) []
      (subst⁻¹ (λ (p : Place). Accounts k p []) (none_open t r a b) (λ e. absurd (false≢true e)))
