-- The calls' answers, one law for each test that decides. Assumes nothing.
use Prim.Native.Nat.{ℕ, ◌-◌, ◌≤◌, ◌<◌}
use native.Mathlib.Omega.{arith}
use Rattle.std.specs.Prelude.{Some, None}
use mathlib.Core.Bool.{Bool, true, false, cond, and-eq-true_iff, false≢true}
use mathlib.Core.List.{List, map}
use mathlib.Core.Path.{◌≡◌, refl, sym, ap, subst⁻¹, ◌∙◌}
use borrow.Author.Tests.{lt-ltb, le-ltb, ltb-true, ltb-false}
use lib.Dec.{ltb}
use lib.ListN.{replicate}
use Rattle.octets.proofs.Searches.{first-from}
use Rattle.verdict.specs.Refusals.{STATE, SETTING, FULL, STRAY, CENTRE}
use Rattle.verdict.specs.Orders.{good, refusal, is_good, in_order}
use Rattle.place.specs.declared.Reply.{Reply}
use Rattle.exchange.specs.declared.Exchanges.{Exchanges}
use Rattle.exchange.specs.Table.{Found}
use Rattle.exchange.specs.declared.Replied.{Replied}
use Rattle.places.specs.declared.Swept.{Swept}
use Rattle.places.specs.Rows.{free_at, lowest_free, low_of, end_of, all_sound, aged, report, swept}
use Rattle.exchange.specs.Table.{address_at, centre_of, settled, legal, blank, made, lowest_of, serial_of, unfound, found, placed, fitting_of, stepped, untold, answered, unticked, ticked_by, ticking}

-- making a table
module _ (t r : ℕ) (a b : List ℕ) where
  pub made-refused : settled t r a b ≡ false → made t r a b ≡ record { verdict = refusal SETTING 0; state = blank 0 0 (replicate 6 0) (replicate 6 0) }
  unfolding made in_order
  made-refused e = simp e

  pub made-good : settled t r a b ≡ true → made t r a b ≡ record { verdict = good; state = blank t r a b }
  unfolding made in_order
  made-good e = simp e

-- a state that keeps the rules
module _ (x : Exchanges) where
  pub legal-parts : legal x ≡ true
      → (settled x.timeout x.resends (address_at x 0) (address_at x 1) ≡ true) × (all_sound x.timeout x.resends x.places ≡ true)
  unfolding legal
  legal-parts e =
      (and-eq-true_iff (settled x.timeout x.resends (address_at x 0) (address_at x 1)) (all_sound x.timeout x.resends x.places)).0 e

  -- finding a place and a serial
  module _ (c : ℕ) where
    pub found-state : legal x ≡ false → found x c ≡ unfound STATE
    unfolding found in_order
    found-state e = simp e

    pub found-outside : legal x ≡ true → 2 ≤ c → found x c ≡ unfound CENTRE
    unfolding found in_order
    found-outside e h = simp (e, le-ltb c 2 h)

    pub found-full : legal x ≡ true → c < 2 → end_of c ≤ lowest_of x c → found x c ≡ unfound FULL
    unfolding found in_order
    found-full e o h = simp (e, lt-ltb c 2 o, le-ltb (lowest_of x c) (end_of c) h)

    pub found-good : legal x ≡ true → c < 2 → lowest_of x c < end_of c → found x c ≡ record { verdict = good; place = lowest_of x c; serial = serial_of x c }
    unfolding found in_order
    found-good e o h = simp (e, lt-ltb c 2 o, lt-ltb (lowest_of x c) (end_of c) h)

    -- a place that was found is one of the centre's, of a table that keeps the rules
    pub record Inside : Type 0 where
      pub kept : legal x ≡ true
      pub centre : c < 2
      pub low : low_of c ≤ (found x c).place
      pub high : (found x c).place < end_of c

    pub found_inside : is_good (found x c).verdict ≡ true → Inside
    unfolding lowest_free
    found_inside = by-test (legal x) refl (ltb c 2) refl (ltb (lowest_of x c) (end_of c)) refl
      where
        refuted : (n : ℕ) → is_good (refusal n 0) ≡ false → found x c ≡ unfound n → is_good (found x c).verdict ≡ true → ⊥
        refuted n b e g = false≢true (sym b ∙ sym (ap (λ (y : Found). is_good y.verdict) e) ∙ g)

        by-test : (l : Bool) → legal x ≡ l → (o : Bool) → ltb c 2 ≡ o → (f : Bool) → ltb (lowest_of x c) (end_of c) ≡ f → is_good (found x c).verdict ≡ true → Inside
        by-test false e o p f q g = absurd (refuted STATE refl (found-state e) g)
        by-test true e false p f q g = absurd (refuted CENTRE refl (found-outside e (ltb-false c 2 p)) g)
        by-test true e true p false q g = absurd (refuted FULL refl (found-full e (ltb-true c 2 p) (ltb-false (lowest_of x c) (end_of c) q)) g)
        by-test true e true p true q g =
            let h = ltb-true (lowest_of x c) (end_of c) q in
            let is = ap (λ (y : Found). y.place) (found-good e (ltb-true c 2 p) h) in
            record {
              kept = e;
              centre = ltb-true c 2 p;
              low = subst⁻¹ (λ (k : ℕ). low_of c ≤ k) is (first-from (free_at x.places) (low_of c) (end_of c - low_of c));
              high = subst⁻¹ (λ (k : ℕ). k < end_of c) is h;
            }

    -- where one was found
    module _ (e : is_good (found x c).verdict ≡ true) where
      pub found-lowest : (found x c).place ≡ lowest_of x c
      unfolding found
      found-lowest = simp e

      pub found-serial : (found x c).serial ≡ serial_of x c
      unfolding found
      found-serial = simp e

  -- a reply
  module _ (a : List ℕ) (s : ℕ) (w : Reply) where
    pub answered-state : legal x ≡ false → answered x a s w ≡ untold x (refusal STATE 0)
    unfolding answered in_order
    answered-state e = simp e

    pub answered-outside : legal x ≡ true → 2 ≤ centre_of x a → answered x a s w ≡ untold x (refusal STRAY 0)
    unfolding answered in_order
    answered-outside e h = simp (e, le-ltb (centre_of x a) 2 h)

    pub answered-stray : legal x ≡ true → centre_of x a < 2 → end_of (centre_of x a) ≤ fitting_of x (centre_of x a) s w → answered x a s w ≡ untold x (refusal STRAY 0)
    unfolding answered in_order
    answered-stray e o h = simp (e, lt-ltb (centre_of x a) 2 o, le-ltb (fitting_of x (centre_of x a) s w) (end_of (centre_of x a)) h)

    pub answered-good : legal x ≡ true → centre_of x a < 2 → fitting_of x (centre_of x a) s w < end_of (centre_of x a)
        → answered x a s w ≡ stepped x (fitting_of x (centre_of x a) s w) w
    unfolding answered in_order
    answered-good e o h = simp (e, lt-ltb (centre_of x a) 2 o, lt-ltb (fitting_of x (centre_of x a) s w) (end_of (centre_of x a)) h)

    -- what holds of a reply by any of its ways out
    pub answered-ways : (P : Replied → Type 0) → P (untold x (refusal STATE 0)) → P (untold x (refusal STRAY 0)) → ((k : ℕ) → k < 16 → P (stepped x k w))
        → P (answered x a s w)
    answered-ways P broken stray step = by-test (legal x) refl (ltb c 2) refl (ltb (fitting_of x c s w) (end_of c)) refl
      where
        c : ℕ
        c = centre_of x a

        by-test : (l : Bool) → legal x ≡ l → (o : Bool) → ltb c 2 ≡ o → (f : Bool) → ltb (fitting_of x c s w) (end_of c) ≡ f → P (answered x a s w)
        by-test false e o p f q = subst⁻¹ P (answered-state e) broken
        by-test true e false p f q = subst⁻¹ P (answered-outside e (ltb-false c 2 p)) stray
        by-test true e true p false q = subst⁻¹ P (answered-stray e (ltb-true c 2 p) (ltb-false (fitting_of x c s w) (end_of c) q)) stray
        by-test true e true p true q =
            let o = ltb-true c 2 p in
            let h = ltb-true (fitting_of x c s w) (end_of c) q in
            subst⁻¹ P (answered-good e o h) (step (fitting_of x c s w) (omega (arith, o, h)))

  -- the tick
  pub ticking-state : legal x ≡ false → ticking x ≡ unticked x (refusal STATE 0)
  unfolding ticking in_order
  ticking-state e = simp e

  pub ticking-by : legal x ≡ true → ticking x ≡ ticked_by x good (swept x.timeout x.resends x.places)
  unfolding ticking in_order
  ticking-by e = simp e

  -- what it makes of the places and tells of them
  abbrev pub all-ticked : Swept
  all-ticked = record { places = map (aged x.timeout x.resends) x.places; reports = map (report x.timeout x.resends) x.places }

  pub sweeps : (b : Bool) → all_sound x.timeout x.resends x.places ≡ b → swept x.timeout x.resends x.places ≡ cond b (Some all-ticked) None
  unfolding swept
  sweeps b e = ap (λ (g : Bool). cond g (Some all-ticked) None) e

  pub ticking-good : legal x ≡ true
      → ticking x
      ≡ record {
        verdict = good;
        reports = map (report x.timeout x.resends) x.places;
        state = placed x (map (aged x.timeout x.resends) x.places);
      }
  ticking-good e = ticking-by e ∙ ap (ticked_by x good) (sweeps true (legal-parts e).1)
