-- The tick's loop: the places from i on have taken their step and are reported. Assumes nothing.
use Prim.Native.Nat.{ℕ, suc, ◌+◌, ◌-◌, ◌≤◌, ◌<◌}
use native.Mathlib.Omega.{arith}
use mathlib.Core.Bool.{Bool, true, ◌&&◌, and-eq-true_iff}
use mathlib.Core.List.{List}
use mathlib.Core.Path.{◌≡◌, refl, sym, ap, subst, ◌∙◌}
use borrow.Author.Tests.{eqb-true, eq-eqb}
use lib.Dec.{eqb}
use lib.ListN.{length, get_or, set, replicate, get_or-replicate}
use Rattle.octets.proofs.Fill.{filled_from, fill_none, fill-all, fill-turn, fill_on}
use Rattle.place.specs.declared.Place.{Place}
use Rattle.place.specs.declared.Step.{Step as OfEnum}
use Rattle.place.specs.declared.Outcome.TheVariants.{Nothing}
use Rattle.place.specs.Outcomes.{number_of, in_numbers}
use Rattle.std.specs.Prelude.{Option, Some}
use Rattle.place.specs.Rules.{free, is_open, is_zero}
use Rattle.place.specs.Steps.{NOTHING, Step, one_older, denied, ticked}
use Rattle.place.proofs.Answers.{older, run_out}
use Rattle.place.proofs.Kept.{zero-free}
use Rattle.place.proofs.Lives.{ticked-free}
use Rattle.places.specs.declared.Report.{Report}
use Rattle.places.specs.declared.Swept.{Swept}
use Rattle.places.specs.Rows.{place_at, aged, report, nothing, swept}
use Rattle.places.specs.Held.{Weighed}
use Rattle.places.proofs.Loops.{Looked, looked-sound}

-- a report by default tells nothing
pub silent : (x : Report) → (x.outcome ≡ 0) × (x.serial ≡ 0) → replicate 16 x ≡ replicate 16 nothing
silent x e = λ j. replicate 16 (record { outcome = e.0 j; serial = e.1 j })

pub record SweptTo (t r : ℕ) (ps now : List Place) (reports : List Report) (i : ℕ) : Type 0 where
  pub stepped : now ≡ filled_from (aged t r) ps ps i
  pub told : reports ≡ filled_from (report t r) (replicate 16 nothing) ps i

-- of two tests that hold the first holds
pub first-holds : (k o b : Bool) → k ≡ o && b → k ≡ true → o ≡ true
first-holds k o b told e = ((and-eq-true_iff o b).0 (sym told ∙ e)).0

module _ (t r : ℕ) (ps : List Place) (long : length ps ≡ 16) where
  pub none-swept : (reports : List Report) → reports ≡ replicate 16 nothing → SweptTo t r ps ps reports 16
  none-swept reports e =
      record {
        stepped = subst (λ (n : ℕ). ps ≡ filled_from (aged t r) ps ps n) long (fill_none (aged t r) ps ps refl);
        told = e ∙ subst (λ (n : ℕ). replicate 16 nothing ≡ filled_from (report t r) (replicate 16 nothing) ps n) long (fill_none (report t r) (replicate 16 nothing) ps (sym long));
      }

  module _ (now : List Place) (reports : List Report) (i : ℕ) (below : 0 < i) (few : i ≤ 16) (s : SweptTo t r ps now reports i) where
    abbrev p : Place
    p = place_at ps (i - 1)

    up : i ≡ suc (i - 1)
    up = omega arith

    -- an open one: y is what is told of it
    open-swept : (step : OfEnum) (y : Report) → in_numbers step ≡ ticked t r p → y ≡ record { outcome = number_of step.outcome; serial = p.serial }
        → SweptTo t r ps (set now (i - 1) step.place) (set reports (i - 1) y) (i - 1)
    open-swept step y e is =
        let of : ℕ → Report = λ o. record { outcome = o; serial = p.serial } in
        record {
          stepped =
              (λ j. set ((s.stepped ∙ ap (filled_from (aged t r) ps ps) up) j) (i - 1) (e j).place)
              ∙ fill-turn (aged t r) ps ps (i - 1) free refl (omega arith);
          told =
              ap (set reports (i - 1)) is
              ∙ (λ j. set ((s.told ∙ ap (filled_from (report t r) (replicate 16 nothing) ps) up) j) (i - 1) (of (e j).outcome))
              ∙ fill-turn (report t r) (replicate 16 nothing) ps (i - 1) free (sym long) (omega arith);
        }

    module _ (open_now : is_open p.mode ≡ true) (y : Report) where
      -- one that gets older
      pub young-swept : p.age + 1 < t → y ≡ record { outcome = NOTHING; serial = p.serial }
          → SweptTo t r ps (set now (i - 1) (one_older p)) (set reports (i - 1) y) (i - 1)
      young-swept h is = open-swept (record { place = one_older p; outcome = Nothing }) y (older p true (sym open_now) t r refl h) is

      -- one whose age comes to the timeout
      pub old-swept : (step : OfEnum) → t ≤ p.age + 1 → in_numbers step ≡ denied r p → y ≡ record { outcome = number_of step.outcome; serial = p.serial }
          → SweptTo t r ps (set now (i - 1) step.place) (set reports (i - 1) y) (i - 1)
      old-swept step h e is = open-swept step y (run_out p true (sym open_now) t r (in_numbers step) refl h e) is

    unserial : is_zero p ≡ true → p.serial ≡ 0
    unfolding is_zero
    unserial e =
        let a = (and-eq-true_iff (eqb p.serial 0 && eqb p.mode 0 && eqb p.resends 0) (eqb p.age 0)).0 e in
        let b = (and-eq-true_iff (eqb p.serial 0 && eqb p.mode 0) (eqb p.resends 0)).0 a.0 in
        eqb-true p.serial 0 ((and-eq-true_iff (eqb p.serial 0) (eqb p.mode 0)).0 b.0).0

    -- one of zeros
    pub zero-swept : (ws : List ℕ) → Weighed ps ws → get_or ws (i - 1) 0 ≡ 0 → SweptTo t r ps now reports (i - 1)
    zero-swept ws w e =
        let yes = sym (w.tells (i - 1) (omega arith)) ∙ eq-eqb (get_or ws (i - 1) 0) 0 e in
        let same = ticked-free t r p (zero-free p yes) in
        let silent : report t r p ≡ nothing = λ j. record { outcome = (same j).outcome; serial = unserial yes j } in
        record {
          stepped =
              s.stepped
              ∙ ap (filled_from (aged t r) ps ps) up
              ∙ fill_on (aged t r) ps ps (i - 1) free free refl (omega arith) (sym (ap (λ (x : Step). x.place) same));
          told =
              s.told
              ∙ ap (filled_from (report t r) (replicate 16 nothing) ps) up
              ∙ fill_on (report t r) (replicate 16 nothing) ps (i - 1) nothing free (sym long) (omega arith)
              (get_or-replicate 16 (i - 1) nothing nothing (omega arith) ∙ sym silent);
        }

  pub all-swept : (row : List ℕ) (now : List Place) (reports : List Report) (i : ℕ) → i ≤ 0 → Looked t r ps row i → SweptTo t r ps now reports i
      → ◌≡◌ {A = Option Swept} (swept t r ps) (Some (record { places = now; reports = reports }))
  unfolding swept
  all-swept row now reports i h l s =
      let end : i ≡ 0 = omega arith in
      let a = s.stepped ∙ ap (filled_from (aged t r) ps ps) end ∙ fill-all (aged t r) ps ps in
      let b = s.told ∙ ap (filled_from (report t r) (replicate 16 nothing) ps) end ∙ fill-all (report t r) (replicate 16 nothing) ps in
      sym ((λ j. Some (record { places = a j; reports = b j })) ∙ simp (looked-sound t r ps row i h l))

pub ruleset sweeping = (none-swept, zero-swept, all-swept)
