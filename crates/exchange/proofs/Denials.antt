-- When a place is told resent and failed: exactly when a call denies it, by the resends that were made. By the rule for one place. Assumes nothing.
use Prim.Native.Nat.{ℕ, ◌+◌, ◌≤◌, ◌<◌}
use native.Mathlib.Omega.{arith}
use mathlib.Core.Bool.{Bool, true, false, cond, false≢true, and-eq-true_iff}
use mathlib.Core.Logic.{◌↔◌}
use mathlib.Core.Path.{◌≡◌, refl, sym, ap, subst⁻¹, ◌∙◌}
use borrow.Author.Tests.{ltb-true, ltb-false, lt-ltb, le-ltb, eqb-true, eqb-false}
use lib.Dec.{ltb, eqb}
use Rattle.place.specs.declared.Place.{Place}
use Rattle.place.specs.declared.Reply.TheVariants.{Confirm, Answer, Deny, BadAnswer}
use Rattle.place.specs.Steps.{Step}
use Rattle.place.specs.Rules.{free, is_open, keeps}
use Rattle.place.specs.Steps.{NOTHING, CONFIRMED, ANSWERED, RESENT, FAILED, once_more, one_older, becomes, denied, ticked, fits, replied}
use Rattle.place.proofs.Answers.{sent-again, has-failed}
use Rattle.place.proofs.Kept.{holds-is, fits-holds, open_kept}
use Rattle.places.specs.Rows.{place_at, owner_of}
use Rattle.exchange.specs.declared.Exchanges.{Exchanges}
use Rattle.exchange.specs.Calls.{Call, begin, reply, tick, after, Sound}
use Rattle.exchange.specs.Logs.{line_of, begins, tells}
use Rattle.exchange.specs.Steps.{fits_from, step_by, is_denial, denies}
use Rattle.exchange.specs.Table.{centre_of}
use Rattle.exchange.proofs.Kept.{rules-of}
use Rattle.exchange.proofs.Steps.{each_step}

module _ (x : Exchanges) (k : ℕ) where
  abbrev T : ℕ
  T = x.timeout

  abbrev R : ℕ
  R = x.resends

  abbrev p : Place
  p = place_at x.places k

  -- a call that denies the place makes of it what a denial does
  pub denial-step : (c : Call) → denies x k c ≡ true → step_by x k c ≡ denied R p
  unfolding denies step_by replied ticked
  denial-step (begin a) h = absurd (false≢true h)
  denial-step (reply a s Confirm) h = absurd (false≢true h)
  denial-step (reply a s Answer) h = absurd (false≢true h)
  denial-step (reply a s Deny) h = simp h
  denial-step (reply a s BadAnswer) h = simp h
  denial-step tick h =
      let a = (and-eq-true_iff (is_open p.mode) (eqb (p.age + 1) T)).0 h in
      let reached = eqb-true (p.age + 1) T a.1 in
      simp (a.0, le-ltb (p.age + 1) T (omega (arith, reached)))

  -- a tick that does not: nothing is told, and an open place is one tick older
  pub older-step : is_open p.mode ≡ true → keeps T R p ≡ true → denies x k tick ≡ false → step_by x k tick ≡ becomes (one_older p) NOTHING
  unfolding denies step_by ticked
  older-step o q h =
      let young = (open_kept T R p o q).0 in
      let n : p.age + 1 ≡ T → ⊥ = eqb-false (p.age + 1) T (simp o at h) in
      simp (o, lt-ltb (p.age + 1) T (omega (arith, young, n)))

  -- neither resent nor failed
  abbrev Other : ℕ → Type 0
  Other o = (o ≡ RESENT → ⊥) × (o ≡ FAILED → ⊥)

  nothing-told : Other NOTHING
  nothing-told = (λ e. omega (arith, e), λ e. omega (arith, e))

  freed-tells : (b : Bool) (o : ℕ) → Other o → Other (cond b (becomes free o) (becomes p NOTHING)).outcome
  freed-tells true o h = h
  freed-tells false o h = nothing-told

  -- a call that does not deny the place tells neither
  other_step : keeps T R p ≡ true → (c : Call) → denies x k c ≡ false → Other (step_by x k c).outcome
  unfolding denies step_by replied ticked
  other_step q (begin a) h = nothing-told
  other_step q (reply a s Confirm) h = freed-tells (fits_from x a s Confirm k) CONFIRMED (λ e. omega (arith, e), λ e. omega (arith, e))
  other_step q (reply a s Answer) h = freed-tells (fits_from x a s Answer k) ANSWERED (λ e. omega (arith, e), λ e. omega (arith, e))
  other_step q (reply a s Deny) h = subst⁻¹ (λ (b : Bool). Other (cond b (denied R p) (becomes p NOTHING)).outcome) h nothing-told
  other_step q (reply a s BadAnswer) h = subst⁻¹ (λ (b : Bool). Other (cond b (denied R p) (becomes p NOTHING)).outcome) h nothing-told
  other_step q tick h = by_mode (is_open p.mode) refl
    where
      by_mode : (o : Bool) → is_open p.mode ≡ o → Other (ticked T R p).outcome
      by_mode true o = subst⁻¹ (λ (y : Step). Other y.outcome) (older-step o q h) nothing-told
      by_mode false o =
          let older = cond (ltb (p.age + 1) T) (becomes (one_older p) NOTHING) (denied R p) in
          subst⁻¹ (λ (b : Bool). Other (cond b older (becomes p NOTHING)).outcome) o nothing-told

  -- only an open place is denied
  denies-open : (c : Call) → denies x k c ≡ true → is_open p.mode ≡ true
  unfolding denies
  denies-open (begin a) h = absurd (false≢true h)
  denies-open (reply a s w) h =
      let fit = ((and-eq-true_iff (is_denial w) (fits_from x a s w k)).0 h).1 in
      (holds-is s p (fits-holds s w p ((and-eq-true_iff (eqb (centre_of x a) (owner_of k)) (fits s w p)).0 fit).1)).0
  denies-open tick h = ((and-eq-true_iff (is_open p.mode) (eqb (p.age + 1) T)).0 h).0

module _ (x : Exchanges) (sound : Sound x) (k : ℕ) (here : k < 16) where
  abbrev t : ℕ
  t = x.timeout

  abbrev r : ℕ
  r = x.resends

  abbrev q : Place
  q = place_at x.places k

  kept : keeps t r q ≡ true
  kept = (rules-of x sound.kept).keeping k here

  told-step : (c : Call) → tells k (line_of x c) ≡ (step_by x k c).outcome
  unfolding tells line_of step_by begins
  told-step (begin a) = refl
  told-step (reply a s w) = ap (λ (y : Step). y.outcome) (each_step x sound k here (reply a s w) refl)
  told-step tick = ap (λ (y : Step). y.outcome) (each_step x sound k here tick refl)

  -- a beginning tells nothing of a place
  told-unopened : (c : Call) → (tells k (line_of x c) ≡ NOTHING → ⊥) → begins k (line_of x c) ≡ false
  unfolding tells line_of begins
  told-unopened (begin a) h = absurd (h refl)
  told-unopened (reply a s w) h = refl
  told-unopened tick h = refl

  -- what a denial tells
  denial-told : (c : Call) → denies x k c ≡ true → tells k (line_of x c) ≡ (denied r q).outcome
  denial-told c d = told-step c ∙ ap (λ (y : Step). y.outcome) (denial-step x k c d)

  denial-place : (c : Call) → denies x k c ≡ true → begins k (line_of x c) ≡ false → place_at (after x c).places k ≡ (denied r q).place
  denial-place c d o = ap (λ (y : Step). y.place) (each_step x sound k here c o ∙ denial-step x k c d)

  resent-told : (c : Call) → denies x k c ≡ true → q.resends < r → tells k (line_of x c) ≡ RESENT
  resent-told c d h = denial-told c d ∙ ap (λ (y : Step). y.outcome) (sym (sent-again q r h))

  failed-told : (c : Call) → denies x k c ≡ true → r ≤ q.resends → tells k (line_of x c) ≡ FAILED
  failed-told c d h = denial-told c d ∙ ap (λ (y : Step). y.outcome) (sym (has-failed q r free refl h))

  -- a place that is told resent or failed was denied
  was-denied : (c : Call) → (Other x k (tells k (line_of x c)) → ⊥) → denies x k c ≡ true
  was-denied c n = by-test (denies x k c) refl
    where
      by-test : (b : Bool) → denies x k c ≡ b → b ≡ true
      by-test true d = refl
      by-test false d = absurd (n (subst⁻¹ (Other x k) (told-step c) (other_step x k kept c d)))

  -- "with fewer than R resends it is resent, .. else it has failed"
  pub resent-when : (c : Call) → (tells k (line_of x c) ≡ RESENT) ↔ ((denies x k c ≡ true) × (q.resends < r))
  resent-when c = (λ e. by-test e (was-denied c (λ o. o.0 e)) (ltb q.resends r) refl, λ h. resent-told c h.0 h.1)
    where
      by-test : tells k (line_of x c) ≡ RESENT → denies x k c ≡ true → (b : Bool) → ltb q.resends r ≡ b → (denies x k c ≡ true) × (q.resends < r)
      by-test e d true u = (d, ltb-true q.resends r u)
      by-test e d false u = absurd (omega (arith, sym e ∙ failed-told c d (ltb-false q.resends r u)))

  pub failed-when : (c : Call) → (tells k (line_of x c) ≡ FAILED) ↔ ((denies x k c ≡ true) × (q.resends ≡ r))
  failed-when c = (λ e. by-test e (was-denied c (λ o. o.1 e)) (ltb q.resends r) refl, λ h. failed-told c h.0 (omega (arith, h.1)))
    where
      by-test : tells k (line_of x c) ≡ FAILED → denies x k c ≡ true → (b : Bool) → ltb q.resends r ≡ b → (denies x k c ≡ true) × (q.resends ≡ r)
      by-test e d true u = absurd (omega (arith, sym e ∙ resent-told c d (ltb-true q.resends r u)))
      by-test e d false u = (d, omega (arith, ltb-false q.resends r u, (open_kept t r q (denies-open x k c d) kept).1))

  -- what becomes of it: "one resend more and age 0", "freed"
  pub resent-place : (c : Call) → tells k (line_of x c) ≡ RESENT → place_at (after x c).places k ≡ once_more q
  resent-place c e =
      let h = (resent-when c).0 e in
      denial-place c h.0 (told-unopened c (λ n. omega (arith, sym e ∙ n))) ∙ ap (λ (y : Step). y.place) (sym (sent-again q r h.1))

  pub failed-place : (c : Call) → tells k (line_of x c) ≡ FAILED → place_at (after x c).places k ≡ free
  failed-place c e =
      let h = (failed-when c).0 e in
      denial-place c h.0 (told-unopened c (λ n. omega (arith, sym e ∙ n)))
      ∙ ap (λ (y : Step). y.place) (sym (has-failed q r free refl (omega (arith, h.1))))

  -- any other tick is silent, and an open place is one tick older
  pub tick-silent : is_open q.mode ≡ true → denies x k tick ≡ false
      → becomes (place_at (after x tick).places k) (tells k (line_of x tick)) ≡ becomes (one_older q) NOTHING
  unfolding begins line_of
  tick-silent o h = each_step x sound k here tick refl ∙ older-step x k o kept h
