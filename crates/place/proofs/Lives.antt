-- What is left of an exchange's life, in ticks: it starts at (R+1)*T, a tick takes one of it, no call gives any back, and the exchange is over before
-- none is left. By the tests of a tick and a denial. Assumes nothing.
use Prim.Native.Nat.{ℕ, ◌+◌, ◌-◌, ◌*◌, ◌≤◌, ◌<◌}
use native.Mathlib.Omega.{arith}
use native.Mathlib.Nat.{add-mul, one-mul}
use mathlib.Core.Bool.{Bool, true, false, ◌||◌, cond, false≢true}
use mathlib.Core.Path.{◌≡◌, refl, sym, ap, subst⁻¹, ◌∙◌}
use borrow.Author.Tests.{ltb-true, ltb-false, eqb-true}
use lib.Dec.{ltb, eqb}
use Rattle.octets.proofs.Flags.{by-test}
use Rattle.place.specs.declared.Place.{Place}
use Rattle.place.specs.declared.Reply.{Reply}
use Rattle.place.specs.declared.Reply.TheVariants.{Confirm, Answer, Deny, BadAnswer}
use Rattle.place.specs.Steps.{Step}
use Rattle.place.specs.Rules.{free, opened, is_open, keeps}
use Rattle.place.specs.Steps.{NOTHING, CONFIRMED, ANSWERED, RESENT, FAILED, is_end, goes_on, once_more, one_older, becomes, denied, ticked, fits, replied}
use Rattle.place.proofs.Kept.{open_kept, holds-is, fits-holds}

-- (R - resends)*T + (T - age)
abbrev pub left : ℕ → ℕ → Place → ℕ
left t r p = (r - p.resends) * t + (t - p.age)

-- it starts at (R+1)*T
pub left-at-first : (t r s m : ℕ) → left t r (opened s m) ≡ (r + 1) * t
left-at-first t r s m =
    let all : r - 0 ≡ r = omega arith in
    ap (λ (n : ℕ). n * t + (t - 0)) all ∙ omega (arith, add-mul r 1 t, one-mul t)

-- an end is neither nothing nor a resend
pub end-stops : (o : ℕ) → is_end o ≡ true → (goes_on o ≡ false) × (eqb o RESENT ≡ false)
unfolding is_end goes_on
end-stops o = by_tests (eqb o CONFIRMED) refl (eqb o ANSWERED) refl (eqb o FAILED) refl
  where
    Stops : ℕ → Type 0
    Stops n = ((eqb n NOTHING || eqb n RESENT) ≡ false) × (eqb n RESENT ≡ false)

    by_tests : (a : Bool) → eqb o CONFIRMED ≡ a → (b : Bool) → eqb o ANSWERED ≡ b → (c : Bool) → eqb o FAILED ≡ c → (a || b || c) ≡ true → Stops o
    by_tests true d b e c f h = subst⁻¹ Stops (eqb-true o CONFIRMED d) (refl, refl)
    by_tests false d true e c f h = subst⁻¹ Stops (eqb-true o ANSWERED e) (refl, refl)
    by_tests false d false e true f h = subst⁻¹ Stops (eqb-true o FAILED f) (refl, refl)
    by_tests false d false e false f h = absurd (false≢true h)

-- a reply that fits tells something
pub replied-speaks : (r : ℕ) (p : Place) (w : Reply) → eqb (replied r w p).outcome NOTHING ≡ false
unfolding replied denied
replied-speaks r p = by-reply
  where
    denied-speaks : (b : Bool) → eqb (cond b (becomes (once_more p) RESENT) (becomes free FAILED)).outcome NOTHING ≡ false
    denied-speaks true = refl
    denied-speaks false = refl

    by-reply : (w : Reply) → eqb (replied r w p).outcome NOTHING ≡ false
    by-reply Confirm = refl
    by-reply Answer = refl
    by-reply Deny = denied-speaks (ltb p.resends r)
    by-reply BadAnswer = denied-speaks (ltb p.resends r)

-- one resend more takes T of it
one_more : (t r n : ℕ) → n < r → (r - n) * t ≡ (r - (n + 1)) * t + t
one_more t r n h =
    let e : r - n ≡ r - (n + 1) + 1 = omega arith in
    ap (λ (m : ℕ). m * t) e ∙ omega (arith, add-mul (r - (n + 1)) 1 t, one-mul t)

module _ (t r : ℕ) (p : Place) where
  -- a call of n ticks after which the exchange goes on; `fitted` says whether it was a reply that fitted it
  pub record On (n : ℕ) (fitted : Bool) (y : Step) : Type 0 where
    pub told : goes_on y.outcome ≡ true
    pub still_open : is_open y.place.mode ≡ true
    pub same : y.place.serial ≡ p.serial
    pub resent : y.place.resends ≡ cond (eqb y.outcome RESENT) 1 0 + p.resends
    pub aged : y.place.age ≡ cond (eqb y.outcome RESENT) 0 (n + p.age)
    pub falls : n + left t r y.place ≤ left t r p
    pub exactly : fitted ≡ false → n + left t r y.place ≡ left t r p

  -- one that ends it
  pub record Over (n : ℕ) (fitted : Bool) (y : Step) : Type 0 where
    pub told : is_end y.outcome ≡ true
    pub freed : y.place ≡ free
    pub spent : y.outcome ≡ FAILED → p.resends ≡ r
    pub exactly : fitted ≡ false → (y.outcome ≡ FAILED) × (left t r p ≡ n)

  pub data Turn (n : ℕ) (fitted : Bool) (y : Step) : Type 0 where
    on : On n fitted y → Turn n fitted y
    over : Over n fitted y → Turn n fitted y

  module _ (o : is_open p.mode ≡ true) where
    -- a call that does not concern it
    pub passed-turn : (f : Bool) → Turn 0 f (becomes p NOTHING)
    unfolding goes_on
    passed-turn f =
        on (record { told = refl; still_open = o; same = refl; resent = omega arith; aged = omega arith; falls = omega arith; exactly = λ e. omega arith })

    module _ (k : keeps t r p ≡ true) where
      kept : (p.age < t) × (p.resends ≤ r)
      kept = open_kept t r p o k

      -- a denial, by a reply or by the tick that brings the age to T
      denied-turn : (n : ℕ) (f : Bool) → n ≤ t - p.age → (f ≡ false → n ≡ t - p.age) → Turn n f (denied r p)
      unfolding denied goes_on is_end
      denied-turn n f few all = by_count (ltb p.resends r) refl
        where
          by_count : (b : Bool) → ltb p.resends r ≡ b → Turn n f (cond b (becomes (once_more p) RESENT) (becomes free FAILED))
          by_count true e =
              let h = ltb-true p.resends r e in
              let m = one_more t r p.resends h in
              on (record {
                told = refl;
                still_open = o;
                same = refl;
                resent = omega arith;
                aged = refl;
                falls = omega (arith, m, kept);
                exactly = λ e. omega (arith, m, kept, all e);
              })
          by_count false e =
              let h = ltb-false p.resends r e in
              let last : r - p.resends ≡ 0 = omega arith in
              over (record {
                told = refl;
                freed = refl;
                spent = λ e. omega (arith, kept);
                exactly = λ e. (refl, ap (λ (m : ℕ). m * t + (t - p.age)) last ∙ omega (arith, all e));
              })

      -- a tick
      pub ticked-turn : Turn 1 false (ticked t r p)
      unfolding ticked goes_on
      ticked-turn = by-age (is_open p.mode) o (ltb (p.age + 1) t) refl
        where
          by-age : (m : Bool) → m ≡ true → (b : Bool) → ltb (p.age + 1) t ≡ b
              → Turn 1 false (cond m (cond b (becomes (one_older p) NOTHING) (denied r p)) (becomes p NOTHING))
          by-age false c b e = absurd (false≢true c)
          by-age true c true e =
              let h = ltb-true (p.age + 1) t e in
              on (record { told = refl; still_open = o; same = refl; resent = omega arith; aged = omega arith; falls = omega arith; exactly = λ e. omega arith })
          by-age true c false e =
              let h = ltb-false (p.age + 1) t e in
              denied-turn 1 false (omega (arith, kept)) (λ e. omega (arith, kept))

      -- a reply that fits it
      pub replied-turn : (w : Reply) → Turn 0 true (replied r w p)
      unfolding replied is_end
      replied-turn Confirm = over (record { told = refl; freed = refl; spent = λ e. omega (arith, e); exactly = λ e. absurd (false≢true (sym e)) })
      replied-turn Answer = over (record { told = refl; freed = refl; spent = λ e. omega (arith, e); exactly = λ e. absurd (false≢true (sym e)) })
      replied-turn Deny = denied-turn 0 true (omega arith) (λ e. absurd (false≢true (sym e)))
      replied-turn BadAnswer = denied-turn 0 true (omega arith) (λ e. absurd (false≢true (sym e)))

  -- of a place that is not open nothing is told, and no reply fits it
  module _ (o : is_open p.mode ≡ false) where
    pub ticked-free : ticked t r p ≡ becomes p NOTHING
    unfolding ticked
    ticked-free = simp o

    pub fits-none : (s : ℕ) (w : Reply) → fits s w p ≡ false
    fits-none s w = by-test (fits s w p) (λ e. absurd (false≢true (sym o ∙ (holds-is s p (fits-holds s w p e)).0))) (λ e. e)
