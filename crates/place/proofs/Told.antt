-- No two steps are told by the same numbers, and a number is decoded in one way. By cases. Assumes nothing.
use Prim.Native.Nat.{ℕ}
use mathlib.Core.Bool.{cond}
use mathlib.Core.Path.{◌≡◌, refl, sym, ap, ◌∙◌}
use lib.Dec.{eqb}
use Rattle.std.specs.Prelude.{Result, Ok, Err}
use Rattle.place.specs.declared.Mode.{Mode}
use Rattle.place.specs.declared.Mode.TheVariants.{Free, Send, Request}
use Rattle.place.specs.declared.Outcome.{Outcome}
use Rattle.place.specs.declared.Outcome.TheVariants.{Nothing, Confirmed, Answered, Resent, Failed}
use Rattle.place.specs.declared.Step.{Step as OfEnum}
use Rattle.place.specs.declared.UnknownMode.{UnknownMode}
use Rattle.place.specs.declared.UnknownOutcome.{UnknownOutcome}
use Rattle.place.specs.Modes as modes
use Rattle.place.specs.Outcomes.{number_of, in_numbers, Decodes}
use Rattle.place.specs.Steps.{Step}

abbrev outcome_of : ℕ → Outcome
outcome_of n = cond (eqb n 0) Nothing (cond (eqb n 40) Confirmed (cond (eqb n 41) Answered (cond (eqb n 42) Resent Failed)))

found-again : (o : Outcome) → outcome_of (number_of o) ≡ o
found-again Nothing = refl
found-again Confirmed = refl
found-again Answered = refl
found-again Resent = refl
found-again Failed = refl

pub step-determined : (t : Step) (r s : OfEnum) → in_numbers r ≡ t → in_numbers s ≡ t → r ≡ s
step-determined t r s p q =
    ap (λ x. record { place = x; outcome = r.outcome }) (ap (λ (u : Step). u.place) (p ∙ sym q))
    ∙ ap (λ o. record { place = s.place; outcome = o }) (sym (found-again r.outcome) ∙ ap (λ (u : Step). outcome_of u.outcome) (p ∙ sym q) ∙ found-again s.outcome)

pub outcome-decoded : (n : ℕ) (r s : Result Outcome UnknownOutcome) → Decodes n r → Decodes n s → r ≡ s
outcome-decoded n (Ok x) (Ok y) p q = ap Ok (sym (found-again x) ∙ ap outcome_of (p ∙ sym q) ∙ found-again y)
outcome-decoded n (Ok x) (Err f) p q = absurd (q.1 x p)
outcome-decoded n (Err e) (Ok y) p q = absurd (p.1 y q)
outcome-decoded n (Err e) (Err f) p q = ap (λ m. Err (record { 0 = m })) (p.0 ∙ sym q.0)

abbrev mode_of : ℕ → Mode
mode_of n = cond (eqb n 0) Free (cond (eqb n 1) Send Request)

mode-again : (m : Mode) → mode_of (modes.number_of m) ≡ m
mode-again Free = refl
mode-again Send = refl
mode-again Request = refl

pub mode-decoded : (n : ℕ) (r s : Result Mode UnknownMode) → modes.Decodes n r → modes.Decodes n s → r ≡ s
mode-decoded n (Ok x) (Ok y) p q = ap Ok (sym (mode-again x) ∙ ap mode_of (p ∙ sym q) ∙ mode-again y)
mode-decoded n (Ok x) (Err f) p q = absurd (q.1 x p)
mode-decoded n (Err e) (Ok y) p q = absurd (p.1 y q)
mode-decoded n (Err e) (Err f) p q = ap (λ k. Err (record { 0 = k })) (p.0 ∙ sym q.0)
