-- No two cases of what is shown have one number. By cases. Assumes nothing.
use Prim.Native.Nat.{ℕ}
use mathlib.Core.Bool.{cond}
use mathlib.Core.Path.{◌≡◌, refl, sym, ap, ◌∙◌}
use lib.Dec.{eqb}
use Rattle.label.specs.declared.Shown.{Shown}
use Rattle.label.specs.declared.Shown.TheVariants.{Nothing, Time, NoTime, NoLabel}
use Rattle.label.specs.Times.{number_shown}

abbrev case_of : ℕ → Shown
case_of n = cond (eqb n 0) Nothing (cond (eqb n 1) Time (cond (eqb n 2) NoTime NoLabel))

found-again : (s : Shown) → case_of (number_shown s) ≡ s
found-again Nothing = refl
found-again Time = refl
found-again NoTime = refl
found-again NoLabel = refl

pub shown-determined : (n : ℕ) (r s : Shown) → number_shown r ≡ n → number_shown s ≡ n → r ≡ s
shown-determined n r s p q = sym (found-again r) ∙ ap case_of (p ∙ sym q) ∙ found-again s
