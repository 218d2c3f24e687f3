-- What a test tells whose flag a callee answered, and what both ways of a test come to. Assumes nothing.
use mathlib.Core.Bool.{Bool, true, false, not, cond}
use mathlib.Core.Path.{◌≡◌, refl, sym, ◌∙◌}
use borrow.Author.Tests.{not-true, not-false}

-- of `if !f(..)`, taken and left
pub off : {r b : Bool} → r ≡ b → not r ≡ true → b ≡ false
off {r} e t = sym e ∙ not-true r t

pub on : {r b : Bool} → r ≡ b → not r ≡ false → b ≡ true
on {r} e t = sym e ∙ not-false r t

-- both ways, each with what the test told
pub by-test : {A : Type 0} (b : Bool) → (b ≡ true → A) → (b ≡ false → A) → A
by-test true t f = t refl
by-test false t f = f refl

-- what follows from either of two values
pub of_either : {A B : Type 0} (f : A → B) (b : Bool) (x y : A) → f (cond b x y) ≡ cond b (f x) (f y)
of_either f true x y = refl
of_either f false x y = refl

-- two tests of which each passes where the other does
pub both-or-none : (a b : Bool) → (a ≡ true → b ≡ true) → (b ≡ true → a ≡ true) → a ≡ b
both-or-none true b to back = sym (to refl)
both-or-none false true to back = back refl
both-or-none false false to back = refl
