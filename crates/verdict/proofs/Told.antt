-- No two different answers satisfy a promise by `told` or `placed`: each refusal is found again by its number, and none has the good one.
-- By cases. Assumes nothing.
use Prim.Native.Nat.{ℕ}
use mathlib.Core.Bool.{false, false≢true}
use mathlib.Core.Path.{◌≡◌, refl, sym, ap, ◌∙◌}
use mathlib.Core.List.{List, [], ◌∷◌}
use Rattle.std.specs.Prelude.{Result, Ok, Err, IfOk, ⊤, Option, Some, None, ◌==◌}
use Rattle.std.specs.List.{find}
use Rattle.std.specs.declared.ops.Range.{Range}
use Rattle.verdict.specs.declared.Part.{Part}
use Rattle.verdict.specs.declared.Refusal.{Refusal}
use Rattle.verdict.specs.declared.Refusal.TheVariants.{State, Room, Cut, Start, Length, End, Sum, Version, Command, Time, Unit as OfUnit, «Type» as OfType, Count, Short, Number, Kind, Text, Setting, Full, Stray, Many, Order, Orphan, Tail, Unlisted, Long, Centre}
use Rattle.verdict.specs.declared.Refused.{Refused}
use Rattle.verdict.specs.declared.UnknownRefusal.{UnknownRefusal}
use Rattle.verdict.specs.declared.Verdict.{Verdict}
use Rattle.verdict.specs.Orders.{told, placed, is_good, good, refusal}
use Rattle.verdict.specs.Refusals.{number_of, Decodes}

-- every refusal, and the one that has a number
abbrev all : List Refusal
all = State ∷ Room ∷ Cut ∷ Start ∷ Length ∷ End ∷ Sum ∷ Version ∷ Command ∷ Time ∷ OfUnit ∷ OfType ∷ Count ∷ Short ∷ Number ∷ Kind ∷ Text
    ∷ Setting ∷ Full ∷ Stray ∷ Many ∷ Order ∷ Orphan ∷ Tail ∷ Unlisted ∷ Long ∷ Centre ∷ []

abbrev pub refusal_of : ℕ → Option Refusal
refusal_of n = find (λ r. number_of r == n) all

pub refusal-of-number : (r : Refusal) → refusal_of (number_of r) ≡ Some r
refusal-of-number State = refl
refusal-of-number Room = refl
refusal-of-number Cut = refl
refusal-of-number Start = refl
refusal-of-number Length = refl
refusal-of-number End = refl
refusal-of-number Sum = refl
refusal-of-number Version = refl
refusal-of-number Command = refl
refusal-of-number Time = refl
refusal-of-number OfUnit = refl
refusal-of-number OfType = refl
refusal-of-number Count = refl
refusal-of-number Short = refl
refusal-of-number Number = refl
refusal-of-number Kind = refl
refusal-of-number Text = refl
refusal-of-number Setting = refl
refusal-of-number Full = refl
refusal-of-number Stray = refl
refusal-of-number Many = refl
refusal-of-number Order = refl
refusal-of-number Orphan = refl
refusal-of-number Tail = refl
refusal-of-number Unlisted = refl
refusal-of-number Long = refl
refusal-of-number Centre = refl

abbrev or-state : Option Refusal → Refusal
or-state (Some r) = r
or-state None = State

-- so two refusals with one number are one
pub number-tells : (r s : Refusal) → number_of r ≡ number_of s → r ≡ s
number-tells r s e = ap or-state (sym (refusal-of-number r) ∙ ap refusal_of e ∙ refusal-of-number s)

-- and a number is decoded in one way
pub decoded-determined : (n : ℕ) (r s : Result Refusal UnknownRefusal) → Decodes n r → Decodes n s → r ≡ s
decoded-determined n (Ok x) (Ok y) p q = ap Ok (number-tells x y (p ∙ sym q))
decoded-determined n (Ok x) (Err f) p q = absurd (q.1 x p)
decoded-determined n (Err e) (Ok y) p q = absurd (p.1 y q)
decoded-determined n (Err e) (Err f) p q = ap (λ m. Err (record { 0 = m })) (p.0 ∙ sym q.0)

-- and no refusal is told as the good one
pub not-good : (r : Refusal) (n : ℕ) → is_good (refusal (number_of r) n) ≡ false
not-good State n = refl
not-good Room n = refl
not-good Cut n = refl
not-good Start n = refl
not-good Length n = refl
not-good End n = refl
not-good Sum n = refl
not-good Version n = refl
not-good Command n = refl
not-good Time n = refl
not-good OfUnit n = refl
not-good OfType n = refl
not-good Count n = refl
not-good Short n = refl
not-good Number n = refl
not-good Kind n = refl
not-good Text n = refl
not-good Setting n = refl
not-good Full n = refl
not-good Stray n = refl
not-good Many n = refl
not-good Order n = refl
not-good Orphan n = refl
not-good Tail n = refl
not-good Unlisted n = refl
not-good Long n = refl
not-good Centre n = refl

good-or-refused : (e : Refused) → good ≡ refusal (number_of e.refusal) e.place → ⊥
good-or-refused e h = false≢true (sym (not-good e.refusal e.place) ∙ sym (ap is_good h))

refused-is : (e f : Refused) → refusal (number_of e.refusal) e.place ≡ refusal (number_of f.refusal) f.place → e ≡ f
refused-is e f h = go (number-tells e.refusal f.refusal (ap (λ (v : Verdict). v.number) h)) (ap (λ (v : Verdict). v.place) h)
  where
    go : e.refusal ≡ f.refusal → e.place ≡ f.place → e ≡ f
    go p q = ap (λ r. record { refusal = r; place = e.place }) p ∙ ap (λ n. record { refusal = f.refusal; place = n }) q

-- two answers that are told alike are one, where the value of a good one is told too
pub told-determined : {A : Type 0} (v : Verdict) (w : A) (a b : Result A Refused) → told a ≡ v → IfOk a (λ x. x ≡ w) → told b ≡ v → IfOk b (λ x. x ≡ w) → a ≡ b
told-determined v w (Ok x) (Ok y) p q p' q' = ap Ok (q ∙ sym q')
told-determined v w (Ok x) (Err f) p q p' q' = absurd (good-or-refused f (p ∙ sym p'))
told-determined v w (Err f) (Ok y) p q p' q' = absurd (good-or-refused f (p' ∙ sym p))
told-determined v w (Err e) (Err f) p q p' q' = ap Err (refused-is e f (p ∙ sym p'))

-- or where there is none
pub told-alone : (v : Verdict) (a b : Result ⊤ Refused) → told a ≡ v → told b ≡ v → a ≡ b
told-alone v (Ok x) (Ok y) p q = refl
told-alone v (Ok x) (Err f) p q = absurd (good-or-refused f (p ∙ sym q))
told-alone v (Err f) (Ok y) p q = absurd (good-or-refused f (q ∙ sym p))
told-alone v (Err e) (Err f) p q = ap Err (refused-is e f (p ∙ sym q))

-- and so are two parts
pub placed-determined : (v : Part) (a b : Result (Range ℕ) Refused) → placed a ≡ v → placed b ≡ v → a ≡ b
placed-determined v (Ok x) (Ok y) p q = ap Ok (go (ap (λ (u : Part). u.from) (p ∙ sym q)) (ap (λ (u : Part). u.to) (p ∙ sym q)))
  where
    go : x.start ≡ y.start → x.end ≡ y.end → x ≡ y
    go h k = ap (λ n. record { start = n; end = x.end }) h ∙ ap (λ n. record { start = y.start; end = n }) k
placed-determined v (Ok x) (Err f) p q = absurd (good-or-refused f (ap (λ (u : Part). u.verdict) (p ∙ sym q)))
placed-determined v (Err f) (Ok x) p q = absurd (good-or-refused f (ap (λ (u : Part). u.verdict) (q ∙ sym p)))
placed-determined v (Err e) (Err f) p q = ap Err (refused-is e f (ap (λ (u : Part). u.verdict) (p ∙ sym q)))
