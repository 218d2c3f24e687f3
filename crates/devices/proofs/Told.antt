-- No two different answers of the judge satisfy its promise. Assumes nothing.
use mathlib.Core.Path.{◌≡◌, refl, ap, ◌∙◌}
use Rattle.std.specs.Prelude.{Result, Ok, Err, IfOk}
use Rattle.verdict.specs.declared.Refused.{Refused}
use Rattle.verdict.specs.Orders.{told}
use Rattle.verdict.proofs.Told.{told-determined}
use Rattle.devices.specs.declared.Counts.{Counts}
use Rattle.devices.specs.declared.Judgement.{Judgement}
use Rattle.devices.specs.Tables.{counted}

pub counted-told : (r : Result Counts Refused) → told r ≡ (counted r).verdict
counted-told (Ok c) = refl
counted-told (Err e) = refl

counts-told : (j : Judgement) (r : Result Counts Refused) → counted r ≡ j → IfOk r (λ c. c ≡ record { systems = j.systems; parts = j.parts })
counts-told j (Ok c) p = ap (λ (i : Judgement). record { systems = i.systems; parts = i.parts }) p
counts-told j (Err e) p = tt

pub counted-determined : (j : Judgement) (r s : Result Counts Refused) → counted r ≡ j → counted s ≡ j → r ≡ s
counted-determined j r s p q =
    told-determined j.verdict (record { systems = j.systems; parts = j.parts }) r s
    (counted-told r ∙ ap (λ (i : Judgement). i.verdict) p) (counts-told j r p)
    (counted-told s ∙ ap (λ (i : Judgement). i.verdict) q) (counts-told j s q)
