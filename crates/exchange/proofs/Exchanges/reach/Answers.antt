-- `exchange::reach` meets its contract: refused by the settings, or by what the places told. Assumes nothing.
use mathlib.Core.Path.{ap, ◌∙◌}
use Rattle.verdict.specs.declared.Refused.{Refused}
use Rattle.verdict.specs.Refusals.{number_of}
use Rattle.exchange.specs.declared.Reached.{Reached}
use Rattle.exchange.specs.declared.Replied.{Replied}
use Rattle.exchange.proofs.Calls.{reach-unset, reach-err, reach-ok}
use Rattle.exchange.proofs.Exchanges.reach.Goals as goal

pub returns-then-not-is_settled-clause-number : goal.returns-then-not-is_settled-clause-number
returns-then-not-is_settled-clause-number c =
    ap (λ (y : Reached). y.number) c.unreached.ensures
    ∙ ap (λ (e : Refused). number_of e.refusal) c.at.ensures
    ∙ ap (λ (y : Replied). y.verdict.number) (reach-unset _ _ c.is_settled.ensures _ _ _ c.if-not-is_settled.true)

pub returns-then-not-is_settled-clause-place : goal.returns-then-not-is_settled-clause-place
returns-then-not-is_settled-clause-place c =
    ap (λ (y : Reached). y.place) c.unreached.ensures
    ∙ ap (λ (y : Replied). y.place) (reach-unset _ _ c.is_settled.ensures _ _ _ c.if-not-is_settled.true)

pub returns-in-Ok-clause-number : goal.returns-in-Ok-clause-number
returns-in-Ok-clause-number c =
    ap (λ (y : Replied). y.verdict.number) (reach-ok _ _ c.is_settled.ensures _ _ _ c.if-not-is_settled.false _ _ c.centre_of-centre.ensures c.find_fitting-fitting.ensures _ _ c.in-Ok.is).1

pub returns-in-Ok-clause-place : goal.returns-in-Ok-clause-place
returns-in-Ok-clause-place c =
    ap (λ (y : Replied). y.place) (reach-ok _ _ c.is_settled.ensures _ _ _ c.if-not-is_settled.false _ _ c.centre_of-centre.ensures c.find_fitting-fitting.ensures _ _ c.in-Ok.is).1

pub returns-in-Ok-clause-inside : goal.returns-in-Ok-clause-inside
returns-in-Ok-clause-inside c =
    (reach-ok _ _ c.is_settled.ensures _ _ _ c.if-not-is_settled.false _ _ c.centre_of-centre.ensures c.find_fitting-fitting.ensures _ _ c.in-Ok.is).0

pub returns-in-Err-clause-number : goal.returns-in-Err-clause-number
returns-in-Err-clause-number c =
    ap (λ (y : Reached). y.number) c.unreached-in-Err.ensures
    ∙ ap (λ (e : Refused). number_of e.refusal) c.no_fitting.ensures
    ∙ ap (λ (y : Replied). y.verdict.number)
    (reach-err _ _ c.is_settled.ensures _ _ _ c.if-not-is_settled.false _ _ c.centre_of-centre.ensures c.find_fitting-fitting.ensures _ c.in-Err.is)

pub returns-in-Err-clause-place : goal.returns-in-Err-clause-place
returns-in-Err-clause-place c =
    ap (λ (y : Reached). y.place) c.unreached-in-Err.ensures
    ∙ ap (λ (y : Replied). y.place)
    (reach-err _ _ c.is_settled.ensures _ _ _ c.if-not-is_settled.false _ _ c.centre_of-centre.ensures c.find_fitting-fitting.ensures _ c.in-Err.is)
