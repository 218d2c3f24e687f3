-- `exchange::find` meets its contract: refused by the settings, or by what the places told. Assumes nothing.
use borrow.Author.Rules.{rules}
use mathlib.Core.Path.{◌≡◌, ap, ◌∙◌}
use Rattle.std.specs.Prelude.{Err}
use Rattle.verdict.specs.declared.Refused.{Refused}
use Rattle.exchange.specs.Table.{found_as}
use Rattle.exchange.proofs.Calls.{find-unset, find-by, find-inside-by, ensured, passed}
use Rattle.exchange.proofs.Exchanges.find.Goals as goal

pub returns-in_err-ensure-clause-value : goal.returns-in_err-ensure-clause-value
returns-in_err-ensure-clause-value c =
    let is : c.from_residual.result ≡ Err c.in_err-ensure.field-0.0 = search rules in
    let test = ensured _ _ _ c.in_err-ensure.ensures in
    ap found_as is ∙ ap (λ (e : Refused). found_as (Err e)) test.1 ∙ find-unset _ _ c.is_settled.ensures _ test.0

pub returns-clause-value : goal.returns-clause-value
returns-clause-value c =
    find-by _ _ c.is_settled.ensures _ (passed _ _ _ c.in_ok-ensure.ensures) _ _ c.next_of-next.ensures c.find_opening.ensures _ (record { cases = c.map_err.ensures.cases })

pub returns-clause-inside : goal.returns-clause-inside
returns-clause-inside c =
    find-inside-by _ _ c.is_settled.ensures _ (passed _ _ _ c.in_ok-ensure.ensures) _ _ c.next_of-next.ensures c.find_opening.ensures _ (record { cases = c.map_err.ensures.cases })
