-- `exchange::tick` meets its contract: refused by the settings, or by what the places told. Assumes nothing.
use mathlib.Core.Bool.{true, false}
use mathlib.Core.List.{[]}
use mathlib.Core.Path.{refl, sym, ◌∙◌}
use Rattle.exchange.proofs.Calls.{tick-unset, tick-broken, tick-good}
use Rattle.exchange.proofs.Exchanges.tick.Goals as goal

pub returns-then-not-is_settled : goal.returns-then-not-is_settled
returns-then-not-is_settled c = c.unticked.ensures ∙ tick-unset _ _ c.is_settled.ensures c.if-not-is_settled.true

pub returns-in_default : goal.returns-in_default
returns-in_default c =
    c.unticked-in_default.ensures
    ∙ tick-broken _ _ c.is_settled.ensures c.if-not-is_settled.false false (record { places = c.args.self.places; reports = [] })
    (sym c.tick_all.ensures ∙ c.in_default.is) refl

pub returns : goal.returns
returns c =
    (λ i. record { verdict = c.good.ensures i; reports = c.in-Some.swept.reports; state = c.with.ensures i })
    ∙ tick-good _ _ c.is_settled.ensures c.if-not-is_settled.false true c.in-Some.swept (sym c.tick_all.ensures ∙ c.in-Some.is) refl
