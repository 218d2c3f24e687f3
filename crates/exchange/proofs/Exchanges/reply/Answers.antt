-- `exchange::reply` meets its contract by the place that the reply reached. Assumes nothing.
use mathlib.Core.Path.{ap, ◌∙◌}
use Rattle.exchange.specs.declared.Exchanges.{Exchanges}
use Rattle.exchange.specs.Table.{placed}
use Rattle.exchange.proofs.Calls.{reply-refused, reply-stepped}
use Rattle.exchange.proofs.Exchanges.reply.Goals as goal
use Rattle.exchange.proofs.Exchanges.reply.Goals.{then-reached-eq0, else-reached-eq0}

pub returns : goal.returns
returns c =
    let told = c.reach-reached.ensures in
    ap (λ (y : Exchanges). record { verdict = record { number = c.reach-reached.result.number; place = 0 }; place = c.reach-reached.result.place; outcome = c.if-reached-eq0.outcome; state = y })
    c.with.ensures
    ∙ elim c.if-reached-eq0.branch [
      | then-reached-eq0 w ↦
          reply-stepped _ _ _ _ _ _ told.number told.place w.if-reached-eq0.true _ w.replied-step.result _ w.replied-step.ensures w.places-is
          (w.outcome-is ∙ w.from-outcome-then-reached-eq0.ensures ∙ w.number-then-reached-eq0.ensures)
      | else-reached-eq0 w ↦
          (λ i. record { verdict = record { number = c.reach-reached.result.number; place = 0 }; place = c.reach-reached.result.place; outcome = (w.outcome-is ∙ c.from-outcome.ensures ∙ c.number.ensures) i; state = placed c.args.self (w.places-is i) })
          ∙ reply-refused _ _ _ _ _ _ told.number told.place w.if-reached-eq0.false
    ]
