-- `exchange::fresh` meets its contract by its one test, which decides on verdict and table. Assumes nothing.
use native.Mathlib.Omega.{arith}
use Rattle.exchange.proofs.Calls.{fresh-refused, fresh-good}
use Rattle.exchange.proofs.Exchanges.fresh.Goals as goal

pub returns-then-settled : goal.returns-then-settled
returns-then-settled c = fresh-good _ _ _ _ _ c.is_settled-settled.ensures _ c.ensure.ensures _ c.into.ensures _ c.if-settled.true c.blank.ensures

pub returns-else-settled : goal.returns-else-settled
returns-else-settled c =
    fresh-refused _ _ _ _ _ c.is_settled-settled.ensures _ c.ensure.ensures _ c.into.ensures _ c.if-settled.false _ _ c.blank-else-settled.ensures (omega arith) (omega arith)
