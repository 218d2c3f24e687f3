-- `exchange::opening_by` meets its contract by the mode that the command opens. Assumes nothing.
use Rattle.exchange.proofs.Calls.{its_own, none-of-it}
use Rattle.exchange.proofs.opening_by.Goals as goal

pub returns-then-is_open : goal.returns-then-is_open
returns-then-is_open c = its_own _ _ _ _ c.mode_of.ensures c.number.ensures c.is_open.ensures c.if-is_open.true

pub returns-else-is_open : goal.returns-else-is_open
returns-else-is_open c = none-of-it _ _ _ _ c.mode_of.ensures c.number.ensures c.is_open.ensures c.if-is_open.false
