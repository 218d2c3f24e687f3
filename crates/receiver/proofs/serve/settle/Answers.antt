-- `receiver::serve::settle` meets its contract: the held bytes moved, what was taken put behind them, and zeros where more was held before.
-- Assumes nothing.
use Rattle.receiver.proofs.Settles.{Settling, settles}
use Rattle.receiver.proofs.serve.settle.Goals as goal
use Rattle.receiver.proofs.serve.settle.Goals.{After-put}

-- what was done when the new length is taken
so : (c : After-put)
    → let a = c.args in
    Settling a.hold.now a.held a.next a.taken.now c.less-keep.result c.span-tail.result.now c.put.new.out
so c = search

pub returns-then-now-held-clause-hold_after : goal.returns-then-now-held-clause-hold_after
returns-then-now-held-clause-hold_after c = let s = so (goal.at.returns-then-now-held-clause-hold_after c).After-put in search settles

pub returns-else-now-held-clause-hold_after : goal.returns-else-now-held-clause-hold_after
returns-else-now-held-clause-hold_after c = let s = so (goal.at.returns-else-now-held-clause-hold_after c).After-put in search settles
