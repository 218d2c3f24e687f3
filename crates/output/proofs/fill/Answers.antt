-- `output::fill` meets its contract: head and tail around the unit. Assumes nothing.
use borrow.Author.Rules.{rules}
use Rattle.output.proofs.Filling.{filled}
use Rattle.output.proofs.fill.Goals as goal

pub returns : goal.returns
returns c = search (filled, rules)
