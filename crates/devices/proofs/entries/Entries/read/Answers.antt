-- Where the section is cut, by the count that was read. Assumes nothing.
use borrow.Author.Rules.{rules}
use mathlib.Core.Path.{◌∙◌}
use Rattle.verdict.proofs.Walking.{ordering}
use Rattle.devices.specs.Sections.{entry_at}
use Rattle.devices.proofs.Standing.{count_read}
use Rattle.devices.proofs.entries.Entries.read.Goals as goal

pub returns-in_err-ensure-3-clause-verdict : goal.returns-in_err-ensure-3-clause-verdict
unfolding entry_at
returns-in_err-ensure-3-clause-verdict c =
    let n = count_read c.args.table.now c.args.from c.from-count.result (c.from-count.ensures ∙ c.two_at.ensures) in
    search (rules, ordering)
