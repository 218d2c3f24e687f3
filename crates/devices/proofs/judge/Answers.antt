-- A refusal, or the counts of the table that was read. Assumes nothing.
use borrow.Author.Rules.{rules}
use Rattle.devices.specs.Tables.{of_systems, of_parts}
use Rattle.devices.proofs.Finding.{refused-judgement, judgement-passed}
use Rattle.devices.proofs.judge.Goals as goal

pub returns-in_err-table : goal.returns-in_err-table
returns-in_err-table c =
    let h = refused-judgement of_systems of_parts c.args.table.now c.in_err-table.field-0.0 c.in_err-table.ensures.verdict in search rules

pub returns : goal.returns
returns c =
    let w = c.in_ok-table in
    judgement-passed w.table c.args.table.now w.ensures.table w.ensures.verdict
