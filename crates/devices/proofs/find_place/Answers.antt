-- A refusal of the table, UNLISTED, or the place in the entry that was found. Assumes nothing.
use borrow.Author.Rules.{rules}
use Rattle.devices.specs.Tables.{of_systems, of_parts, key_bytes}
use Rattle.devices.proofs.Finding.{refused-place, parts-rise, part-unlisted, part-found}
use Rattle.devices.proofs.find_place.Goals as goal

pub returns-in_err-parts : goal.returns-in_err-parts
returns-in_err-parts c =
    let h = refused-place of_systems of_parts c.args.table.now (key_bytes c.args.key) c.in_err-parts.field-0.0 c.in_err-parts.ensures.verdict in
    search rules

pub position-requires-clause-rising : goal.position-requires-clause-rising
position-requires-clause-rising c =
    let w = c.in_ok-parts in
    parts-rise w.field-0 c.args.table.now w.ensures.table w.ensures.verdict

pub returns-in_err-k : goal.returns-in_err-k
returns-in_err-k c =
    let w = c.in_ok-parts in
    let h = part-unlisted w.field-0 c.args.table.now w.ensures.table w.ensures.verdict (key_bytes c.args.key) (search rules) in
    search rules

pub returns : goal.returns
returns c =
    let w = c.in_ok-parts in
    let h = part-found w.field-0 c.args.table.now w.ensures.table w.ensures.verdict (key_bytes c.args.key) c.in_ok-k.k (search rules) (search rules) in
    search rules
