-- Each turn of the loop: what the tests of part k come to, and where the walk goes on. Assumes nothing.
use borrow.Author.Rules.{rules}
use Rattle.verdict.specs.Orders.{in_order}
use Rattle.devices.specs.Sections.{each_entry}
use Rattle.devices.proofs.Each.{turn}
use Rattle.devices.proofs.Merging.{Rises, Under, tests, tests-are, behind-first, behind-here, behind-next}
use Rattle.devices.proofs.table.Table.judge_parts.Goals as goal

pub loop-k-init : goal.loop-k-init
loop-k-init c = record { walked = behind-first c.args.self.now; decides = search rules }

pub returns-in_err-judge_rising : goal.returns-in_err-judge_rising
unfolding in_order
returns-in_err-judge_rising c =
    let t = turn (tests c.args.self.now) c.loop-k.k c.args.self.now.parts.count (search rules) in
    let whole = tests-are c.args.self.now in
    search rules

pub position-requires-clause-passed : goal.position-requires-clause-passed
position-requires-clause-passed c = let up : Rises c.args.self.now c.loop-k.k = search rules in search behind-here

pub returns-in_err-at : goal.returns-in_err-at
unfolding in_order
returns-in_err-at c =
    let t = turn (tests c.args.self.now) c.loop-k.k c.args.self.now.parts.count (search rules) in
    let whole = tests-are c.args.self.now in
    search rules

pub loop-k-preserved : goal.loop-k-preserved
unfolding in_order
loop-k-preserved c =
    let t = turn (tests c.args.self.now) c.loop-k.k c.args.self.now.parts.count (search rules) in
    let under : Under c.args.self.now c.in_ok-at.at c.first_bytes-system.result.now = search rules in
    record { walked = behind-next c.args.self.now c.in_ok-at.at c.loop-k.k c.first_bytes-system.result.now c.first_bytes-system.ensures under; decides = search rules }

pub returns : goal.returns
unfolding in_order each_entry
returns c = let whole = tests-are c.args.self.now in search rules
