-- Each stage of the order, by what the calls told of it. Assumes nothing.
use borrow.Author.Rules.{rules}
use Rattle.devices.specs.Tables.{of_systems, of_parts}
use Rattle.devices.proofs.Stages.{systems-refused, order-refused, order-rises, parts-refused, owners-refused, tail-left}
use Rattle.devices.proofs.table.Table.judge.Goals as goal

pub returns-in_err-systems-clause-verdict : goal.returns-in_err-systems-clause-verdict
returns-in_err-systems-clause-verdict c =
    let h = systems-refused of_systems of_parts c.args.bytes.now c.in_err-systems.field-0.0 (search rules) in search rules

pub returns-in_err-judge_order-clause-verdict : goal.returns-in_err-judge_order-clause-verdict
returns-in_err-judge_order-clause-verdict c =
    let s = c.in_ok-systems in
    let h = order-refused of_systems of_parts c.args.bytes.now s.systems s.ensures.section s.ensures.table s.ensures.from (search rules)
    c.in_err-judge_order.field-0.0 c.in_err-judge_order.ensures in
    search rules

pub returns-in_err-parts-clause-verdict : goal.returns-in_err-parts-clause-verdict
returns-in_err-parts-clause-verdict c =
    let s = c.in_ok-systems in
    let h = parts-refused of_systems of_parts c.args.bytes.now s.systems s.ensures.section s.ensures.table s.ensures.from (search rules)
    c.in_ok-judge_order.ensures c.end.result c.end.ensures.value c.in_err-parts.field-0.0 (search rules) in
    search rules

pub invariant_of-table-clause-systems_rise : goal.invariant_of-table-clause-systems_rise
invariant_of-table-clause-systems_rise c = order-rises c.in_ok-systems.systems c.in_ok-judge_order.ensures

pub returns-in_err-judge_parts-clause-verdict : goal.returns-in_err-judge_parts-clause-verdict
returns-in_err-judge_parts-clause-verdict c =
    let s = c.in_ok-systems in
    let h = owners-refused of_systems of_parts c.args.bytes.now s.systems s.ensures.section s.ensures.table s.ensures.from (search rules)
    c.in_ok-judge_order.ensures c.end.result c.end.ensures.value (search rules) c.in_err-judge_parts.field-0.0 c.in_err-judge_parts.ensures in
    search rules

pub returns-in_err-ensure-clause-verdict : goal.returns-in_err-ensure-clause-verdict
returns-in_err-ensure-clause-verdict c =
    let s = c.in_ok-systems in
    let h = tail-left of_systems of_parts c.args.bytes.now s.systems s.ensures.section s.ensures.table s.ensures.from (search rules)
    c.in_ok-judge_order.ensures c.end.result c.end.ensures.value (search rules) c.in_ok-judge_parts.ensures in
    search rules

pub returns-clause-verdict : goal.returns-clause-verdict
returns-clause-verdict c =
    let s = c.in_ok-systems in
    let h = tail-left of_systems of_parts c.args.bytes.now s.systems s.ensures.section s.ensures.table s.ensures.from (search rules)
    c.in_ok-judge_order.ensures c.end.result c.end.ensures.value (search rules) c.in_ok-judge_parts.ensures in
    search rules
