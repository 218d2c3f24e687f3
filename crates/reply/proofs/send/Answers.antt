-- `reply::send` meets its contract: TIME of the label, then what the packet writer says and leaves. Assumes nothing.
use Rattle.std.proofs.Common.{rules}
use Rattle.kinds.specs.Table.{rows}
use Rattle.verdict.specs.Orders.{in_order}
use Rattle.reply.proofs.Answering.{may_stand, room_decides, reply_written}
use Rattle.reply.proofs.send.Goals as goal

pub returns-in_err-ensure-clause-value : goal.returns-in_err-ensure-clause-value
unfolding in_order
returns-in_err-ensure-clause-value c = search rules

pub returns-in_err-ensure-clause-out_after : goal.returns-in_err-ensure-clause-out_after
unfolding in_order
returns-in_err-ensure-clause-out_after c = search rules

pub returns-clause-value : goal.returns-clause-value
returns-clause-value c =
    let stands = may_stand c.args.label _ _ c.is_allowed.ensures c.in_ok-ensure.ensures in
    room_decides rows c.args.p.now c.args.label c.args.out.now c.args.due _ _ c.command.ensures c.header_for.ensures stands _ c.write.ensures.value

pub returns-clause-out_after : goal.returns-clause-out_after
returns-clause-out_after c =
    let stands = may_stand c.args.label _ _ c.is_allowed.ensures c.in_ok-ensure.ensures in
    reply_written rows c.args.p.now c.args.label c.args.out.now c.args.due _ _ c.command.ensures c.header_for.ensures stands _ c.write.ensures.out_after
