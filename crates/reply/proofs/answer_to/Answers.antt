-- `reply::answer_to` meets its contract: what was due and was to be written. Assumes nothing.
use Rattle.kinds.specs.Table.{rows}
use Rattle.reply.proofs.Answering.{not_sent, sent_written}
use Rattle.reply.proofs.answer_to.Goals as goal

pub returns-in_err-send-clause-value : goal.returns-in_err-send-clause-value
returns-in_err-send-clause-value c =
    not_sent rows c.args.p.now c.args.label c.args.out.now c.in_ok-judge_frame.ensures.verdict c.in-Some.due c.in-Some.ensures
    c.from_residual-in_err-send.result c.in_err-send.field-0.0 c.from_residual-in_err-send.ensures.1 c.in_err-send.ensures.value

pub returns-in_err-send-clause-out_after : goal.returns-in_err-send-clause-out_after
returns-in_err-send-clause-out_after c =
    sent_written rows c.args.p.now c.args.label c.args.out.now c.in_ok-judge_frame.ensures.verdict c.in-Some.due c.in-Some.ensures _ c.send.ensures.out_after

pub returns-clause-out_after : goal.returns-clause-out_after
returns-clause-out_after c =
    sent_written rows c.args.p.now c.args.label c.args.out.now c.in_ok-judge_frame.ensures.verdict c.in-Some.due c.in-Some.ensures _ c.send.ensures.out_after
