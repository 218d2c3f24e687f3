-- `taking::take` meets its contract where a packet is no reply, and where it is refused. Assumes nothing.
use mathlib.Core.Path.{refl, ap}
use Rattle.std.specs.Prelude.{Ok, Err}
use Rattle.kinds.specs.Table.{rows}
use Rattle.taking.specs.Roles.{role_in_answer}
use Rattle.taking.proofs.Taking.{other_taken}
use Rattle.taking.proofs.take.Goals as goal

pub returns-in-Ok-None : goal.returns-in-Ok-None
returns-in-Ok-None c =
    other_taken rows c.args.table c.args.p.now _ (Ok c.in-Ok-None.field-0) _ c.in-Ok-None.ensures (ap (λ r. role_in_answer (Ok r)) c.in-Ok-None.field-0-is) c.good.ensures
    c.untold.ensures

pub returns-in-Err : goal.returns-in-Err
returns-in-Err c = other_taken rows c.args.table c.args.p.now _ (Err c.in-Err.refused) _ c.in-Err.ensures refl c.from.ensures c.untold-in-Err.ensures
