-- `receiver::line::Line::sum` meets its contract: the bytes in both parts are added up. Assumes nothing.
use mathlib.Core.Path.{refl}
use Rattle.receiver.specs.Lines.{bytes}
use Rattle.receiver.proofs.Spans.{sum_both}
use Rattle.receiver.proofs.line.Line.sum.Goals as goal

pub returns : goal.returns
returns g c =
    sum_both c.args.l (bytes c.args.self.now) (bytes c.behind.result) c.head-summed.result.front.now c.head-summed.result.back.now _ _ _ c.behind.ensures
    c.head-summed.ensures c.requires.few refl c.added.ensures.value c.added-2.ensures.value
