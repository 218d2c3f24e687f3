-- `lines::event_line` makes the line of an event that is no packet of its name. Assumes nothing.
use Rattle.std.proofs.Common.{◌∙◌, ap}
use Rattle.naming.specs.Names.{letters}
use Rattle.lines.proofs.Wording.{short_made}
use Rattle.lines.proofs.event_line.Goals as goal

pub returns-in_default : goal.returns-in_default
returns-in_default c =
    short_made c.args.skipped c.args.out.now c.in_default.not-More c.in_default.not-Packet (c.name_of.ensures ∙ ap letters c.number.ensures)
    (c.put.ensures.so ∙ simp (c.new-line.ensures))
