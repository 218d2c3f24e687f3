-- `lines::put_packet` puts the line of what was told of a packet. Assumes nothing.
use Rattle.std.proofs.Common.{rules, ◌∙◌}
use Rattle.lines.proofs.Wording.{packet_made}
use Rattle.lines.proofs.put_packet.Goals as goal

pub returns : goal.returns
returns c =
    packet_made {h = c.header_of-header.result} c.args.p.now c.args.skipped c.args.length (simp (c.requires) at c.put.ensures.so) c.name_of-2.ensures
    c.name_of.ensures (search rules) (search rules) c.header_of-header.ensures (c.from-verdict.ensures ∙ c.judge.ensures.verdict)
