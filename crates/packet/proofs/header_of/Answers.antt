-- `packet::header_of` meets its contract: a short packet is read with zeros behind it. Assumes nothing.
use Rattle.packet.proofs.Heads.{header-front, header-short}
use Rattle.packet.proofs.header_of.Goals as goal

pub returns-in-Some : goal.returns-in-Some
returns-in-Some c = header-front _ _ _ c.in-Some.ensures.cases.same c.header_in.ensures

pub returns-in-None : goal.returns-in-None
returns-in-None c = header-short _ _ _ c.copy_from_slice.ensures.after c.header_in-in-None.ensures
