-- Every header that a caller can hand over is one that the packet writer's laws speak of. Assumes nothing.
use mathlib.Core.List.{List}
use borrow.Author.Rules.{rules}
use denote.Laws.{Is}
use mir.Val.{Val}
use Rattle.packet.specs.declared.Header.{Header}
use Rattle.packet.specs.contracts.Header.{the_row}
use Rattle.output.proofs.Sent.{Fitting}

pub header-fits : (h : Header) (vs : List Val) → Is the_row h vs → Fitting h
header-fits h vs is = record { serial = search rules; source = search rules; destination = search rules }
