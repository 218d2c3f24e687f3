-- What is put into the lines of the program `tables`, under the names that it has in code. Assumes nothing.
use Rattle.std.specs.Prelude.{ℕ, List, ◌++◌}
use Rattle.naming.specs.Names.{ascii}
use Rattle.verdict.specs.Refusals.{ORDER, ORPHAN}
use Rattle.lines.specs.declared.said.Noun.{Noun}
use Rattle.lines.specs.declared.said.Noun.TheVariants.{System, Part, Byte}
use Rattle.lines.specs.declared.said.Entry.{Entry}
use Rattle.lines.specs.declared.said.Fault.{Fault}
use Rattle.lines.specs.declared.said.Fault.TheVariants.{CountCut, Many, Cut, Order, Orphan, Tail}
use Rattle.lines.specs.Tables.{led, count_cut_said, many_said, cut_said, why_said, tail_said}

abbrev pub noun_said : Noun → List ℕ
noun_said System = ascii "system"
noun_said Part = ascii "part"
noun_said Byte = ascii "byte"

-- an entry's place among all, and what it is by its own number
abbrev pub entry_said : Entry → List ℕ
entry_said e = led (ascii " ") e.place ++ ascii ": " ++ led (noun_said e.noun ++ ascii " ") e.number

abbrev pub fault_said : Fault → List ℕ
fault_said (CountCut noun left) = ascii ": " ++ count_cut_said (noun_said noun) left
fault_said (Many noun count limit) = ascii ": " ++ many_said (noun_said noun) count limit
fault_said (Cut noun whole count) = ascii ": " ++ cut_said (noun_said noun) whole count
fault_said (Order e) = entry_said e ++ why_said ORDER
fault_said (Orphan e) = entry_said e ++ why_said ORPHAN
fault_said (Tail rest last) = ascii ": " ++ tail_said rest last
