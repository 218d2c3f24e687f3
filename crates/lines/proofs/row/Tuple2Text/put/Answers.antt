-- `(A, B)::put` puts one text behind the other. Assumes nothing.
use Rattle.std.proofs.Common.{rules}
use Rattle.lines.proofs.Adding.{added_then}
use Rattle.lines.proofs.row.Tuple2Text.put.Goals as goal

pub returns-clause-so : goal.returns-clause-so
returns-clause-so g c = search (rules, added_then)
