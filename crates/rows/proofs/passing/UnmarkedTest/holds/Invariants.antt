-- `rows::passing::Unmarked::holds` meets its contract. The loop's invariant: the mark tells of the bytes before its place. Assumes nothing.
use mathlib.Core.Bool.{not}
use lib.Dec.{eqb}
use Rattle.rows.proofs.Tests.{Marked}
use Rattle.rows.proofs.passing.UnmarkedTest.holds.Given as goal

abbrev pub invariant-loop-byte : goal.invariant-loop-byte
invariant-loop-byte l = Marked (λ b. not (eqb b 64)) l.block (eqb l.marks 0) l.byte-index
