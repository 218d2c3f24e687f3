-- `rows::passing::Zero::holds` meets its contract. The loop's invariant: the bits tell of the bytes before its place. Assumes nothing.
use lib.Dec.{eqb}
use Rattle.rows.proofs.Tests.{Marked}
use Rattle.rows.proofs.passing.ZeroTest.holds.Given as goal

abbrev pub invariant-loop-byte : goal.invariant-loop-byte
invariant-loop-byte l = Marked (λ b. eqb b 0) l.block (eqb l.bits 0) l.byte-index
