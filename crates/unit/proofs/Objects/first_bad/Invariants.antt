-- `unit::Objects::first_bad` meets its contract. The loop's invariant: the place reached is where the label of the object of this number stands, and
-- the first bad one from there on is the first of all. Assumes nothing.
use Rattle.unit.specs.Objects.{count_of}
use Rattle.unit.proofs.Times.{Seeking}
use Rattle.unit.proofs.Objects.first_bad.Given as goal

abbrev pub invariant-loop-number : goal.invariant-loop-number
invariant-loop-number l = Seeking l.self.row l.self.unit.now (count_of l.self.unit.now) l.at l.number
