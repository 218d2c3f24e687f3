-- `unit::Objects::first_cut` meets its contract. The loop's invariant: the place reached is where the object of this number begins, and the first
-- not whole from there on is the first of all. Assumes nothing.
use Rattle.unit.specs.Objects.{count_of}
use Rattle.unit.proofs.Sizes.{Cutting}
use Rattle.unit.proofs.Objects.first_cut.Given as goal

abbrev pub invariant-loop-number : goal.invariant-loop-number
invariant-loop-number l = Cutting l.self.row l.self.unit.now (count_of l.self.unit.now) l.at l.number
