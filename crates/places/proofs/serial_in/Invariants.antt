-- `places::serial_in` meets its contract. The loop's invariant: so many serials were tried, and the first of the rest that does not stand
-- among the eight is the first of all. Assumes nothing.
use Rattle.places.proofs.Loops.{Tried}
use Rattle.places.proofs.serial_in.Given as goal

abbrev pub invariant-loop : goal.invariant-loop
invariant-loop l = Tried l.eight l.next l.serial l.counter
