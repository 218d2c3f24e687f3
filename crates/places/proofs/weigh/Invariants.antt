-- `places::weigh` meets its contract. The loop's invariant: the numbers of the places before i are told. Assumes nothing.
use Rattle.places.proofs.Loops.{Weighing}
use Rattle.places.proofs.weigh.Given as goal

abbrev pub invariant-loop-i : goal.invariant-loop-i
invariant-loop-i l = Weighing l.places l.weights l.i
