-- `places::find_opening` meets its contract. The loop's invariant: the first free place of what is left of the eight is the first of all. Assumes nothing.
use Prim.Native.Nat.{◌*◌}
use Rattle.places.specs.Rows.{free_at}
use Rattle.places.proofs.Loops.{Passed}
use Rattle.places.proofs.find_opening.Given as goal

abbrev pub invariant-loop-place : goal.invariant-loop-place
invariant-loop-place l = Passed (free_at l.places) (l.centre * 8) l.place
