-- `places::find_fitting` meets its contract. The loop's invariant: the first fitting place of what is left of the eight is the first of all.
-- Assumes nothing.
use Prim.Native.Nat.{◌*◌}
use Rattle.places.specs.Rows.{fits_at}
use Rattle.places.proofs.Loops.{Passed}
use Rattle.places.proofs.find_fitting.Given as goal

abbrev pub invariant-loop-place : goal.invariant-loop-place
invariant-loop-place l = Passed (fits_at l.places l.serial l.reply) (l.centre * 8) l.place
