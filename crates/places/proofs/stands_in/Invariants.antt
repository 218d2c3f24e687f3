-- `places::stands_in` meets its contract. The loop's invariant: it was hit where the serial stands among those that were looked at. Assumes nothing.
use mathlib.Core.Path.{◌≡◌}
use lib.ListN.{take}
use Rattle.places.specs.Held.{stands_in}
use Rattle.places.proofs.stands_in.Given as goal

abbrev pub invariant-loop-n : goal.invariant-loop-n
invariant-loop-n l = l.hit ≡ stands_in (take l.n-index l.eight) l.serial
