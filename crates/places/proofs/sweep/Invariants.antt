-- `places::sweep` meets its contract. The loops' invariants: the places from k on keep the rules, the row has what they hold, and they have taken
-- their step and are reported; of a centre's eight, those that were looked at have left their marks. Assumes nothing.
use Prim.Native.Nat.{◌*◌}
use Rattle.places.proofs.Loops.{Looked}
use Rattle.places.proofs.Marks.{Met}
use Rattle.places.proofs.Sweeping.{SweptTo}
use Rattle.places.proofs.sweep.Given as goal

abbrev pub invariant-loop-k : goal.invariant-loop-k
invariant-loop-k l =
    (Looked l.timeout l.resends l.places l.row l.k × SweptTo l.timeout l.resends l.places l.swept.places l.swept.reports l.k) × Met l.marks l.row l.low l.k

abbrev pub invariant-loop-centre : goal.invariant-loop-centre
invariant-loop-centre l =
    Looked l.timeout l.resends l.places l.row (l.centre * 8) × SweptTo l.timeout l.resends l.places l.swept.places l.swept.reports (l.centre * 8)
