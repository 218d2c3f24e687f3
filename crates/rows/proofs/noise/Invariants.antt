-- `rows::noise` meets its contract. The loop's invariant: what is passed is noise, and the run goes on from there. Assumes nothing.
use Prim.Native.Nat.{◌-◌}
use Rattle.rows.proofs.Noises.{Noisy}
use Rattle.rows.proofs.noise.Given as goal

abbrev pub invariant-loop-at : goal.invariant-loop-at
invariant-loop-at l = Noisy l.s l.most l.end l.at

abbrev pub decreases-loop-at : goal.decreases-loop-at
decreases-loop-at l = l.end - l.at
