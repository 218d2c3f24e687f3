-- The loop's invariant: the entries that were passed stand below the key.
use Rattle.devices.proofs.Rising.{Below}
use Rattle.devices.proofs.entries.Entries.position.Given as goal

abbrev pub invariant-loop-k : goal.invariant-loop-k
invariant-loop-k l = Below l.self.section l.self.table.now l.self.from l.key l.k
