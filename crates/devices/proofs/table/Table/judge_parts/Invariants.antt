-- The loop's invariant: every system that the walk passed stands below the last part's, and the tests of the parts that are left decide.
-- Assumes nothing.
use Rattle.std.proofs.Common.{◌≡◌, ◌-◌}
use Rattle.verdict.specs.Orders.{in_order, good}
use Rattle.devices.specs.Sections.{each_entry}
use Rattle.devices.proofs.Merging.{Behind, tests}
use Rattle.devices.proofs.table.Table.judge_parts.Given as goal

abbrev pub invariant-loop-k : goal.invariant-loop-k
invariant-loop-k l = record {
  walked : Behind l.self l.at l.k;
  decides : in_order (each_entry (tests l.self) l.k (l.self.parts.count - l.k)) good ≡ in_order (each_entry (tests l.self) 0 l.self.parts.count) good;
}
