-- The loop's invariant: the tests of the entries that are left decide. Assumes nothing.
use Rattle.std.proofs.Common.{◌≡◌, ◌-◌}
use Rattle.verdict.specs.Orders.{in_order, good}
use Rattle.devices.specs.Sections.{rising_tests, each_entry}
use Rattle.devices.proofs.entries.Entries.judge_order.Given as goal

abbrev pub invariant-loop-k : goal.invariant-loop-k
invariant-loop-k l =
    let f = rising_tests l.self.section l.self.table.now l.self.from in
    in_order (each_entry f l.k (l.self.count - l.k)) good ≡ in_order (each_entry f 0 l.self.count) good
