-- The loop's invariant: what is left of both compares as both do, and is longer by as much. Assumes nothing.
use Rattle.std.proofs.Common.{◌≡◌, ◌+◌, length}
use Rattle.std.specs.Cmp.Lexicographic.{slice_cmp}
use Rattle.std.specs.Ordering.{nat_cmp}
use Rattle.devices.proofs.entries.order.Given as goal

abbrev pub invariant-loop-a : goal.invariant-loop-a
invariant-loop-a l = record {
  alike : slice_cmp nat_cmp l.a-iterator.a.rest.now l.a-iterator.b.rest.now ≡ slice_cmp nat_cmp l.x l.y;
  longer : length l.a-iterator.a.rest.now + length l.y ≡ length l.a-iterator.b.rest.now + length l.x;
}
