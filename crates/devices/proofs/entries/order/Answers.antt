-- A pair of bytes that differ decides, and else what is left. Assumes nothing.
use borrow.Author.Rules.{rules}
use native.Mathlib.Omega.{arith}
use mathlib.Core.Path.{ap, ◌∙◌}
use lib.ListN.{length}
use Rattle.std.proofs.lemmas.Slice.Zip.{Zip-more, either_empty_from_Zip}
use Rattle.devices.proofs.Keys.{byte_ties, byte_decides, lengths_decide}
use Rattle.devices.proofs.entries.order.Goals as goal

pub loop-a-init : goal.loop-a-init
loop-a-init c = record { alike = search rules; longer = search rules }

pub loop-a-preserved : goal.loop-a-preserved
loop-a-preserved c =
    let inv = c.loop-a.invariant in
    let more = Zip-more c.loop-a.a-iterator c.next.new.self c.next.result (c.in-Some.a, c.in-Some.b) c.in-Some.is c.next.ensures.steps in
    record {
      alike = byte_ties _ _ _ _ _ _ more.0 more.1 c.cmp.result c.cmp.ensures c.in-Equal.is ∙ inv.alike;
      longer = omega (arith, ap length more.0, ap length more.1, inv.longer);
    }

pub returns-in_default : goal.returns-in_default
returns-in_default c =
    let inv = c.loop-a.invariant in
    let more = Zip-more c.loop-a.a-iterator c.next.new.self c.next.result (c.in-Some.a, c.in-Some.b) c.in-Some.is c.next.ensures.steps in
    byte_decides _ _ _ _ _ _ more.0 more.1 c.cmp.result c.cmp.ensures c.in_default.not-Equal ∙ inv.alike

pub returns : goal.returns
returns c =
    let inv = c.loop-a.invariant in
    let one = either_empty_from_Zip c.loop-a.a-iterator c.next.new.self c.next.result c.in-None.is c.next.ensures.steps in
    c.cmp-2.ensures ∙ lengths_decide c.loop-a.a-iterator.a.rest.now c.loop-a.a-iterator.b.rest.now _ _ one inv.longer ∙ inv.alike
