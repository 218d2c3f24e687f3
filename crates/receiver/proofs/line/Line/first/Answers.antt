-- `receiver::line::Line::first` meets its contract by what stands behind the run of noise. Assumes nothing.
use Prim.Native.Nat.{◌+◌, ◌<◌}
use native.Mathlib.Omega.{arith}
use lib.ListN.{length}
use borrow.Author.Rules.{rules}
use Rattle.receiver.proofs.Aheads.{skip-looked, hit-looked, hit-next, here-skips, here-hits}
use Rattle.receiver.proofs.line.Line.first.Goals as goal

pub overflow_add-result : goal.overflow_add-result
overflow_add-result g c =
    let line = c.args.self.now in
    let long : length line.front.now + length line.back.now < 18446744073709551616 = search rules in
    let h = skip-looked _ _ _ _ _ _ _ c.noise-at.ensures c.behind.ensures c.stands.ensures _ _ c.in-Skip.is long in search rules

pub overflow_add-result-in-Hit : goal.overflow_add-result-in-Hit
overflow_add-result-in-Hit g c =
    let line = c.args.self.now in
    let long : length line.front.now + length line.back.now < 18446744073709551616 = search rules in
    let h = hit-looked _ _ _ _ _ _ _ c.noise-at.ensures c.behind.ensures c.stands.ensures _ _ _ _ c.in-Hit.is long in search rules

pub overflow_add-result-in-Hit-2 : goal.overflow_add-result-in-Hit-2
overflow_add-result-in-Hit-2 g c =
    let line = c.args.self.now in
    let long : length line.front.now + length line.back.now < 18446744073709551616 = search rules in
    let h = hit-next _ _ _ _ _ _ _ c.noise-at.ensures c.behind.ensures c.stands.ensures _ _ _ _ c.in-Hit.is long in search rules

pub returns-in-Skip : goal.returns-in-Skip
returns-in-Skip g c = here-skips _ _ _ c.args.self.now.front.now c.args.self.now.back.now _ _ c.noise-at.ensures c.behind.ensures c.stands.ensures c.requires _ c.in-Skip.is

pub returns-in-Hit : goal.returns-in-Hit
returns-in-Hit g c = here-hits _ _ _ c.args.self.now.front.now c.args.self.now.back.now _ _ c.noise-at.ensures c.behind.ensures c.stands.ensures c.requires _ _ _ _ c.in-Hit.is (omega arith)
