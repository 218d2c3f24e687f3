-- `places::serial_in` meets its contract, by the invariant. Assumes nothing.
use borrow.Author.Rules.{rules}
use Rattle.places.proofs.Loops.{trying, serial-here, one-tried}
use Rattle.places.proofs.serial_in.Goals as goal

pub returns-then-not-stands_in : goal.returns-then-not-stands_in
returns-then-not-stands_in c = serial-here _ _ _ _ c.loop.invariant _ c.stands_in.ensures c.loop-test.true c.if-not-stands_in.true

pub loop-init : goal.loop-init
loop-init c = search (trying, rules)

pub loop-preserved : goal.loop-preserved
loop-preserved c = one-tried _ _ _ _ c.loop.invariant _ c.stands_in.ensures c.loop-test.true _ c.if-not-stands_in.false c.after-serial.ensures

pub returns : goal.returns
returns c = search (trying, rules)
