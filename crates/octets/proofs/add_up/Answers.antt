-- `octets::add_up` meets its contract: what has been added is within the bound after each byte, so no addition loses anything.
-- Assumes nothing.
use native.Mathlib.Omega.{arith}
use borrow.Author.Rules.{rules}
use mir.Syntax.{w32}
use Rattle.std.proofs.lemmas.Iterator.{YieldsList-from_map, YieldsList-from_slice}
use Rattle.octets.proofs.Sums.{wide_enough, along}
use Rattle.octets.proofs.add_up.Goals as goal

pub sum-requires-clause-fits : goal.sum-requires-clause-fits
sum-requires-clause-fits c = λ p seen at.
    let s = c.args.s.now in
    omega
    (arith, (wide_enough {w = w32} (along s _ (λ j. (c.type_inv.s j).fits) (search rules) (YieldsList-from_map _ (λ b. b) (YieldsList-from_slice s (search rules)) (search rules) (search rules)) p seen at) tt).fits)
