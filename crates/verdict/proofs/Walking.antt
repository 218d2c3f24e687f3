-- The laws by which `search` walks an order of tests to an answer: past a test that held, to the first that failed, or through.
-- Assumes nothing.
use mathlib.Core.Bool.{Bool, true, false, not, ◌&&◌}
use mathlib.Core.List.{List, [], ◌∷◌}
use mathlib.Core.Path.{◌≡◌, sym, ◌∙◌}
use borrow.Author.Tests.{not-true, not-false, lt-ltb, le-ltb, le-leb, lt-leb, eq-eqb, ne_eqb}
use Rattle.verdict.specs.declared.Verdict.{Verdict}
use Rattle.verdict.specs.Orders.{Test, in_order}
use Rattle.verdict.proofs.Order.{passed, failed}

pub goes-past : (t : Test) (ts : List Test) (rest v : Verdict) → t.holds ≡ true → v ≡ in_order ts rest → v ≡ in_order (t ∷ ts) rest
goes-past t ts rest v h e = e ∙ sym (passed t ts rest h)

pub stops_at : (t : Test) (ts : List Test) (rest v : Verdict) → t.holds ≡ false → v ≡ t.refused → v ≡ in_order (t ∷ ts) rest
stops_at t ts rest v h e = e ∙ sym (failed t ts rest h)

pub comes-through : (rest v : Verdict) → v ≡ rest → v ≡ in_order [] rest
unfolding in_order
comes-through rest v e = e

-- a test of two parts
pub both_hold : (a b : Bool) → a ≡ true → b ≡ true → a && b ≡ true
both_hold a b e f = simp (e, f)

pub first-fails : (a b : Bool) → a ≡ false → a && b ≡ false
first-fails a b e = simp e

pub second-fails : (a b : Bool) → a ≡ true → b ≡ false → a && b ≡ false
second-fails a b e f = simp (e, f)

-- a test that a call answered, where its answer's contrary was asked
pub flag-set : (r b : Bool) → r ≡ b → not r ≡ false → b ≡ true
flag-set r b e n = sym e ∙ not-false r n

pub flag-clear : (r b : Bool) → r ≡ b → not r ≡ true → b ≡ false
flag-clear r b e n = sym e ∙ not-true r n

pub ruleset compared = (lt-ltb, le-ltb, le-leb, lt-leb, eq-eqb, ne_eqb)

pub ruleset ordering = (goes-past, stops_at, comes-through, both_hold, first-fails, second-fails, flag-set, flag-clear, le-leb, lt-leb, eq-eqb, ne_eqb)
