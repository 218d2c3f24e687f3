-- Whether the last byte of a row is skipped by the next row, by the tests in their order. Assumes nothing.
use Prim.Native.Nat.{ℕ, ◌≤◌, ◌<◌}
use mathlib.Core.Bool.{false, not, ◌&&◌, and-false}
use mathlib.Core.List.{List}
use mathlib.Core.Path.{◌≡◌}
use borrow.Author.Rules.{rules}
use borrow.Author.Tests.{eq-eqb, ne_eqb, lt-ltb, le-ltb}
use lib.Dec.{eqb, ltb}
use lib.ListN.{length, get_or}
use Rattle.rows.proofs.Noises.{others-none, others-some}
use Rattle.receiver.specs.Runs.{crossing}

module _ (left count : ℕ) (b : List ℕ) where
  pub not_last : (left ≡ 1 → ⊥) → false ≡ crossing left b count
  unfolding crossing
  not_last h = simp (ne_eqb left 1 h)

  pub count-full : 65534 ≤ count → false ≡ crossing left b count
  unfolding crossing
  count-full h = simp (le-ltb count 65534 h, and-false (eqb left 1))

  pub none-follows : length b ≡ 0 → false ≡ crossing left b count
  unfolding crossing
  none-follows h = simp (others-none b h, and-false (eqb left 1 && ltb count 65534))

  pub by_next : left ≡ 1 → count < 65534 → (length b ≡ 0 → ⊥) → not (eqb (get_or b 0 0) 64) ≡ crossing left b count
  unfolding crossing
  by_next e l h = simp (eq-eqb left 1 e, lt-ltb count 65534 l) (others-some b h)

pub ruleset crossings = (rules, not_last, count-full, none-follows, by_next)
