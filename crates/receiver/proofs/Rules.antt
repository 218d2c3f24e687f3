-- Whether a receiver's state keeps its rules, by the tests in their order. Assumes nothing.
use Prim.Native.Nat.{ℕ, ◌-◌, ◌≤◌, ◌<◌}
use mathlib.Core.Bool.{Bool, false, and-false}
use mathlib.Core.List.{List}
use mathlib.Core.Path.{◌≡◌, ap, ◌∙◌}
use borrow.Author.Rules.{rules}
use borrow.Author.Tests.{le-leb, lt-leb}
use native.Mathlib.Omega.{arith}
use lib.Dec.{leb}
use lib.ListN.{length, take, drop}
use Rattle.octets.specs.Searches.{all_zero}
use Rattle.octets.proofs.Parts.{rest-is}
use Rattle.frame.specs.Frame.{room}
use Rattle.reading.specs.Calls.{sound}
use Rattle.receiver.specs.Receivers.{lent}

module _ (M : ℕ) (hold : List ℕ) (held skipped : ℕ) (long : length hold ≡ room M) where
  pub held-over : length hold < held → false ≡ sound M (lent hold held skipped)
  unfolding sound
  held-over h = simp (lt-leb held (room M) (omega (arith, long)))

  pub skipped-over : 65534 < skipped → false ≡ sound M (lent hold held skipped)
  unfolding sound
  skipped-over h = simp (lt-leb skipped 65534 h, and-false (leb held (room M)))

  pub zero-decides : (r : Bool) → r ≡ all_zero (take (length hold - held) (drop held hold)) → held ≤ length hold → skipped ≤ 65534
      → r ≡ sound M (lent hold held skipped)
  unfolding sound
  zero-decides r e h l = e ∙ ap all_zero (rest-is hold held) ∙ simp (le-leb held (room M) (omega (arith, long)), le-leb skipped 65534 l)

pub ruleset rules_kept = (rules, held-over, skipped-over, zero-decides)
