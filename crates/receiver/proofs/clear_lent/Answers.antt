-- `receiver::clear_lent` meets its contract: the whole row is wiped. Assumes nothing.
use Prim.Native.Nat.{ℕ}
use borrow.Author.Rules.{rules}
use mathlib.Core.Path.{◌≡◌, ap, ◌∙◌}
use lib.ListN.{length, replicate}
use Rattle.reading.specs.Calls.{pad_to}
use Rattle.frame.specs.Frame.{room}
use Rattle.receiver.proofs.clear_lent.Goals as goal

pub returns : goal.returns
unfolding room pad_to
returns c =
    let long : length c.args.hold.now ≡ 1054 = search rules in
    c.wipe.ensures ∙ ap (λ (n : ℕ). replicate n 0) long
