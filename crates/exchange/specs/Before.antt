-- Release 1.0, for what going back means: "Begin, told send or request" (document 01) opened the place, and a call of its own then wrote the
-- packet; "if the write is refused, a place stays open for something never sent" (document 02, Q-8).
-- Assumes nothing.
use Rattle.std.specs.Prelude.{ℕ, cond, List}
use Rattle.kinds.specs.declared.Row.{Row}
use Rattle.output.specs.Writing.{packet_verdict, written_packet}
use Rattle.verdict.specs.declared.Verdict.{Verdict}
use Rattle.verdict.specs.Orders.{is_good}
use Rattle.exchange.specs.declared.Draft.{Draft}
use Rattle.exchange.specs.declared.Exchanges.{Exchanges}
use Rattle.exchange.specs.Begins.{headed}
use Rattle.exchange.specs.Table.{found, entered}

-- what the two calls left: the verdict of the one that refused or of the second, the table and the output
pub record Left : Type 0 where
  pub verdict : Verdict
  pub state : Exchanges
  pub out : List ℕ

unfoldable pub in_two : List Row → Exchanges → ℕ → ℕ → List ℕ → Draft → ℕ → Left
in_two rs x c m out d l =
    let f = found x c in
    cond (is_good f.verdict)
    (record {
      verdict = packet_verdict rs out (headed x c d f.serial) l;
      state = entered x c f.place f.serial m;
      out = written_packet rs out (headed x c d f.serial) l;
    })
    (record { verdict = f.verdict; state = x; out = out })
