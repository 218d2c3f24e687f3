-- Sequences of the calls on the exchange table as they are delivered, for what holds over all of them. Assumes nothing.
use Rattle.std.specs.Prelude.{ℕ, List, [], ◌∷◌, ◌≡◌, true, length}
use Rattle.kinds.specs.Table.{rows}
use Rattle.verdict.specs.declared.Verdict.{Verdict}
use Rattle.place.specs.declared.Reply.{Reply}
use Rattle.exchange.specs.declared.Begun.{Begun}
use Rattle.exchange.specs.declared.Draft.{Draft}
use Rattle.exchange.specs.declared.Exchanges.{Exchanges}
use Rattle.exchange.specs.Begins.{begun}
use Rattle.exchange.specs.Table.{legal, answered, ticking}

-- what a beginning is given beside the table: the centre, the output in which the unit stands, what its header needs but serial and destination, and L
pub record Asked : Type 0 where
  pub centre : ℕ
  pub out : List ℕ
  pub draft : Draft
  pub size : ℕ

abbrev pub begun_by : Exchanges → Asked → Begun
begun_by x a = begun rows x a.centre a.out a.draft a.size

pub data Call : Type 0 where
  begin : Asked → Call
  reply : List ℕ → ℕ → Reply → Call
  tick : Call

-- the verdict of a call, and the table that it gives back
unfoldable pub verdict_of : Exchanges → Call → Verdict
verdict_of x (begin a) = (begun_by x a).verdict
verdict_of x (reply a s w) = (answered x a s w).verdict
verdict_of x tick = (ticking x).verdict

unfoldable pub after : Exchanges → Call → Exchanges
after x (begin a) = (begun_by x a).state
after x (reply a s w) = (answered x a s w).state
after x tick = (ticking x).state

-- the table after a sequence of calls
unfoldable pub run : Exchanges → List Call → Exchanges
run x [] = x
run x (c ∷ cs) = run (after x c) cs

-- a table of sixteen places and two centres that keeps the state's rules
pub record Sound (x : Exchanges) : Type 0 where
  pub long : length x.places ≡ 16
  pub two : length x.centres ≡ 2
  pub kept : legal x ≡ true
