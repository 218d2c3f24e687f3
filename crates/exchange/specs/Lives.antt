-- "An exchange always ends" (document 02, Q-10): an exchange in a log, and its life in the lines after its beginning. Assumes nothing.
use Rattle.std.specs.Prelude.{ℕ, ◌+◌, ◌*◌, ◌≤◌, ◌<◌, Bool, true, not, cond, List, [], ◌∷◌, ◌++◌, ◌≡◌}
use Rattle.place.specs.Steps.{FAILED, is_end, goes_on}
use Rattle.verdict.specs.declared.Verdict.{Verdict}
use Rattle.verdict.specs.Orders.{is_good}
use Rattle.exchange.specs.Logs.{Line, of_begin, is_tick, begins, gives, tells, speaks, answers, misnames, resends, count, up_to}

-- "each exchange begun": the line of a beginning that was taken, with what stands before and after it
pub record Exchange (log : List Line) : Type 0 where
  pub before : List Line
  pub verdict : Verdict
  pub place : ℕ
  pub serial : ℕ
  pub after : List Line
  pub written : log ≡ before ++ (of_begin verdict place serial ∷ after)
  pub taken : is_good verdict ≡ true

-- whether a line ends the exchange at a place: it tells of it something else than nothing or a resend
unfoldable pub ends : ℕ → Line → Bool
ends k l = not (goes_on (tells k l))

-- the life of the exchange at a place, in the lines after its beginning: up to the one that ends it, that one among them
unfoldable pub life : ℕ → List Line → List Line
life k [] = []
life k (l ∷ ls) = l ∷ cond (ends k l) [] (life k ls)

-- "ends once, confirmed, answered or failed": the line that ends it says one of these, failed only after m resends; fewer than n ticks came before it; and in
-- the lines after it nothing is told of its place before another beginning takes it
pub record Ended (n m k : ℕ) (ls : List Line) : Type 0 where
  pub last : Line
  pub later : List Line
  pub split : ls ≡ up_to (ends k) ls ++ (last ∷ later)
  pub whole : life k ls ≡ up_to (ends k) ls ++ (last ∷ [])
  pub is_last : is_end (tells k last) ≡ true
  pub spent : tells k last ≡ FAILED → count (resends k) (life k ls) ≡ m
  pub in_time : count is_tick (up_to (ends k) ls) < n
  pub silent : count (speaks k) (up_to (begins k) later) ≡ 0

-- failed, and so after m resends, at the n-th tick after its beginning
pub record Failed (n m k : ℕ) (ls : List Line) : Type 0 where
  pub ended : Ended n m k ls
  pub failed : tells k ended.last ≡ FAILED
  pub by_tick : is_tick ended.last ≡ true
  pub at_tick : count is_tick (life k ls) ≡ n

-- what Q-10 says, T and R being t and r, of the exchange that was begun at place k under serial s, in the lines after its beginning
pub record Lived (t r k s : ℕ) (ls : List Line) : Type 0 where
  -- "with T and R fixed and enough ticks to come, each exchange begun ends once, .. no later than (R+1) times T ticks after its beginning"
  pub ends_once : (r + 1) * t ≤ count is_tick ls → Ended ((r + 1) * t) r k ls
  -- and however many are to come, fewer have come while it is open
  pub open_in_time : count is_tick (up_to (ends k) ls) < (r + 1) * t
  -- "it is sent at most R+1 times, the first sending and each reported resend counted"
  pub sent_at_most : 1 + count (resends k) (life k ls) ≤ r + 1
  -- "and its serial is given to no other while it is open", within its centre (Q-11), nor is its place; each tick tells of it under its serial
  pub serial_its_own : count (gives k s) (life k ls) ≡ 0
  pub place_its_own : count (begins k) (life k ls) ≡ 0
  pub told_by_serial : count (misnames k s) (life k ls) ≡ 0
  -- if no reply fits it, both bounds are reached: it fails at the (R+1)*T-th tick, sent R+1 times
  pub fails_at_last : (r + 1) * t ≤ count is_tick ls → count (answers k) (life k ls) ≡ 0 → Failed ((r + 1) * t) r k ls
