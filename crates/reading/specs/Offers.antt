-- The tender, demand 3: a stream is cut into pieces, and each piece is offered, then what was not yet taken of it, until the receiver
-- asks for more, with a packet buffer at each call. Assumes nothing.
use Rattle.std.specs.Prelude.{ℕ, suc, ◌+◌, ◌≤◌, true, false, List, [], ◌∷◌, ◌++◌, ◌≡◌, length, drop}
use Rattle.frame.specs.Frame.{room}
use Rattle.reading.specs.Values.{asks, start_byte, packet_of}
use Rattle.reading.specs.Finding.{Heard, Reading}
use Rattle.reading.specs.Calls.{State, Answer, pad_to, fresh, held_bytes, called}

-- "a packet buffer of 1,054 bytes or more at each call": the buffer lent to each call, by the call's number
abbrev pub Roomy : ℕ → (ℕ → List ℕ) → Type 0
Roomy M lent = (i : ℕ) → room M ≤ length (lent i)

-- what the caller hears of an answer: the event, its count, and the packet at the front of the buffer
abbrev pub heard_in : Answer → Heard
heard_in a = record { event = a.event; skipped = a.skipped; packet = packet_of a.event a.out }

-- one piece offered from call i on: what is heard until more is asked for, the state then, and the next call's number
pub data Offered (M : ℕ) (lent : ℕ → List ℕ) : ℕ → State → List ℕ → List Heard → State → ℕ → Type 0 where
  enough : (i : ℕ) (st : State) (piece : List ℕ) → asks (called M st piece (lent i)).event ≡ true
      → Offered M lent i st piece [] (called M st piece (lent i)).state (suc i)
  again : (i : ℕ) (st : State) (piece : List ℕ) (hs : List Heard) (end : State) (j : ℕ) → asks (called M st piece (lent i)).event ≡ false
      → Offered M lent (suc i) (called M st piece (lent i)).state (drop (called M st piece (lent i)).taken piece) hs end j
      → Offered M lent i st piece (heard_in (called M st piece (lent i)) ∷ hs) end j

-- the pieces one after the other
pub data Streamed (M : ℕ) (lent : ℕ → List ℕ) : ℕ → State → List (List ℕ) → List Heard → State → ℕ → Type 0 where
  none : (i : ℕ) (st : State) → Streamed M lent i st [] [] st i
  next : (i : ℕ) (st : State) (piece : List ℕ) (pieces : List (List ℕ)) (hs ks : List Heard) (mid end : State) (j k : ℕ)
      → Offered M lent i st piece hs mid j → Streamed M lent j mid pieces ks end k
      → Streamed M lent i st (piece ∷ pieces) (hs ++ ks) end k

-- the uncut stream
unfoldable pub joined : List (List ℕ) → List ℕ
joined [] = []
joined (p ∷ ps) = p ++ joined ps

-- the state in which a reading leaves the receiver
abbrev pub state_of : ℕ → Reading → State
state_of M r = record { hold = pad_to (room M) r.held; held = length r.held; skipped = r.skipped }

-- "Bytes received equal the events' skipped counts, one per LENGTH, END and SUM, the packets' lengths, the present count and the
-- held bytes, added up"
abbrev pub counted_in : Heard → ℕ
counted_in h = h.skipped + start_byte h.event + length h.packet

unfoldable pub counted_all : List Heard → ℕ
counted_all [] = 0
counted_all (h ∷ hs) = counted_in h + counted_all hs

abbrev pub accounted : Reading → ℕ
accounted r = counted_all r.heard + r.skipped + length r.held

-- offering ends: a piece is offered a number of times that its bytes and the held ones bound, and a whole stream so too
pub record OfferEnds (M : ℕ) (lent : ℕ → List ℕ) (i : ℕ) (st : State) (piece : List ℕ) : Type 0 where
  pub heard : List Heard
  pub end : State
  pub calls : ℕ
  pub offered : Offered M lent i st piece heard end calls
  pub few : calls ≤ suc (i + length (held_bytes st) + length piece)

pub record StreamEnds (M : ℕ) (lent : ℕ → List ℕ) (i : ℕ) (st : State) (pieces : List (List ℕ)) : Type 0 where
  pub heard : List Heard
  pub end : State
  pub calls : ℕ
  pub streamed : Streamed M lent i st pieces heard end calls

-- every state that calls reach from a fresh one, with any pieces and buffers, refused calls among them
pub data Reached (M : ℕ) : State → Type 0 where
  begun : Reached M (fresh M)
  further : (st : State) (piece out : List ℕ) → Reached M st → Reached M (called M st piece out).state
