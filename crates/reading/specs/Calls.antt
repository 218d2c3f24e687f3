-- Document 01, "Reading a stream": one call of the receiver, over the largest unit M.
-- Assumes nothing.
use Rattle.std.specs.Prelude.{ℕ, ◌-◌, Bool, ◌&&◌, cond, List, [], ◌∷◌, ◌++◌, leb, length, take, drop, replicate}
use Rattle.frame.specs.Frame.{room}
use Rattle.octets.specs.Searches.{all_zero}
use Rattle.verdict.specs.declared.Verdict.{Verdict}
use Rattle.verdict.specs.Refusals.{STATE, ROOM}
use Rattle.verdict.specs.Orders.{Test, ◌or_else◌, in_order, good, is_good}
use Rattle.reading.specs.Events.{Event, Step}
use Rattle.reading.specs.Events.Event.{Refused}
use Rattle.reading.specs.Values.{packet_of}
use Rattle.reading.specs.Finding.{first}

-- "up to 1,054 held bytes and a skipped count of 0 to 65,534"
pub record State : Type 0 where
  pub hold : List ℕ
  pub held : ℕ
  pub skipped : ℕ

-- "unused room in the hold reads zero": a row of n bytes that begins so
unfoldable pub pad_to : ℕ → List ℕ → List ℕ
pad_to n xs = xs ++ replicate (n - length xs) 0

-- "a fresh one is empty with count 0"
abbrev pub fresh : ℕ → State
fresh M = record { hold = pad_to (room M) []; held = 0; skipped = 0 }

abbrev pub held_bytes : State → List ℕ
held_bytes st = take st.held st.hold

-- STATE for "a receiver or exchange state breaks its rules here"
unfoldable pub sound : ℕ → State → Bool
sound M st = leb st.held (room M) && leb st.skipped 65534 && all_zero (drop st.held st.hold)

-- "Receiver call: STATE, ROOM"
abbrev pub call_tests : ℕ → State → List ℕ → List Test
call_tests M st out = (sound M st or_else STATE) ∷ (leb (room M) (length out) or_else ROOM) ∷ []

-- "One call gives one event or asks for more"; "the number of bytes taken is part of the answer"
pub record Answer : Type 0 where
  pub event : Event
  pub skipped : ℕ
  pub taken : ℕ
  pub state : State
  pub out : List ℕ

-- "It judges held bytes first and takes from the piece no byte beyond the one that decides": of held bytes h and what is taken of the
-- piece, what follows the next position is held afterwards
abbrev pub rest_of : Step → List ℕ → List ℕ → List ℕ
rest_of f h piece = drop f.next (h ++ take (f.looked - length h) piece)

-- "PACKET .. copies it to the front of the lent buffer; nothing else writes there"
abbrev pub copied : List ℕ → List ℕ → List ℕ
copied p out = p ++ drop (length p) out

-- the whole answer to what was found first in the held bytes h and the piece
unfoldable pub answer_by : ℕ → Step → List ℕ → List ℕ → List ℕ → Answer
answer_by M f h piece out =
    record {
      event = f.event;
      skipped = f.carried;
      taken = f.looked - length h;
      state =
          record {
            hold = pad_to (room M) (rest_of f h piece);
            held = length (rest_of f h piece);
            skipped = f.count;
          };
      out = copied (packet_of f.event (drop f.at (h ++ piece))) out;
    }

-- held bytes and piece are read as one
abbrev pub answered : ℕ → State → List ℕ → List ℕ → Answer
answered M st piece out =
    answer_by M (first M st.skipped (held_bytes st ++ piece)) (held_bytes st) piece out

-- "A refusal returns its number .., gives the state back as it came, and writes nothing"
abbrev pub refused_call : ℕ → State → List ℕ → Answer
refused_call n st out = record { event = Refused n; skipped = 0; taken = 0; state = st; out = out }

-- the answer to a good verdict, and to a refusal by its number
abbrev pub judged_call : Verdict → Answer → (ℕ → Answer) → Answer
judged_call v a r = cond (is_good v) a (r v.number)

-- one call: the state, the piece and the lent buffer give the whole answer
unfoldable pub called : ℕ → State → List ℕ → List ℕ → Answer
called M st piece out =
    judged_call (in_order (call_tests M st out) good) (answered M st piece out) (λ n. refused_call n st out)
