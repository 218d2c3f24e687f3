-- Document 01, "Reading a stream": what the reading finds first, and the reading of a whole stream.
-- Assumes nothing.
use Rattle.std.specs.Prelude.{ℕ, zero, suc, ◌-◌, cond, List, [], ◌∷◌, eqb, length}
use Rattle.reading.specs.Events.{Event, Standing, Step}
use Rattle.reading.specs.Events.Event.{More, Noise}
use Rattle.reading.specs.Events.Standing.{Wait, Skip, Hit}
use Rattle.reading.specs.Values.{packet_of}
use Rattle.reading.specs.Standing.{stands}

-- "At 65,535 the event NOISE is given and the count restarts at 0"
abbrev pub noise_at : ℕ
noise_at = 65535

-- what is found one byte further on
unfoldable pub onward : Step → Step
onward f =
    record {
      event = f.event;
      carried = f.carried;
      at = suc f.at;
      looked = suc f.looked;
      next = suc f.next;
      count = f.count;
    }

-- "asking for more means that the whole piece was taken": n bytes are there and all were looked at
unfoldable pub more : ℕ → ℕ → Step
more s n = record { event = More; carried = 0; at = 0; looked = n; next = 0; count = s }

-- "NOISE carries 65,535"
unfoldable pub noise : ℕ → Step
noise k = record { event = Noise; carried = noise_at; at = 0; looked = k; next = 1; count = 0 }

-- "LENGTH, END, SUM and PACKET carry the skipped count so far, which restarts at 0"
unfoldable pub hit : Event → ℕ → ℕ → ℕ → Step
hit e s k p = record { event = e; carried = s; at = 0; looked = k; next = p; count = 0 }

-- "skip one byte, count up"
unfoldable pub found : Standing → ℕ → ℕ → Step → Step
found Wait s n further = more s n
found (Skip k) s n further = cond (eqb (suc s) noise_at) (noise k) (onward further)
found (Hit e k p) s n further = hit e s k p

-- what is found first, with s bytes skipped so far
unfoldable pub first : ℕ → ℕ → List ℕ → Step
first M s [] = more s 0
first M s (x ∷ xs) = found (stands M (x ∷ xs)) s (length (x ∷ xs)) (first M (suc s) xs)

-- an event as it is heard: with the count that it carries and the packet's bytes
pub record Heard : Type 0 where
  pub event : Event
  pub skipped : ℕ
  pub packet : List ℕ

-- the reading of a stream: what is heard, and what is left at its end
pub record Reading : Type 0 where
  pub heard : List Heard
  pub held : List ℕ
  pub skipped : ℕ

abbrev pub after : Heard → Reading → Reading
after h r = record { heard = h ∷ r.heard; held = r.held; skipped = r.skipped }

-- what follows from what stands at the head of a list: the rest is read on from the byte after the head, with so many to pass
unfoldable pub read_on : Standing → ℕ → List ℕ → (ℕ → ℕ → Reading) → Reading
read_on Wait s xs rest = record { heard = []; held = xs; skipped = s }
read_on (Skip k) s xs rest =
    cond (eqb (suc s) noise_at)
    (after (record { event = Noise; skipped = noise_at; packet = [] }) (rest 0 0))
    (rest (suc s) 0)
read_on (Hit e k p) s xs rest = after (record { event = e; skipped = s; packet = packet_of e xs }) (rest 0 (p - 1))

-- "One reading of the stream is defined from a position p", with s bytes skipped so far and k bytes still to pass
unfoldable pub reading : ℕ → ℕ → ℕ → List ℕ → Reading
reading M s k [] = record { heard = []; held = []; skipped = s }
reading M s (suc k) (x ∷ xs) = reading M s k xs
reading M s zero (x ∷ xs) = read_on (stands M (x ∷ xs)) s (x ∷ xs) (λ t j. reading M t j xs)
