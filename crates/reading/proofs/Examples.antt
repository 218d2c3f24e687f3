-- The points of a stream's reading that are easy to get wrong, by computation. Assumes nothing.
use Prim.Native.Nat.{ℕ, zero, suc, ◌+◌, ◌<◌}
use native.Mathlib.Omega.{arith}
use mathlib.Core.Bool.{true, false}
use borrow.Author.Tests.{le-leb, ne_eqb}
use lib.Dec.{leb, eqb}
use mathlib.Core.List.{List, [], ◌∷◌, ◌++◌, map}
use mathlib.Core.Path.{◌≡◌, refl, ap, ◌∙◌}
use lib.ListN.{length, take, drop, replicate, set}
use Rattle.frame.specs.Frame.{room, unit_length, ended, summed}
use Rattle.octets.specs.Numbers.{low_first}
use Rattle.octets.specs.Sums.{total}
use Rattle.octets.proofs.Examples.{A}
use Rattle.verdict.specs.Orders.{in_order}
use Rattle.reading.specs.Events.{Event}
use Rattle.reading.specs.Events.Event.{More, Noise, Length, End, Sum, Packet, Refused}
use Rattle.reading.specs.Values.{told, packet_of}
use Rattle.reading.specs.Standing.{when_there, judged_frame, started, stands}
use Rattle.reading.specs.Finding.{noise_at, onward, more, noise, hit, found, first, read_on, reading, Heard, Reading}
use Rattle.octets.specs.Searches.{every}
use Rattle.reading.specs.Calls.{State, Answer, pad_to, held_bytes, sound, answer_by, called}
use Rattle.reading.specs.Offers.{state_of}

-- what a call is given: held bytes, the count, a piece
pub record Given : Type 0 where
  pub held : List ℕ
  pub count : ℕ
  pub piece : List ℕ

-- and what it answers: the event, the count that it carries, the bytes taken, and what is then held and counted
pub record Shown : Type 0 where
  pub event : Event
  pub skipped : ℕ
  pub taken : ℕ
  pub held : List ℕ
  pub count : ℕ

abbrev given : List ℕ → ℕ → List ℕ → Given
given h s p = record { held = h; count = s; piece = p }

abbrev shows : Event → ℕ → ℕ → List ℕ → ℕ → Shown
shows e s t h c = record { event = e; skipped = s; taken = t; held = h; count = c }

abbrev answer_to : Given → Answer
answer_to g = called 1024 (state_of 1024 (record { heard = []; held = g.held; skipped = g.count })) g.piece (replicate 1054 0)

abbrev shown : Answer → Shown
shown a = shows a.event a.skipped a.taken (held_bytes a.state) a.state.skipped

-- a start with 26 bytes and the given L
abbrev start : ℕ → ℕ → List ℕ
start low high = 64 ∷ 64 ∷ replicate 22 0 ++ low ∷ high ∷ []

-- a packet of L 30 whose unit is packet A, with a wrong sum
abbrev around : List ℕ
around = take 24 A ++ 30 ∷ 0 ∷ 3 ∷ A ++ 0 ∷ 35 ∷ 35 ∷ []

abbrev pub cases : List (Given × Shown)
cases =
    -- END is decided at 30+L bytes, even where byte 29+L already differs
    (given [] 0 (take 29 (set A 28 0)), shows More 0 29 (take 29 (set A 28 0)) 0)
    -- nothing is skipped ahead of the next
    ∷ (given [] 0 (start 1 4 ++ A), shows Length 0 26 (drop 1 (start 1 4)) 0)
    ∷ (given (drop 1 (start 1 4)) 0 A, shows (Packet 30) 25 30 [] 0)
    -- a hold need not begin with 64 nor be undecided
    ∷ (given (64 ∷ []) 65534 (0 ∷ 64 ∷ []), shows Noise 65535 1 (0 ∷ []) 0)
    ∷ (given (replicate 1054 0) 0 (64 ∷ []), shows More 0 1 (64 ∷ []) 1054)
    -- which byte decides: one other than 64 itself, a 64 the byte after it
    ∷ (given [] 65534 (0 ∷ 64 ∷ 64 ∷ []), shows Noise 65535 1 [] 0)
    ∷ (given [] 65534 (64 ∷ 65 ∷ 64 ∷ []), shows Noise 65535 2 (65 ∷ []) 0)
    ∷ (given (0 ∷ []) 65534 [], shows Noise 65535 0 [] 0)
    ∷ (given (0 ∷ []) 65534 (64 ∷ 64 ∷ []), shows Noise 65535 0 [] 0)
    -- NOISE's edge, after 65,534 skipped bytes
    ∷ (given [] 65534 A, shows (Packet 30) 65534 30 [] 0)
    ∷ (given [] 65534 (64 ∷ A), shows End 65534 30 (take 29 A) 0)
    -- the first byte of a refused start is not skipped
    ∷ (given [] 0 (64 ∷ A), shows End 0 30 (take 29 A) 0)
    -- after SUM only one byte is passed: a packet inside the refused one is found
    ∷ (given [] 0 around, shows Sum 0 60 (drop 1 around) 0)
    ∷ (given (drop 1 around) 0 [], shows (Packet 30) 26 0 (0 ∷ 35 ∷ 35 ∷ []) 0)
    -- an empty piece is a legal call
    ∷ (given [] 0 [], shows More 0 0 [] 0)
    -- STATE: a count above 65,534
    ∷ (given [] 65535 A, shows (Refused 1) 0 0 [] 65535)
    ∷ []

pub examples : map (λ (e : Given × Shown). shown (answer_to e.0)) cases ≡ map (λ (e : Given × Shown). e.1) cases
unfolding called answer_by sound every pad_to first found more noise hit onward stands started judged_frame summed ended unit_length when_there room told packet_of low_first total in_order
examples = refl

-- the rules of a state and the room, in their order: more than 1,054 held, unused room not zero, a buffer under 1,054 where only noise would come
abbrev empty_hold : List ℕ
empty_hold = replicate 1054 0

abbrev refusal_of : State → ℕ → Event
refusal_of st n = (called 1024 st (0 ∷ []) (replicate n 0)).event

pub refusals : refusal_of (record { hold = empty_hold; held = 1055; skipped = 0 }) 1053
    ∷ refusal_of (record { hold = set empty_hold 1053 1; held = 1053; skipped = 0 }) 1054
    ∷ refusal_of (record { hold = set empty_hold 1053 1; held = 1054; skipped = 65534 }) 1053
    ∷ refusal_of (record { hold = empty_hold; held = 0; skipped = 0 }) 1053
    ∷ []
    ≡ Refused 1 ∷ Refused 1 ∷ Refused 2 ∷ Refused 2 ∷ []
unfolding called sound every room in_order
refusals = refl

-- document 01's numbers, and our own outside 1 to 31
pub numbers : map (λ (e : Event). (told e).number) (More ∷ Noise ∷ Length ∷ End ∷ Sum ∷ Packet 30 ∷ Refused 2 ∷ []) ≡ 32 ∷ 33 ∷ 5 ∷ 6 ∷ 7 ∷ 34 ∷ 2 ∷ []
unfolding told
numbers = refl

-- zeros are skipped and counted, while the count is not full
skip-zeros : (M s n : ℕ) (ys : List ℕ) → s + n < noise_at → reading M s 0 (replicate n 0 ++ ys) ≡ reading M (s + n) 0 ys
unfolding reading read_on stands when_there
skip-zeros M s zero ys h = let same : s ≡ s + 0 = omega arith in ap (λ (t : ℕ). reading M t 0 ys) same
skip-zeros M s (suc n) ys h =
    let same : suc s + n ≡ s + suc n = omega arith in
    let more : leb 1 (suc (length (replicate n 0 ++ ys))) ≡ true = le-leb 1 (suc (length (replicate n 0 ++ ys))) (omega arith) in
    let low : eqb (suc s) noise_at ≡ false = ne_eqb (suc s) noise_at (λ e. omega arith) in
    simp (more, low) (skip-zeros M (suc s) n ys (omega arith) ∙ ap (λ (t : ℕ). reading M t 0 ys) same)

-- NOISE's edge: n bytes of zero for 65,534, then packet A, or one zero more and A, or a 64 and A
abbrev after_zeros : ℕ → List ℕ → List Heard
after_zeros n ys = (reading 1024 0 0 (replicate n 0 ++ ys)).heard

abbrev heard : Event → ℕ → List ℕ → Heard
heard e s p = record { event = e; skipped = s; packet = p }

edge : (n : ℕ) (ys : List ℕ) → n ≡ 65534 → after_zeros n ys ≡ (reading 1024 65534 0 ys).heard
edge n ys e =
    let full : 0 + n ≡ 65534 = omega arith in
    ap (λ (r : Reading). r.heard) (skip-zeros 1024 0 n ys (omega arith) ∙ ap (λ (t : ℕ). reading 1024 t 0 ys) full)

pub edges : (n : ℕ) → n ≡ 65534
    → (after_zeros n A ≡ heard (Packet 30) 65534 A ∷ [])
    × (after_zeros n (0 ∷ A) ≡ heard Noise 65535 [] ∷ heard (Packet 30) 0 A ∷ [])
    × (after_zeros n (64 ∷ A) ≡ heard End 65534 [] ∷ heard (Packet 30) 0 A ∷ [])
unfolding reading read_on stands started judged_frame summed ended unit_length when_there told packet_of low_first total
edges n e = (edge n A e, edge n (0 ∷ A) e, edge n (64 ∷ A) e)
