-- One call: by which refusal it is refused, and that an answer keeps the rules of a state and never overflows the hold; that a sound state with
-- room is answered is the first step of demand 3 (Demand). Assumes nothing.
use Prim.Native.Nat.{ℕ, ◌+◌, ◌-◌, ◌≤◌, ◌<◌, min}
use native.Mathlib.Omega.{arith}
use mathlib.Core.Bool.{true, false, ◌&&◌, and-eq-true_iff}
use mathlib.Core.List.{List, [], ◌++◌, append_assoc}
use mathlib.Core.Logic.{◌⊎◌, ⊎_elim}
use mathlib.Core.Path.{◌≡◌, refl, sym, ap, ◌∙◌}
use borrow.Author.Tests.{le-leb, lt-leb, leb-true}
use lib.Dec.{leb}
use lib.ListN.{length, take, drop, length-append, length-take, length-drop, take-append-drop}
use lib.Seq.{drop-append-le, length-take-le}
use Rattle.frame.specs.Frame.{room}
use Rattle.verdict.specs.declared.Verdict.{Verdict}
use Rattle.verdict.specs.Refusals.{STATE, ROOM}
use Rattle.verdict.specs.Orders.{in_order, refusal, good, is_good}
use Rattle.verdict.proofs.Order.{passed, failed}
use Rattle.reading.specs.Events.{Step}
use Rattle.octets.specs.Searches.{all_zero}
use Rattle.reading.specs.Calls.{State, fresh, held_bytes, sound, call_tests, rest_of, answer_by, refused_call, called}
use Rattle.reading.proofs.Found.{Asked, Gave}
use Rattle.reading.proofs.Pads.{pad-long, pad-front, pad-behind}

-- a row of the room's length whose state keeps the rules
pub record Good (M : ℕ) (st : State) : Type 0 where
  pub long : length st.hold ≡ room M
  pub rules : sound M st ≡ true

-- the three rules of a state
pub rules-are : (M : ℕ) (st : State) → sound M st ≡ true → (st.held ≤ room M) × (st.skipped ≤ 65534) × (all_zero (drop st.held st.hold) ≡ true)
unfolding sound
rules-are M st s =
    let a = (and-eq-true_iff (leb st.held (room M) && leb st.skipped 65534) (all_zero (drop st.held st.hold))).0 s in
    let b = (and-eq-true_iff (leb st.held (room M)) (leb st.skipped 65534)).0 a.0 in
    (leb-true st.held (room M) b.0, leb-true st.skipped 65534 b.1, a.1)

pub are-rules : (M : ℕ) (st : State) → st.held ≤ room M → st.skipped ≤ 65534 → all_zero (drop st.held st.hold) ≡ true → sound M st ≡ true
unfolding sound
are-rules M st h s z = simp (le-leb st.held (room M) h, le-leb st.skipped 65534 s, z)

-- the refusals of a call
module _ (M : ℕ) (st : State) (piece out : List ℕ) where
  pub call-refused : (v : Verdict) → in_order (call_tests M st out) good ≡ v → is_good v ≡ false
      → called M st piece out ≡ refused_call v.number st out
  unfolding called
  call-refused v e b = rw e (cc b)

  pub call-state : sound M st ≡ false → called M st piece out ≡ refused_call STATE st out
  call-state s = call-refused (refusal STATE 0) (failed _ _ good s) refl

  pub call-room : sound M st ≡ true → length out < room M → called M st piece out ≡ refused_call ROOM st out
  call-room s h = call-refused (refusal ROOM 0) (passed _ _ good s ∙ failed _ _ good (lt-leb (room M) (length out) h)) refl

-- held bytes are as many as the state says
pub held-long : (M : ℕ) (st : State) → Good M st → length (held_bytes st) ≡ st.held
held-long M st g = length-take-le st.held st.hold (omega (arith, g.long, rules-are M st g.rules))

-- of what was found first in n held bytes and a piece: the hold has room for what is left
module _ (M s : ℕ) (h piece : List ℕ) (f : Step) (few : length h ≤ room M) (which : Asked M s (h ++ piece) f ⊎ Gave M s (h ++ piece) f) where
  abbrev pub received : List ℕ
  received = h ++ take (f.looked - length h) piece

  received-long : length received ≡ length h + min (f.looked - length h) (length piece)
  received-long = length-append h (take (f.looked - length h) piece) ∙ ap (λ (n : ℕ). length h + n) (length-take (f.looked - length h) piece)

  pub passes-received : f.next ≤ length received
  passes-received =
      ⊎_elim
      (λ (a : Asked M s (h ++ piece) f). omega (arith, received-long, a.all, a.stays, a.inside, length-append h piece))
      (λ (g : Gave M s (h ++ piece) f). omega (arith, received-long, g.seen, g.there, length-append h piece))
      which

  pub rest-fits : length (rest_of f h piece) ≤ room M
  rest-fits =
      ⊎_elim
      (λ (a : Asked M s (h ++ piece) f). omega (arith, received-long, length-drop f.next received, a.all, a.stays, a.fits, length-drop f.at (h ++ piece), length-append h piece))
      (λ (g : Gave M s (h ++ piece) f). omega (arith, received-long, length-drop f.next received, g.seen, g.there, g.fits, length-append h piece))
      which

  -- the stream goes on from the next position
  pub goes_on : rest_of f h piece ++ drop (f.looked - length h) piece ≡ drop f.next (h ++ piece)
  goes_on =
      let t = f.looked - length h in
      sym (drop-append-le f.next (h ++ take t piece) (drop t piece) passes-received)
      ∙ ap (drop f.next) (append_assoc h (take t piece) (drop t piece) ∙ ap (λ (q : List ℕ). h ++ q) (take-append-drop t piece))

  count_fits : f.count ≤ 65534
  count_fits =
      ⊎_elim
      (λ (a : Asked M s (h ++ piece) f). omega (arith, a.low))
      (λ (g : Gave M s (h ++ piece) f). omega (arith, g.restarts))
      which

  -- the new state keeps the rules
  pub kept_by : (out : List ℕ) → Good M (answer_by M f h piece out).state
  unfolding answer_by
  kept_by out =
      record {
        long = pad-long (room M) (rest_of f h piece) rest-fits;
        rules = are-rules M _ rest-fits count_fits (pad-behind (room M) (rest_of f h piece));
      }

  -- and holds what follows the next position
  pub held_by : (out : List ℕ) → held_bytes (answer_by M f h piece out).state ≡ rest_of f h piece
  unfolding answer_by
  held_by out = pad-front (room M) (rest_of f h piece)

pub fresh-good : (M : ℕ) → Good M (fresh M)
fresh-good M = record { long = pad-long (room M) [] (omega arith); rules = are-rules M (fresh M) (omega arith) (omega arith) (pad-behind (room M) []) }
