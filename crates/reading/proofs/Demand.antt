-- Demand 3: a stream cut into pieces anywhere, each offered until more is asked for, is heard as the reading of the uncut stream, and
-- leaves its state; offering ends. Assumes nothing.
use Prim.Native.Nat.{ℕ, zero, suc, ◌+◌, ◌-◌, ◌≤◌, ◌<◌}
use native.Mathlib.Omega.{arith}
use mathlib.Core.Bool.{Bool, true, false, true≢false, false≢true}
use mathlib.Core.List.{List, [], ◌∷◌, ◌++◌, append_assoc, append-nil}
use mathlib.Core.Logic.{◌⊎◌, ⊎_elim}
use mathlib.Core.Path.{◌≡◌, refl, sym, ap, subst, ◌∙◌}
use borrow.Author.Tests.{le-leb, leb-true, leb-false}
use lib.Dec.{leb}
use lib.ListN.{length, take, drop, length-append, length-drop}
use lib.Seq.{drop-length, take-append-add, drop-append-le}
use Rattle.frame.specs.Frame.{room}
use Rattle.verdict.specs.declared.Verdict.{Verdict}
use Rattle.verdict.specs.Orders.{in_order, good}
use Rattle.verdict.proofs.Order.{all-passed}
use Rattle.reading.specs.Events.Event.{More, Refused}
use Rattle.reading.specs.Events.Standing.{Wait}
use Rattle.reading.specs.Events.{Step}
use Rattle.reading.specs.Values.{asks, packet_of}
use Rattle.reading.specs.Standing.{stands}
use Rattle.reading.specs.Finding.{first, Heard, Reading, after, read_on, reading}
use Rattle.reading.specs.Calls.{State, Answer, fresh, held_bytes, pad_to, sound, call_tests, answer_by, answered, judged_call, refused_call, called}
use Rattle.reading.specs.Offers.{Roomy, heard_in, Offered, Streamed, joined, state_of, counted_all, OfferEnds, StreamEnds, Reached}
use Rattle.reading.specs.Offers.Reached.{begun, further}
use Rattle.reading.specs.Offers.Offered.{enough, again}
use Rattle.reading.specs.Offers.Streamed.{none, next}
use Rattle.reading.proofs.Worths.{worth, packet-kept, packet-copied}
use Rattle.reading.proofs.Stands.{nothing-waits}
use Rattle.reading.proofs.Found.{Asked, Gave, either, first-early, heard_at, hearing, reading-first}
use Rattle.reading.proofs.Events.{refuses, first_taken}
use Rattle.reading.proofs.Pads.{pad-is}
use Rattle.reading.proofs.Call.{Good, held-long, rules-are, goes_on, kept_by, held_by, call-room, fresh-good}
use Rattle.reading.proofs.Account.{accounts}

-- a state that keeps the rules and a buffer with room are judged good
judged-good : (M : ℕ) (st : State) (out : List ℕ) → sound M st ≡ true → room M ≤ length out → in_order (call_tests M st out) good ≡ good
judged-good M st out s h = all-passed (call_tests M st out) good (s, (le-leb (room M) (length out) h, tt))

-- so the call is not refused
pub not-refused : (M : ℕ) (st : State) (piece out : List ℕ) → Good M st → room M ≤ length out → (n : ℕ) → (called M st piece out).event ≡ Refused n → ⊥
unfolding called answer_by refuses
not-refused M st piece out g h n e =
    let same : refuses (first M st.skipped (held_bytes st ++ piece)).event ≡ refuses (called M st piece out).event =
    rw (judged-good M st out g.rules h, called) refl in
    false≢true (sym (first_taken M st.skipped (held_bytes st ++ piece)) ∙ same ∙ ap refuses e)

-- but answered
pub call-good : (M : ℕ) (st : State) (piece out : List ℕ) → sound M st ≡ true → room M ≤ length out → called M st piece out ≡ answered M st piece out
unfolding called
call-good M st piece out s h =
    ap (λ (v : Verdict). judged_call v (answered M st piece out) (λ n. refused_call n st out)) (judged-good M st out s h)

-- a good state and a buffer with room
module _ (M : ℕ) (st : State) (piece out : List ℕ) (g : Good M st) (room-there : room M ≤ length out) where
  -- what is found first in the held bytes and the piece
  abbrev pub finds : Step
  finds = first M st.skipped (held_bytes st ++ piece)

  pub finds-either : Asked M st.skipped (held_bytes st ++ piece) (first M st.skipped (held_bytes st ++ piece))
      ⊎ Gave M st.skipped (held_bytes st ++ piece) (first M st.skipped (held_bytes st ++ piece))
  finds-either = either M st.skipped (held_bytes st ++ piece) (omega (arith, rules-are M st g.rules))

  pub few-held : length (held_bytes st) ≤ room M
  few-held = omega (arith, held-long M st g, rules-are M st g.rules)

  pub answer-is : called M st piece out ≡ answered M st piece out
  answer-is = call-good M st piece out g.rules room-there

  -- asking for more means that the whole piece was taken
  pub more-all : asks (called M st piece out).event ≡ true → (called M st piece out).taken ≡ length piece
  unfolding answer_by
  more-all a =
      ⊎_elim
      (λ (q : Asked M st.skipped (held_bytes st ++ piece) finds).
      ap (λ (r : Answer). r.taken) answer-is
      ∙ omega (arith, q.all, length-append (held_bytes st) piece))
      (λ (q : Gave M st.skipped (held_bytes st ++ piece) finds).
      absurd (false≢true (sym q.gives ∙ sym (ap (λ (r : Answer). asks r.event) answer-is) ∙ a)))
      finds-either

  -- no byte is taken beyond the one that decides: on fewer bytes of the piece more is asked for
  pub none-too-many : asks (called M st piece out).event ≡ false → (n : ℕ) → n < (called M st piece out).taken
      → (called M st (take n piece) out).event ≡ More
  unfolding answer_by
  none-too-many a n k =
      let gave : asks finds.event ≡ false = sym (ap (λ (r : Answer). asks r.event) answer-is) ∙ a in
      let fewer : length (held_bytes st) + n < finds.looked = omega (arith, ap (λ (r : Answer). r.taken) answer-is) in
      ap (λ (r : Answer). r.event) (call-good M st (take n piece) out g.rules room-there)
      ∙ ap (λ (xs : List ℕ). (first M st.skipped xs).event) (sym (take-append-add (held_bytes st) piece n))
      ∙ first-early M st.skipped (length (held_bytes st) + n) (held_bytes st ++ piece) (omega (arith, rules-are M st g.rules)) gave fewer

  -- the stream goes on from the new state and what was not taken
  pub call-goes-on : (more : List ℕ) → drop finds.next ((held_bytes st ++ piece) ++ more)
      ≡ (held_bytes (called M st piece out).state ++ drop (called M st piece out).taken piece) ++ more
  unfolding answer_by
  call-goes-on more =
      let here = held_bytes st ++ piece in
      let inside : finds.next ≤ length here =
      ⊎_elim (λ (q : Asked M st.skipped here finds). omega (arith, q.stays, q.inside)) (λ (q : Gave M st.skipped here finds). omega (arith, q.seen, q.there)) finds-either in
      drop-append-le finds.next here more inside
      ∙ ap (λ (l : List ℕ). l ++ more)
      (sym (goes_on M st.skipped (held_bytes st) piece finds few-held finds-either)
      ∙ ap (λ (l : List ℕ). l ++ drop (finds.looked - length (held_bytes st)) piece)
      (sym (held_by M st.skipped (held_bytes st) piece finds few-held finds-either out))
      ∙ ap (λ (r : Answer). held_bytes r.state ++ drop r.taken piece) (sym answer-is))

  -- what is heard is what was found, its packet whole in the buffer
  pub call-heard : asks (called M st piece out).event ≡ false → (more : List ℕ) → heard_at finds ((held_bytes st ++ piece) ++ more) ≡ heard_in (called M st piece out)
  unfolding answer_by asks
  call-heard a more =
      let here = held_bytes st ++ piece in
      let gave : asks finds.event ≡ false = sym (ap (λ (r : Answer). asks r.event) answer-is) ∙ a in
      let whole : (finds.at ≤ length here) × (worth finds.event ≤ length (drop finds.at here)) =
      ⊎_elim
      (λ (q : Asked M st.skipped here finds). absurd (true≢false (ap asks (sym q.event) ∙ gave)))
      (λ (q : Gave M st.skipped here finds). (omega (arith, q.stood, q.there), omega (arith, q.stood, q.there, length-drop finds.at here)))
      finds-either in
      let p = packet_of finds.event (drop finds.at here) in
      ap (λ (b : List ℕ). record { event = finds.event; skipped = finds.carried; packet = b })
      (ap (packet_of finds.event) (drop-append-le finds.at here more whole.0)
      ∙ packet-kept finds.event (drop finds.at here) more whole.1
      ∙ sym (packet-copied finds.event (drop finds.at here) (drop (length p) out) whole.1))
      ∙ ap heard_in (sym answer-is)

-- every state that a call leaves keeps the rules, refused calls too
pub call-keeps : (M : ℕ) (st : State) (piece out : List ℕ) → Good M st → Good M (called M st piece out).state
call-keeps M st piece out g = by-test (leb (room M) (length out)) refl
  where
    by-test : (t : Bool) → leb (room M) (length out) ≡ t → Good M (called M st piece out).state
    by-test true e =
        let r : room M ≤ length out = leb-true (room M) (length out) e in
        subst (λ (a : Answer). Good M a.state) (sym (answer-is M st piece out g r))
        (kept_by M st.skipped (held_bytes st) piece _ (few-held M st piece out g r) (finds-either M st piece out g r) out)
    by-test false e =
        subst (λ (a : Answer). Good M a.state) (sym (call-room M st piece out g.rules (leb-false (room M) (length out) e))) g

-- what was heard before a reading
abbrev afters : List Heard → Reading → Reading
afters hs r = record { heard = hs ++ r.heard; held = r.held; skipped = r.skipped }

-- what the reading waits for more with, it holds
idle : (M s : ℕ) (xs : List ℕ) → stands M xs ≡ Wait → reading M s 0 xs ≡ record { heard = []; held = xs; skipped = s }
unfolding reading read_on
idle M s [] w = refl
idle M s (x ∷ xs) w = simp w

-- one call: the reading from the state and the piece on, whatever follows, is what the call gave and the reading from there on
module _ (M : ℕ) (st : State) (piece out : List ℕ) (g : Good M st) (r : room M ≤ length out) where
  goes : (more : List ℕ) → reading M st.skipped 0 ((held_bytes st ++ piece) ++ more)
      ≡ hearing (finds M st piece out g r) ((held_bytes st ++ piece) ++ more)
      (reading M (called M st piece out).state.skipped 0 ((held_bytes (called M st piece out).state ++ drop (called M st piece out).taken piece) ++ more))
  unfolding answer_by
  goes more =
      reading-first M st.skipped (held_bytes st ++ piece) more
      ∙ ap (λ (l : List ℕ). hearing (finds M st piece out g r) ((held_bytes st ++ piece) ++ more) (reading M (finds M st piece out g r).count 0 l)) (call-goes-on M st piece out g r more)
      ∙ ap (λ (a : Answer). hearing (finds M st piece out g r) ((held_bytes st ++ piece) ++ more) (reading M a.state.skipped 0 (left ++ more)))
      (sym (answer-is M st piece out g r))
    where
      left : List ℕ
      left = held_bytes (called M st piece out).state ++ drop (called M st piece out).taken piece

  event-same : asks (called M st piece out).event ≡ asks (finds M st piece out g r).event
  unfolding answer_by
  event-same = ap (λ (a : Answer). asks a.event) (answer-is M st piece out g r)

  -- it asked for more: all was taken
  asked-goes : asks (called M st piece out).event ≡ true → (more : List ℕ)
      → reading M st.skipped 0 ((held_bytes st ++ piece) ++ more) ≡ reading M (called M st piece out).state.skipped 0 (held_bytes (called M st piece out).state ++ more)
  asked-goes a more =
      let none_left : drop (called M st piece out).taken piece ≡ [] =
      ap (λ (n : ℕ). drop n piece) (more-all M st piece out g r a) ∙ drop-length piece in
      goes more
      ∙ simp (sym event-same ∙ a, none_left, append-nil (held_bytes (called M st piece out).state))

  -- and what is left waits
  asked-waits : asks (called M st piece out).event ≡ true → stands M (held_bytes (called M st piece out).state) ≡ Wait
  unfolding asks
  asked-waits a =
      let none_left : drop (called M st piece out).taken piece ≡ [] =
      ap (λ (n : ℕ). drop n piece) (more-all M st piece out g r a) ∙ drop-length piece in
      let rest : held_bytes (called M st piece out).state ≡ drop (finds M st piece out g r).next (held_bytes st ++ piece) =
      sym (append-nil (held_bytes (called M st piece out).state))
      ∙ sym (append-nil (held_bytes (called M st piece out).state ++ []))
      ∙ ap (λ (l : List ℕ). (held_bytes (called M st piece out).state ++ l) ++ []) (sym none_left)
      ∙ sym (call-goes-on M st piece out g r [])
      ∙ ap (drop (finds M st piece out g r).next) (append-nil (held_bytes st ++ piece)) in
      ⊎_elim
      (λ (q : Asked M st.skipped (held_bytes st ++ piece) (finds M st piece out g r)).
      ap (stands M) (rest ∙ ap (λ (n : ℕ). drop n (held_bytes st ++ piece)) q.stays) ∙ q.waits)
      (λ (q : Gave M st.skipped (held_bytes st ++ piece) (finds M st piece out g r)).
      absurd (false≢true (sym q.gives ∙ sym event-same ∙ a)))
      (finds-either M st piece out g r)

  -- it gave an event: that is what is heard
  gave-goes : asks (called M st piece out).event ≡ false → (more : List ℕ)
      → reading M st.skipped 0 ((held_bytes st ++ piece) ++ more)
      ≡ after (heard_in (called M st piece out))
      (reading M (called M st piece out).state.skipped 0 ((held_bytes (called M st piece out).state ++ drop (called M st piece out).taken piece) ++ more))
  gave-goes a more =
      goes more
      ∙ simp (sym event-same ∙ a)
      (ap (λ (h : Heard). after h (reading M (called M st piece out).state.skipped 0 ((held_bytes (called M st piece out).state ++ drop (called M st piece out).taken piece) ++ more)))
      (call-heard M st piece out g r a more))

  -- and fewer bytes are left
  gave-falls : asks (called M st piece out).event ≡ false
      → length (held_bytes (called M st piece out).state) + length (drop (called M st piece out).taken piece) < length (held_bytes st) + length piece
  unfolding asks
  gave-falls a =
      let left : length (drop (finds M st piece out g r).next (held_bytes st ++ piece)) ≡ length (held_bytes (called M st piece out).state) + length (drop (called M st piece out).taken piece) =
      ap length
      (ap (drop (finds M st piece out g r).next) (sym (append-nil (held_bytes st ++ piece)))
      ∙ call-goes-on M st piece out g r []
      ∙ append-nil (held_bytes (called M st piece out).state ++ drop (called M st piece out).taken piece))
      ∙ length-append (held_bytes (called M st piece out).state) (drop (called M st piece out).taken piece) in
      ⊎_elim
      (λ (q : Asked M st.skipped (held_bytes st ++ piece) (finds M st piece out g r)).
      absurd (true≢false (ap asks (sym q.event) ∙ sym event-same ∙ a)))
      (λ (q : Gave M st.skipped (held_bytes st ++ piece) (finds M st piece out g r)).
      omega (arith, left, q.moves, q.seen, q.there, length-drop (finds M st piece out g r).next (held_bytes st ++ piece), length-append (held_bytes st) piece))
      (finds-either M st piece out g r)

-- a call that goes on: it is not refused, leaves a state that keeps the rules, and gives an event only by a byte fewer held and offered
pub record GoesOn (M : ℕ) (st : State) (piece : List ℕ) (a : Answer) : Type 0 where
  pub answered : (n : ℕ) → a.event ≡ Refused n → ⊥
  pub keeps : Good M a.state
  pub falls : asks a.event ≡ false → a.state.held + length (drop a.taken piece) < st.held + length piece

-- from a state that keeps the rules, with a buffer that has room, each call does
pub call-on : (M : ℕ) (st : State) (piece out : List ℕ) → Good M st → room M ≤ length out → GoesOn M st piece (called M st piece out)
call-on M st piece out g r =
    let kept = call-keeps M st piece out g in
    record {
      answered = not-refused M st piece out g r;
      keeps = kept;
      falls = λ a. omega (arith, gave-falls M st piece out g r a, held-long M st g, held-long M (called M st piece out).state kept);
    }

-- a state between pieces: it keeps the rules, and waits for more
pub record Ready (M : ℕ) (st : State) : Type 0 where
  pub good : Good M st
  pub waits : stands M (held_bytes st) ≡ Wait

-- one piece: what is heard and the state then are the reading's, whatever follows
pub record Agrees (M : ℕ) (st : State) (bytes : List ℕ) (hs : List Heard) (end : State) : Type 0 where
  pub heard : (more : List ℕ) → reading M st.skipped 0 ((held_bytes st ++ bytes) ++ more) ≡ afters hs (reading M end.skipped 0 (held_bytes end ++ more))
  pub ready : Ready M end

offered-agrees : (M : ℕ) (lent : ℕ → List ℕ) → Roomy M lent → (i : ℕ) (st : State) (piece : List ℕ) (hs : List Heard) (end : State) (j : ℕ)
    → Good M st → Offered M lent i st piece hs end j → Agrees M st piece hs end
offered-agrees M lent r i st piece hs end j g (enough _ _ _ a) =
    record {
      heard = asked-goes M st piece (lent i) g (r i) a;
      ready = record { good = call-keeps M st piece (lent i) g; waits = asked-waits M st piece (lent i) g (r i) a };
    }
offered-agrees M lent r i st piece hs end j g (again _ _ _ ks _ _ a o) =
    let rest = offered-agrees M lent r (suc i) _ _ ks end j (call-keeps M st piece (lent i) g) o in
    record {
      heard = λ more. gave-goes M st piece (lent i) g (r i) a more ∙ ap (after (heard_in (called M st piece (lent i)))) (rest.heard more);
      ready = rest.ready;
    }

-- the pieces one after the other
streamed-agrees : (M : ℕ) (lent : ℕ → List ℕ) → Roomy M lent → (i : ℕ) (st : State) (pieces : List (List ℕ)) (hs : List Heard) (end : State) (j : ℕ)
    → Ready M st → Streamed M lent i st pieces hs end j → Agrees M st (joined pieces) hs end
unfolding joined
streamed-agrees M lent r i st pieces hs end j g (none _ _) =
    record { heard = λ more. ap (λ (l : List ℕ). reading M st.skipped 0 (l ++ more)) (append-nil (held_bytes st)); ready = g }
streamed-agrees M lent r i st pieces hs end j g (next _ _ piece rest os ks mid _ k _ o t) =
    let one = offered-agrees M lent r i st piece os mid k g.good o in
    let two = streamed-agrees M lent r k mid rest ks end j one.ready t in
    record {
      heard = λ more.
          apart piece rest more
          ∙ one.heard (joined rest ++ more)
          ∙ ap (afters os) (ap (reading M mid.skipped 0) (sym (append_assoc (held_bytes mid) (joined rest) more)) ∙ two.heard more)
          ∙ together os ks (reading M end.skipped 0 (held_bytes end ++ more));
      ready = two.ready;
    }
  where
    apart : (piece : List ℕ) (rest : List (List ℕ)) (more : List ℕ) → reading M st.skipped 0 ((held_bytes st ++ (piece ++ joined rest)) ++ more)
        ≡ reading M st.skipped 0 ((held_bytes st ++ piece) ++ (joined rest ++ more))
    apart piece rest more = ap (reading M st.skipped 0) (simp append_assoc)

    together : (os ks : List Heard) (t : Reading) → afters os (afters ks t) ≡ afters (os ++ ks) t
    together os ks t = ap (λ (l : List Heard). record { heard = l; held = t.held; skipped = t.skipped }) (sym (append_assoc os ks t.heard))

-- a state that keeps the rules is its held bytes, with zero behind them
whole-state : (M : ℕ) (st : State) → Good M st → st ≡ state_of M (record { heard = []; held = held_bytes st; skipped = st.skipped })
whole-state M st g =
    let rules = rules-are M st g.rules in
    let hold : st.hold ≡ pad_to (room M) (held_bytes st) = pad-is (room M) st.held st.hold g.long rules.0 rules.2 in
    let held : st.held ≡ length (held_bytes st) = sym (held-long M st g) in
    λ i. record { hold = hold i; held = held i; skipped = st.skipped }

fresh-ready : (M : ℕ) → Ready M (fresh M)
fresh-ready M = record { good = fresh-good M; waits = nothing-waits M }

offered-once : (M : ℕ) (lent : ℕ → List ℕ) (i : ℕ) (st : State) (piece : List ℕ) → asks (called M st piece (lent i)).event ≡ true → OfferEnds M lent i st piece
offered-once M lent i st piece a =
    record { heard = []; end = (called M st piece (lent i)).state; calls = suc i; offered = enough i st piece a; few = omega arith }

-- offering a piece ends
pub offer-ends : (M : ℕ) (lent : ℕ → List ℕ) → Roomy M lent → (n i : ℕ) (st : State) (piece : List ℕ) → Good M st
    → length (held_bytes st) + length piece ≤ n → OfferEnds M lent i st piece
offer-ends M lent r zero i st piece g h = by-test (asks (called M st piece (lent i)).event) refl
  where
    by-test : (t : Bool) → asks (called M st piece (lent i)).event ≡ t → OfferEnds M lent i st piece
    by-test true a = offered-once M lent i st piece a
    by-test false a = absurd (omega (arith, gave-falls M st piece (lent i) g (r i) a))
offer-ends M lent r (suc n) i st piece g h = by-test (asks (called M st piece (lent i)).event) refl (offer-ends M lent r n (suc i))
  where
    by-test : (t : Bool) → asks (called M st piece (lent i)).event ≡ t
        → ((mid : State) (left : List ℕ) → Good M mid → length (held_bytes mid) + length left ≤ n → OfferEnds M lent (suc i) mid left)
        → OfferEnds M lent i st piece
    by-test true a ih = offered-once M lent i st piece a
    by-test false a ih =
        let less = gave-falls M st piece (lent i) g (r i) a in
        let rest = ih (called M st piece (lent i)).state (drop (called M st piece (lent i)).taken piece) (call-keeps M st piece (lent i) g) (omega (arith, less)) in
        record { heard = _; end = rest.end; calls = rest.calls; offered = again i st piece rest.heard rest.end rest.calls a rest.offered; few = omega (arith, rest.few, less) }

-- offering a stream ends
pub stream-ends : (M : ℕ) (lent : ℕ → List ℕ) → Roomy M lent → (i : ℕ) (st : State) (pieces : List (List ℕ)) → Good M st → StreamEnds M lent i st pieces
stream-ends M lent r i st [] g = record { heard = []; end = st; calls = i; streamed = none i st }
stream-ends M lent r i st (piece ∷ pieces) g =
    let one = offer-ends M lent r (length (held_bytes st) + length piece) i st piece g (omega arith) in
    let kept = offered-agrees M lent r i st piece one.heard one.end one.calls g one.offered in
    let two = stream-ends M lent r one.calls one.end pieces kept.ready.good in
    record { heard = _; end = two.end; calls = two.calls; streamed = next i st piece pieces one.heard two.heard one.end two.end one.calls two.calls one.offered two.streamed }

-- DEMAND 3. Whatever the pieces and the buffers: what is heard and the state at the end are those of the reading of the uncut stream
pub heard-as-read : (M : ℕ) (lent : ℕ → List ℕ) → Roomy M lent → (pieces : List (List ℕ)) (hs : List Heard) (end : State) (calls : ℕ)
    → Streamed M lent 0 (fresh M) pieces hs end calls
    → (hs ≡ (reading M 0 0 (joined pieces)).heard) × (end ≡ state_of M (reading M 0 0 (joined pieces)))
heard-as-read M lent r pieces hs end calls t =
    let a = streamed-agrees M lent r 0 (fresh M) pieces hs end calls (fresh-ready M) t in
    let whole : reading M 0 0 (joined pieces) ≡ record { heard = hs; held = held_bytes end; skipped = end.skipped } =
    ap (reading M 0 0) (sym (append-nil (joined pieces)))
    ∙ a.heard []
    ∙ ap (afters hs) (ap (reading M end.skipped 0) (append-nil (held_bytes end)) ∙ idle M end.skipped (held_bytes end) a.ready.waits)
    ∙ ap (λ (l : List Heard). record { heard = l; held = held_bytes end; skipped = end.skipped }) (append-nil hs) in
    (ap (λ (q : Reading). q.heard) (sym whole), whole-state M end a.ready.good ∙ ap (state_of M) (sym whole))

-- each byte received is accounted for once
pub accounted-for : (M : ℕ) (lent : ℕ → List ℕ) → Roomy M lent → (pieces : List (List ℕ)) (hs : List Heard) (end : State) (calls : ℕ)
    → Streamed M lent 0 (fresh M) pieces hs end calls → counted_all hs + end.skipped + end.held ≡ length (joined pieces)
accounted-for M lent r pieces hs end calls t =
    let a = heard-as-read M lent r pieces hs end calls t in
    omega (arith, ap counted_all a.0, ap (λ (st : State). st.skipped) a.1, ap (λ (st : State). st.held) a.1, accounts M 0 0 (joined pieces) (omega arith))

-- every state reached keeps the rules
pub reached-good : (M : ℕ) (st : State) → Reached M st → Good M st
reached-good M st begun = fresh-good M
reached-good M st (further mid piece out r) = call-keeps M mid piece out (reached-good M mid r)

-- two cuttings of one stream are heard alike and leave one state
pub cut-anywhere : (M : ℕ) (lent lent' : ℕ → List ℕ) → Roomy M lent → Roomy M lent' → (pieces pieces' : List (List ℕ)) (hs hs' : List Heard) (end end' : State) (calls calls' : ℕ)
    → joined pieces ≡ joined pieces' → Streamed M lent 0 (fresh M) pieces hs end calls → Streamed M lent' 0 (fresh M) pieces' hs' end' calls'
    → (hs ≡ hs') × (end ≡ end')
cut-anywhere M lent lent' r r' pieces pieces' hs hs' end end' calls calls' e t t' =
    let a = heard-as-read M lent r pieces hs end calls t in
    let b = heard-as-read M lent' r' pieces' hs' end' calls' t' in
    (a.0 ∙ ap (λ (l : List ℕ). (reading M 0 0 l).heard) e ∙ sym b.0, a.1 ∙ ap (λ (l : List ℕ). state_of M (reading M 0 0 l)) e ∙ sym b.1)
