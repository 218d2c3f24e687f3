-- Demand 3 over the exports' contracts: every receiver that meets `trawnosz_receive`'s, from the hold that `trawnosz_fresh` makes. Assumes nothing.
use Prim.Native.Nat.{ℕ, ◌+◌, ◌≤◌, ◌<◌}
use native.Mathlib.Omega.{arith}
use contract.Lifetimes.{Lfts}
use denote.Ref.{Bor, MutBor, at_last}
use mathlib.Core.Bool.{false, cond, ◌||◌}
use mathlib.Core.List.Memᴰ
use mathlib.Core.List.{List, [], ◌∷◌, map, Memᴰ}
use mathlib.Core.Logic.{⊎_elim}
use mathlib.Core.Path.{◌≡◌, refl, sym, ap, subst, ◌∙◌}
use lib.Dec.{eqb}
use lib.ListN.{length, take, drop}
use Rattle.frame.specs.Frame.{room, frame_tests}
use Rattle.reading.specs.Values.{MORE, PACKET, told, start_byte, packet_of}
use Rattle.reading.specs.Finding.{Heard, reading}
use Rattle.reading.specs.Calls.{State, Answer, called}
use Rattle.reading.specs.Offers.{heard_in, joined, counted_all}
use Rattle.reading.specs.Events.{Event}
use Rattle.reading.specs.Events.Event.{More, Noise, Length, End, Sum, Packet, Refused}
use Rattle.reading.proofs.Account.{accounts}
use Rattle.reading.proofs.Call.{Good}
use Rattle.reading.proofs.Demand.{GoesOn, call-on}
use Rattle.reading.proofs.Events.{number-asks, number-taken}
use Rattle.reading.proofs.Frames.{heard-taken, number-framed}
use Rattle.reading.proofs.Runs.{Shown, Calls, CutAnywhere, shown, any-receiver}
use Rattle.receiver.specs.Receivers.{lent, served_of}
use Rattle.receiver.proofs.Demands.{Lending, Holding, Serves, serving}
use Rattle.verdict.specs.Orders.{in_order, good}
use Rattle.verdict.specs.Refusals.{STATE, ROOM, LENGTH, END, SUM}
use Rattle.trawnosz.specs.declared.ServedC.{ServedC}
use Rattle.trawnosz.specs.Calls.{served_to}
use Rattle.trawnosz.proofs.trawnosz_fresh.Reads as made
use Rattle.trawnosz.proofs.trawnosz_receive.Reads as receive

-- what is heard over C: the event's number, the packet's length, the count that it carries, and the packet at the front of the buffer
pub record HeardC : Type 0 where
  pub event : ℕ
  pub length : ℕ
  pub skipped : ℕ
  pub packet : List ℕ

abbrev pub heard_to : Heard → HeardC
heard_to h = record { event = (told h.event).number; length = (told h.event).length; skipped = h.skipped; packet = h.packet }

-- what a C program sees of an answer: more is asked for by its number, and the packet is so many bytes of the buffer
abbrev pub shown_c : ServedC → List ℕ → List ℕ → Shown HeardC
shown_c r hold out =
    record {
      asking = eqb r.event MORE;
      heard = record { event = r.event; length = r.length; skipped = r.skipped; packet = take r.length out };
      taken = r.taken;
      state = lent hold r.held r.count;
    }

-- what is seen of a receiver's call, as it is lent to
abbrev pub seen_of : (box : Serves receive.Post) (in-hold : Holding) (by : Lending 3) (i : ℕ) (st : State) (piece : List ℕ) → Good 1024 st → Shown HeardC
seen_of box in-hold by i st piece g =
    let a = serving receive.Post box in-hold by i st piece g in
    shown_c a.answer a.kept.now a.left.now

abbrev pub calls_c : Serves receive.Post → Holding → Lending 3 → Calls HeardC
calls_c box in-hold by i st piece s = (g : Good 1024 st) × (s ≡ seen_of box in-hold by i st piece g)

-- what is seen of the definition's answer that is no refusal
seen : (st : State) (piece : List ℕ) (a : Answer) → GoesOn 1024 st piece a
    → shown_c (served_to (served_of a)) a.state.hold a.out ≡ shown heard_to a
unfolding packet_of
seen st piece a g = λ n. record {
  asking = number-asks a.event g.answered n;
  heard = heard_to (heard_in a);
  taken = a.taken;
  state = a.state;
}

-- a call that goes on: it is not refused, leaves a state that keeps the rules, and gives an event only by a byte fewer held and offered
pub record GoesOnC (held : ℕ) (piece : List ℕ) (r : ServedC) (hold : List ℕ) : Type 0 where
  pub answered : (r.event ≡ STATE → ⊥) × (r.event ≡ ROOM → ⊥)
  pub keeps : Good 1024 (lent hold r.held r.count)
  pub falls : eqb r.event MORE ≡ false → r.held + length (drop r.taken piece) < held + length piece

-- an answer that meets the contract, from a state that keeps the rules, with a buffer of 1,054 bytes or more
module _ (κs : Lfts 3) (hold h : MutBor (List ℕ)) (held count : ℕ) (piece : Bor (List ℕ)) (out o : MutBor (List ℕ)) (r : ServedC) (g : Good 1024 (lent hold.now held count))
    (roomy : 1054 ≤ length out.now) (p : receive.Post κs (hold, (held, (count, (piece, (out, tt))))) r (h, (held, (count, (piece, (o, tt)))))) where
  answer-on : GoesOn 1024 (lent hold.now held count) piece.now (called 1024 (lent hold.now held count) piece.now out.now)
  unfolding room
  answer-on = call-on 1024 (lent hold.now held count) piece.now out.now g roomy

  -- shows what the definition's does
  shown-is : shown_c r h.now o.now ≡ shown heard_to (called 1024 (lent hold.now held count) piece.now out.now)
  shown-is = (λ n. shown_c (p.0 n) (p.1.0 n) (p.1.1 n)) ∙ seen (lent hold.now held count) piece.now _ answer-on

  -- and goes on
  pub c-on : GoesOnC held piece.now r h.now
  c-on =
      let a = called 1024 (lent hold.now held count) piece.now out.now in
      let on = answer-on in
      subst (λ (q : ServedC × List ℕ). GoesOnC held piece.now q.0 q.1) (sym (λ n. (p.0 n, p.1.0 n)))
      (record {
        answered = number-taken a.event on.answered;
        keeps = on.keeps;
        falls = λ f. on.falls (sym (number-asks a.event on.answered) ∙ f);
      })

-- DEMAND 3, of every receiver that meets `trawnosz_receive`'s contract, from the hold that `trawnosz_fresh` makes
pub demand-3-c : (box : Serves receive.Post) (in-hold : Holding) (by : Lending 3) (κs : Lfts 1) (row hold : MutBor (List ℕ)) (r : _) → made.Post κs (row, tt) r (hold, tt)
    → (pieces : List (List ℕ))
    → CutAnywhere 1024 (calls_c box in-hold by) (lent hold.now 0 0) pieces (reading 1024 0 0 (joined pieces)) (map heard_to (reading 1024 0 0 (joined pieces)).heard)
unfolding room
demand-3-c box in-hold by κs row hold r e pieces =
    subst
    (λ (q : List ℕ). CutAnywhere 1024 (calls_c box in-hold by) (lent q 0 0) pieces (reading 1024 0 0 (joined pieces)) (map heard_to (reading 1024 0 0 (joined pieces)).heard))
    (sym e)
    (any-receiver 1024 (λ i. (by.out i).now) heard_to (calls_c box in-hold by)
    (record {
      answers = λ i st piece g. (g, sym (right i st piece g));
      right = λ i st piece s g c. c.1 ∙ right i st piece c.0;
    })
    by.roomy pieces)
  where
    right : (i : ℕ) (st : State) (piece : List ℕ) (g : Good 1024 st) → seen_of box in-hold by i st piece g ≡ shown heard_to (called 1024 st piece (by.out i).now)
    right i st piece g =
        let a = serving receive.Post box in-hold by i st piece g in
        shown-is (by.lifetimes i) (in-hold.hold i st.hold) a.kept st.held st.skipped (by.piece i piece) (by.out i) a.left a.answer
        (subst (λ (l : List ℕ). Good 1024 (lent l st.held st.skipped)) (sym (in-hold.is-hold i st.hold)) g) (by.roomy i) a.meets
        ∙ (λ n. shown heard_to (called 1024 (lent (in-hold.is-hold i st.hold n) st.held st.skipped) (by.is-piece i piece n) (by.out i).now))

-- what is heard over C was heard
heard_in_lem : (hs : List Heard) (h : HeardC) → Memᴰ h (map heard_to hs) → (k : Heard) × Memᴰ k hs × (h ≡ heard_to k)
heard_in_lem [] h m = absurd (Memᴰ.not-nil m)
heard_in_lem (k ∷ hs) h m =
    ⊎_elim
    (λ (e : h ≡ heard_to k). (k, Memᴰ.head refl, e))
    (λ (n : Memᴰ h (map heard_to hs)).
    let rest = heard_in_lem hs h n in
    (rest.0, Memᴰ.tail rest.1, rest.2))
    (Memᴰ.cases_cons m)

-- each PACKET that is heard over C has its length and passes the judge's frame tests
pub c-framed : (stream : List ℕ) (h : HeardC) → Memᴰ h (map heard_to (reading 1024 0 0 stream).heard) → h.event ≡ PACKET
    → (length h.packet ≡ h.length) × (in_order (frame_tests 1024 h.packet) good ≡ good)
c-framed stream h m e =
    let k = heard_in_lem (reading 1024 0 0 stream).heard h m in
    subst (λ (q : HeardC). (length q.packet ≡ q.length) × (in_order (frame_tests 1024 q.packet) good ≡ good)) (sym k.2)
    (number-framed 1024 stream k.0 k.1 (sym (ap (λ (q : HeardC). q.event) k.2) ∙ e))

-- the bytes that what is heard accounts for: its count, one for each LENGTH, END and SUM, and the packet
abbrev pub start_of : ℕ → ℕ
start_of n = cond (eqb n LENGTH || eqb n END || eqb n SUM) 1 0

unfoldable pub counted_c : List HeardC → ℕ
counted_c [] = 0
counted_c (h ∷ hs) = h.skipped + start_of h.event + length h.packet + counted_c hs

number-starts : (e : Event) → ((n : ℕ) → e ≡ Refused n → ⊥) → start_of (told e).number ≡ start_byte e
unfolding told start_byte
number-starts More h = refl
number-starts Noise h = refl
number-starts Length h = refl
number-starts End h = refl
number-starts Sum h = refl
number-starts (Packet n) h = refl
number-starts (Refused n) h = absurd (h n refl)

counted_same : (hs : List Heard) → ((h : Heard) → Memᴰ h hs → (n : ℕ) → h.event ≡ Refused n → ⊥) → counted_c (map heard_to hs) ≡ counted_all hs
unfolding counted_c counted_all
counted_same [] k = refl
counted_same (h ∷ hs) k =
    omega (arith, number-starts h.event (k h (Memᴰ.head refl)), counted_same hs (λ g m. k g (Memᴰ.tail m)))

-- each byte of a stream is accounted for once, by what is heard over C, skipped or still held
pub c-counted : (stream : List ℕ)
    → counted_c (map heard_to (reading 1024 0 0 stream).heard) + (reading 1024 0 0 stream).skipped + length (reading 1024 0 0 stream).held ≡ length stream
c-counted stream =
    omega (arith, counted_same (reading 1024 0 0 stream).heard (heard-taken 1024 stream), accounts 1024 0 0 stream (omega arith))

-- the contract can be met: by the definition's answers
pub definition-serves : Serves receive.Post
definition-serves i κs hold held count piece out g =
    let a = called 1024 (lent hold.now held count) piece.now out.now in
    record { answer = served_to (served_of a); kept = at_last hold a.state.hold; left = at_last out a.out; meets = (refl, (refl, refl)) }
