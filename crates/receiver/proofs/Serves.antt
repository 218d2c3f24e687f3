-- A call: refused by its state or its buffer, else what its steps ask, and that together they give the answer. Assumes nothing.
use Prim.Native.Nat.{ℕ, ◌+◌, ◌-◌, ◌≤◌, ◌<◌}
use native.Mathlib.Omega.{arith}
use mathlib.Core.List.{List, ◌++◌}
use mathlib.Core.Logic.{◌⊎◌, ⊎_elim}
use mathlib.Core.Bool.{Bool, true, false, cond, true≢false}
use mathlib.Core.Path.{◌≡◌, refl, sym, ap, subst, ◌∙◌}
use lib.ListN.{length, take, drop, length-append}
use lib.Seq.{length-take-le}
use Rattle.std.specs.Prelude.{Result, Ok, Err}
use Rattle.verdict.specs.declared.Refused.{Refused}
use Rattle.verdict.specs.declared.Refusal.TheVariants.{State as OfState, Room as OfRoom}
use Rattle.verdict.specs.Orders.{in_order, good, is_good, refused_at}
use Rattle.reading.specs.Events.{Event, Step}
use Rattle.reading.specs.Events.Event.{More, Noise, Length, End, Sum, Packet, Refused as Refuses}
use Rattle.reading.specs.Values.{told, packet_of}
use Rattle.frame.specs.Frame.{room}
use Rattle.reading.specs.Finding.{first}
use Rattle.verdict.specs.Refusals.{number_of}
use Rattle.reading.specs.Calls.{State, Answer, pad_to, held_bytes, sound, call_tests, rest_of, copied, answer_by, answered, refused_call, called}
use Rattle.reading.proofs.Events.{refuses, first_taken}
use Rattle.reading.proofs.Worths.{worth}
use Rattle.reading.proofs.Pads.{pad-is}
use Rattle.reading.proofs.Found.{Asked, Gave, either}
use Rattle.reading.proofs.Call.{rules-are, call-state, call-room, rest-fits}
use Rattle.reading.proofs.Demand.{call-good}
use Rattle.receiver.specs.declared.line.Step.{Step as CodedStep}
use Rattle.receiver.specs.declared.Served.{Served as CodedServed}
use Rattle.receiver.specs.Lines.{step_of}
use Rattle.receiver.specs.declared.Received.{Received as CodedReceived}
use Rattle.receiver.specs.Receivers.{Served, lent, receiver_of, received_of, served_of, received_by, served_by}

-- what a test lets through, and what it refuses
abbrev Says : Result (Unit {0}) Refused → Bool → Refused → Type 0
Says (Ok u) t f = t ≡ true
Says (Err e) t f = (t ≡ false) × (e ≡ f)

said : (t : Bool) (f : Refused) → Says (cond t (Ok tt) (Err f)) t f
said true f = refl
said false f = (refl, refl)

module _ {r : Result (Unit {0}) Refused} {t : Bool} (f : Refused) (ensured : r ≡ cond t (Ok tt) (Err f)) where
  pub let_through : {u : Unit {0}} → r ≡ Ok u → t ≡ true
  let_through {u} q = subst (λ (s : Result (Unit {0}) Refused). Says s t f) (sym ensured ∙ q) (said t f)

  pub refused_so : {e : Refused} → r ≡ Err e → (t ≡ false) × (e ≡ f)
  refused_so q = subst (λ (s : Result (Unit {0}) Refused). Says s t f) (sym ensured ∙ q) (said t f)

-- an answer beside the hold and the buffer that a call left
abbrev pub Gives : Answer → ℕ → ℕ → Result CodedServed Refused → List ℕ → List ℕ → Type 0
Gives a held skipped r hold out = (served_by held skipped r ≡ served_of a) × ((hold ≡ a.state.hold) × (out ≡ a.out))

-- a state that keeps its rules
pub record Keeping (M : ℕ) (hold : List ℕ) (held skipped : ℕ) : Type 0 where
  pub long : length hold ≡ room M
  pub keeps : sound M (lent hold held skipped) ≡ true
  pub inside : held ≤ length hold
  pub low : skipped ≤ 65534

pub keeping : (M : ℕ) (hold : List ℕ) (held skipped : ℕ) (t : Bool) → t ≡ sound M (lent hold held skipped) → t ≡ true → length hold ≡ room M
    → Keeping M hold held skipped
keeping M hold held skipped t e f l =
    let good : sound M (lent hold held skipped) ≡ true = sym e ∙ f in
    let rules = rules-are M (lent hold held skipped) good in
    record { long = l; keeps = good; inside = omega (arith, rules.0, l); low = rules.1 }

-- a call that is refused gives the state back as it came, and writes nothing
module _ (M : ℕ) (hold : List ℕ) (held skipped : ℕ) (piece out : List ℕ) {r : Result CodedServed Refused} {e : Refused} (is : r ≡ Err e) where
  gives_back : {k : ℕ} → called M (lent hold held skipped) piece out ≡ refused_call k (lent hold held skipped) out → number_of e.refusal ≡ k
      → Gives (called M (lent hold held skipped) piece out) held skipped r hold out
  gives_back {k} c n = (
    ap (served_by held skipped) is ∙ ap (λ (m : ℕ). served_of (refused_call m (lent hold held skipped) out)) n ∙ ap served_of (sym c),
    (ap (λ (x : Answer). x.state.hold) (sym c), ap (λ (x : Answer). x.out) (sym c)),
  )

  pub state-refused : {t : Bool} → t ≡ sound M (lent hold held skipped) → (t ≡ false) × (e ≡ refused_at OfState 0)
      → Gives (called M (lent hold held skipped) piece out) held skipped r hold out
  state-refused s f =
      gives_back (call-state M (lent hold held skipped) piece out (sym s ∙ f.0)) (ap (λ (q : Refused). number_of q.refusal) f.1)

  pub room-refused : Keeping M hold held skipped → length out < 30 + M → e ≡ refused_at OfRoom 0
      → Gives (called M (lent hold held skipped) piece out) held skipped r hold out
  unfolding room
  room-refused k few f =
      gives_back (call-room M (lent hold held skipped) piece out k.keeps few) (ap (λ (q : Refused). number_of q.refusal) f)

-- a packet is no longer than its event is worth, and more is worth nothing
told-small : (e : Event) → (told e).length ≤ worth e
unfolding told worth
told-small More = omega arith
told-small Noise = omega arith
told-small Length = omega arith
told-small End = omega arith
told-small Sum = omega arith
told-small (Packet n) = omega arith
told-small (Refuses n) = omega arith

more-nothing : worth More ≡ 0
unfolding worth
more-nothing = refl

-- a call that is not refused, and what was found first in the held bytes and the piece
pub record Serving (M : ℕ) (hold : List ℕ) (held skipped : ℕ) (piece out : List ℕ) (f : Step) : Type 0 where
  pub state : Keeping M hold held skipped
  pub roomy : 30 + M ≤ length out
  pub finds : f ≡ first M skipped (take held hold ++ piece)

module _ {M : ℕ} {hold : List ℕ} {held skipped : ℕ} {piece out : List ℕ} (g : CodedStep) (v : Serving M hold held skipped piece out (step_of g)) where
  abbrev f : Step
  f = step_of g

  front_long : length (take held hold) ≡ held
  front_long = length-take-le held hold v.state.inside

  roomy : room M ≤ length out
  unfolding room
  roomy = v.roomy

  which : Asked M skipped (take held hold ++ piece) f ⊎ Gave M skipped (take held hold ++ piece) f
  which =
      subst (λ (s : Step). Asked M skipped (take held hold ++ piece) s ⊎ Gave M skipped (take held hold ++ piece) s) (sym v.finds)
      (either M skipped (take held hold ++ piece) (omega (arith, v.state.low)))

  pub hold-is : hold ≡ pad_to (length hold) (take held hold)
  hold-is =
      let rules = rules-are M (lent hold held skipped) v.state.keeps in
      pad-is (room M) held hold v.state.long rules.0 rules.2 ∙ ap (λ (n : ℕ). pad_to n (take held hold)) (sym v.state.long)

  -- the packet is there, and fits the buffer
  pub packet-there : f.at + (told f.event).length ≤ length (take held hold ++ piece)
  packet-there =
      ⊎_elim
      (λ (q : Asked M skipped (take held hold ++ piece) f). omega (arith, told-small f.event, ap worth q.event, more-nothing, q.inside))
      (λ (q : Gave M skipped (take held hold ++ piece) f). omega (arith, told-small f.event, q.stood, q.there))
      which

  pub packet-fits : (told f.event).length ≤ length out
  packet-fits =
      ⊎_elim
      (λ (q : Asked M skipped (take held hold ++ piece) f). omega (arith, told-small f.event, ap worth q.event, more-nothing))
      (λ (q : Gave M skipped (take held hold ++ piece) f). omega (arith, told-small f.event, q.small, roomy))
      which

  -- as many bytes as are taken are there
  pub taken-there : f.looked - held ≤ length piece
  taken-there =
      ⊎_elim
      (λ (q : Asked M skipped (take held hold ++ piece) f). omega (arith, q.all, length-append (take held hold) piece, front_long))
      (λ (q : Gave M skipped (take held hold ++ piece) f). omega (arith, q.there, length-append (take held hold) piece, front_long))
      which

  -- what is left fits the hold
  module _ {n : ℕ} (e : n ≡ f.looked - held) where
    rest-is : drop f.next (take held hold ++ take n piece) ≡ rest_of f (take held hold) piece
    rest-is =
        let size : n ≡ f.looked - length (take held hold) = omega (arith, front_long) in
        ap (λ (k : ℕ). drop f.next (take held hold ++ take k piece)) size

    pub left-fits : length (drop f.next (take held hold ++ take n piece)) ≤ length hold
    left-fits =
        omega
        (arith, ap length rest-is, rest-fits M skipped (take held hold) piece f (omega (arith, front_long, v.state.inside, v.state.long)) which, v.state.long)

    -- the whole answer
    pub answer : {k : ℕ} {row buffer : List ℕ} → k ≡ length (drop f.next (take held hold ++ take n piece))
        → row ≡ pad_to (length hold) (drop f.next (take held hold ++ take n piece))
        → buffer ≡ copied (packet_of f.event (drop f.at (take held hold ++ piece))) out
        → Gives (called M (lent hold held skipped) piece out) held skipped
        (Ok record { event = g.event; skipped = g.carried; taken = n; held = k; count = g.count }) row buffer
    unfolding answer_by
    answer {k = k} ke re be =
        let h = take held hold in
        let is : called M (lent hold held skipped) piece out ≡ answer_by M f h piece out =
        call-good M (lent hold held skipped) piece out v.state.keeps roomy ∙ ap (λ (s : Step). answer_by M s h piece out) (sym v.finds) in
        let taken : n ≡ f.looked - length h = omega (arith, front_long) in
        let left : k ≡ length (rest_of f h piece) = ke ∙ ap length rest-is in (
          (λ i. record { event = f.event; skipped = f.carried; taken = taken i; held = left i; count = f.count }) ∙ ap served_of (sym is),
          (
            re ∙ ap (λ (m : ℕ). pad_to m (drop f.next (h ++ take n piece))) v.state.long ∙ ap (pad_to (room M)) rest-is ∙ ap (λ (a : Answer). a.state.hold) (sym is),
            be ∙ ap (λ (a : Answer). a.out) (sym is),
          ),
        )

-- a call that answers a refusal leaves the state as it was
pub state-back : (M : ℕ) (st : State) (piece out : List ℕ) (n : ℕ) → (called M st piece out).event ≡ Refuses n → (called M st piece out).state ≡ st
unfolding called answer_by refuses
state-back M st piece out n e = by-test (is_good (in_order (call_tests M st out) good)) e
  where
    by-test : (t : Bool) → (cond t (answered M st piece out) (refused_call (in_order (call_tests M st out) good).number st out)).event ≡ Refuses n
        → (cond t (answered M st piece out) (refused_call (in_order (call_tests M st out) good).number st out)).state ≡ st
    by-test true e = absurd (true≢false (sym (ap refuses e) ∙ first_taken M st.skipped (held_bytes st ++ piece)))
    by-test false e = refl

-- the answer of a call on a lent hold, and by value
pub refused_by-value : (M : ℕ) (st : State) (piece out : List ℕ) {r : Result CodedServed Refused} {s : Result CodedReceived Refused} {e f : Refused}
    → served_by st.held st.skipped r ≡ served_of (called M st piece out) → r ≡ Err e → s ≡ Err f → f ≡ e
    → received_by st s ≡ received_of (called M st piece out)
refused_by-value M st piece out {e = e} is q p same =
    let a = called M st piece out in
    let told : served_by st.held st.skipped (Err e) ≡ served_of a = ap (served_by st.held st.skipped) (sym q) ∙ is in
    let back : a.state ≡ st = state-back M st piece out (number_of e.refusal) (ap (λ (x : Served). x.event) (sym told)) in
    ap (received_by st) (p ∙ ap (λ (x : Refused). Err x) same)
    ∙ (λ i. record { event = (told i).event; skipped = (told i).skipped; taken = (told i).taken; state = receiver_of (sym back i) })
