-- Over the calls' contracts themselves: a contract determines its results; and every receiver that meets `receive`'s contract, or `receive_lent`'s,
-- hears a stream cut anywhere as the reading of the uncut one, in finitely many calls. Assumes nothing.
use Prim.Native.Nat.{ℕ, ◌≤◌}
use contract.Lifetimes.{Lfts}
use denote.MutBor.{MutBor}
use denote.Ref.{Bor}
use mathlib.Core.Bool.{false, true≢false}
use mathlib.Core.List.{List}
use mathlib.Core.Path.{◌≡◌, sym, ap, subst, ◌∙◌}
use lib.ListN.{length}
use Rattle.std.specs.Prelude.{Result, Ok, Err, IfErr}
use Rattle.verdict.specs.declared.Refused.{Refused}
use Rattle.verdict.specs.Refusals.{number_of}
use Rattle.verdict.proofs.Told.{number-tells}
use Rattle.reading.specs.Events.{Event, event_of}
use Rattle.reading.specs.Events.Event.{More, Noise, Length, End, Sum, Packet, Refused as Refuses}
use Rattle.frame.specs.Frame.{room}
use Rattle.reading.proofs.Events.{refuses, event-taken, event-tells}
use Rattle.reading.specs.Finding.{reading}
use Rattle.reading.specs.Calls.{State, Answer, called}
use Rattle.reading.specs.Offers.{joined}
use Rattle.reading.proofs.Call.{Good}
use Rattle.reading.proofs.Demand.{GoesOn, call-on}
use Rattle.reading.proofs.Runs.{CutAnywhere, Whole, calls_of, whole-receiver}
use Rattle.receiver.specs.declared.Receiver.{Receiver}
use Rattle.receiver.specs.declared.Received.{Received as CodedReceived}
use Rattle.receiver.specs.declared.Served.{Served as CodedServed}
use Rattle.receiver.specs.Receivers.{Received, Served, lent, given, receiver_of, received_by, served_by}
use Rattle.receiver.proofs.Receiver.fresh.Reads as made
use Rattle.receiver.proofs.Receiver.receive.Reads as receive
use Rattle.receiver.proofs.receive_lent.Reads as receive-lent
use Rattle.receiver.proofs.clear_lent.Reads as clear-lent

abbrev number_in : Event → ℕ
number_in More = 0
number_in Noise = 0
number_in Length = 0
number_in End = 0
number_in Sum = 0
number_in (Packet n) = 0
number_in (Refuses n) = n

-- a refusal at place 0 is told by its number, and an event by its name
refusal-told : (e f : Refused) → number_of e.refusal ≡ number_of f.refusal → e.place ≡ 0 → f.place ≡ 0 → e ≡ f
refusal-told e f n p q =
    let refusal = number-tells e.refusal f.refusal n in
    let place = p ∙ sym q in
    λ i. record { refusal = refusal i; place = place i }

no-refusal : (e : Event) (n : ℕ) → refuses e ≡ false → e ≡ Refuses n → ⊥
unfolding refuses
no-refusal e n h q = true≢false (sym (ap refuses q) ∙ h)

-- so no two answers in code are the same answer
received-tells : (st : State) (r s : Result CodedReceived Refused) → received_by st r ≡ received_by st s → IfErr r (λ e. e.place ≡ 0)
    → IfErr s (λ e. e.place ≡ 0) → r ≡ s
received-tells st (Ok a) (Ok b) h p q =
    let event = event-tells a.event b.event (ap (λ (x : Received). x.event) h) in
    λ i. Ok record { event = event i; skipped = (h i).skipped; taken = (h i).taken; state = (h i).state }
received-tells st (Ok a) (Err f) h p q = absurd (no-refusal (event_of a.event) _ (event-taken a.event) (ap (λ (x : Received). x.event) h))
received-tells st (Err e) (Ok b) h p q = absurd (no-refusal (event_of b.event) _ (event-taken b.event) (ap (λ (x : Received). x.event) (sym h)))
received-tells st (Err e) (Err f) h p q = ap (λ (x : Refused). Err x) (refusal-told e f (ap number_in (ap (λ (x : Received). x.event) h)) p q)

served-tells : (held skipped : ℕ) (r s : Result CodedServed Refused) → served_by held skipped r ≡ served_by held skipped s → IfErr r (λ e. e.place ≡ 0)
    → IfErr s (λ e. e.place ≡ 0) → r ≡ s
served-tells held skipped (Ok a) (Ok b) h p q =
    let event = event-tells a.event b.event (ap (λ (x : Served). x.event) h) in
    λ i. Ok record { event = event i; skipped = (h i).skipped; taken = (h i).taken; held = (h i).held; count = (h i).count }
served-tells held skipped (Ok a) (Err f) h p q = absurd (no-refusal (event_of a.event) _ (event-taken a.event) (ap (λ (x : Served). x.event) h))
served-tells held skipped (Err e) (Ok b) h p q = absurd (no-refusal (event_of b.event) _ (event-taken b.event) (ap (λ (x : Served). x.event) (sym h)))
served-tells held skipped (Err e) (Err f) h p q = ap (λ (x : Refused). Err x) (refusal-told e f (ap number_in (ap (λ (x : Served). x.event) h)) p q)

pub receive-determined : (κs : Lfts 2) (x : Receiver) (piece : Bor (List ℕ)) (out o p : MutBor (List ℕ)) (r s : Result CodedReceived Refused)
    → receive.Post κs (x, (piece, (out, tt))) r (x, (piece, (o, tt))) → receive.Post κs (x, (piece, (out, tt))) s (x, (piece, (p, tt)))
    → (r ≡ s) × (o.now ≡ p.now)
receive-determined κs x piece out o p r s a b = (received-tells (given x) r s (a.0 ∙ sym b.0) a.1.0 b.1.0, a.1.1 ∙ sym b.1.1)

pub lent-determined : (κs : Lfts 3) (hold h k : MutBor (List ℕ)) (held skipped : ℕ) (piece : Bor (List ℕ)) (out o p : MutBor (List ℕ)) (r s : Result CodedServed Refused)
    → receive-lent.Post κs (hold, (held, (skipped, (piece, (out, tt))))) r (h, (held, (skipped, (piece, (o, tt)))))
    → receive-lent.Post κs (hold, (held, (skipped, (piece, (out, tt))))) s (k, (held, (skipped, (piece, (p, tt)))))
    → (r ≡ s) × (h.now ≡ k.now) × (o.now ≡ p.now)
lent-determined κs hold h k held skipped piece out o p r s a b =
    (served-tells held skipped r s (a.0 ∙ sym b.0) a.1.0 b.1.0, a.1.1.0 ∙ sym b.1.1.0, a.1.1.1 ∙ sym b.1.1.1)

pub clear-determined : (κs : Lfts 1) (hold h k : MutBor (List ℕ)) (r s : _) → clear-lent.Post κs (hold, tt) r (h, tt) → clear-lent.Post κs (hold, tt) s (k, tt) → h.now ≡ k.now
clear-determined κs hold h k r s a b = a ∙ sym b

-- how a caller lends: at its i-th call the lifetimes, a reference to the bytes of a piece, and a buffer of 1,054 bytes or more
pub record Lending (n : ℕ) : Type 0 where
  pub lifetimes : ℕ → Lfts n
  pub piece : ℕ → List ℕ → Bor (List ℕ)
  pub is-piece : (i : ℕ) (l : List ℕ) → (piece i l).now ≡ l
  pub out : ℕ → MutBor (List ℕ)
  pub roomy : (i : ℕ) → 1054 ≤ length (out i).now

-- and where it keeps the hold
pub record Holding : Type 0 where
  pub hold : ℕ → List ℕ → MutBor (List ℕ)
  pub is-hold : (i : ℕ) (l : List ℕ) → (hold i l).now ≡ l

-- BY VALUE: an answer of `receive` and a buffer at exit that meet its contract
pub record Answered (κs : Lfts 2) (x : Receiver) (piece : Bor (List ℕ)) (out : MutBor (List ℕ)) : Type 0 where
  pub answer : Result CodedReceived Refused
  pub left : MutBor (List ℕ)
  pub meets : receive.Post κs (x, (piece, (out, tt))) answer (x, (piece, (left, tt)))

-- a receiver that meets the contract: its i-th call is answered from every state that keeps the rules, whatever the piece and the buffer (what the
-- types rule out may be answered anyhow by the contract)
abbrev pub Answers : Type 0
Answers = (i : ℕ) (κs : Lfts 2) (x : Receiver) (piece : Bor (List ℕ)) (out : MutBor (List ℕ)) → Good 1024 (given x) → Answered κs x piece out

-- an answer with its buffer
abbrev pub answer_of : Received → List ℕ → Answer
answer_of r out = record { event = r.event; skipped = r.skipped; taken = r.taken; state = given r.state; out = out }

answer-is : (κs : Lfts 2) (x : Receiver) (piece : Bor (List ℕ)) (out o : MutBor (List ℕ)) (r : Result CodedReceived Refused)
    → receive.Post κs (x, (piece, (out, tt))) r (x, (piece, (o, tt)))
    → answer_of (received_by (given x) r) o.now ≡ called 1024 (given x) piece.now out.now
answer-is κs x piece out o r p =
    λ n. record { event = (p.0 n).event; skipped = (p.0 n).skipped; taken = (p.0 n).taken; state = given (p.0 n).state; out = p.1.1 n }

-- from a state that keeps the rules, with a buffer of 1,054 bytes or more, no call is refused, and one that gives an event leaves fewer bytes held and offered
pub receive-on : (κs : Lfts 2) (x : Receiver) (piece : Bor (List ℕ)) (out o : MutBor (List ℕ)) (r : Result CodedReceived Refused) → Good 1024 (given x)
    → 1054 ≤ length out.now → receive.Post κs (x, (piece, (out, tt))) r (x, (piece, (o, tt)))
    → GoesOn 1024 (given x) piece.now (answer_of (received_by (given x) r) o.now)
unfolding room
receive-on κs x piece out o r g h p =
    subst (GoesOn 1024 (given x) piece.now) (sym (answer-is κs x piece out o r p)) (call-on 1024 (given x) piece.now out.now g h)

-- its answers, as it is lent to
abbrev pub answering : (box : Answers) (by : Lending 2) (i : ℕ) (st : State) (piece : List ℕ) → Good 1024 st
    → Answered (by.lifetimes i) (receiver_of st) (by.piece i piece) (by.out i)
answering box by i st piece g = box i (by.lifetimes i) (receiver_of st) (by.piece i piece) (by.out i) g

abbrev pub valued : Answers → Lending 2 → Whole 1024
valued box by i st piece g =
    let a = answering box by i st piece g in
    answer_of (received_by st a.answer) a.left.now

-- DEMAND 3, of every receiver that meets `receive`'s contract, from what `fresh` makes
pub demand-3 : (box : Answers) (by : Lending 2) (x : Receiver) → made.Post tt tt x tt → (pieces : List (List ℕ))
    → CutAnywhere 1024 (calls_of 1024 (valued box by)) (given x) pieces (reading 1024 0 0 (joined pieces)) (reading 1024 0 0 (joined pieces)).heard
unfolding room
demand-3 box by x e pieces =
    subst
    (λ (q : Receiver). CutAnywhere 1024 (calls_of 1024 (valued box by)) (given q) pieces (reading 1024 0 0 (joined pieces)) (reading 1024 0 0 (joined pieces)).heard)
    (sym e)
    (whole-receiver 1024 (λ i. (by.out i).now) (valued box by) by.roomy
    (λ i st piece g.
    let a = answering box by i st piece g in
    answer-is (by.lifetimes i) (receiver_of st) (by.piece i piece) (by.out i) a.left a.answer a.meets
    ∙ ap (λ (l : List ℕ). called 1024 st l (by.out i).now) (by.is-piece i piece))
    pieces)

-- ON A LENT HOLD: the hold, the held length and the count, a piece and a buffer, at entry and at exit of a call
abbrev pub Lent : Type 0
Lent = MutBor (List ℕ) × (ℕ × (ℕ × (Bor (List ℕ) × (MutBor (List ℕ) × Unit {0}))))

-- an answer and a hold and a buffer at exit that meet a call's contract
pub record Serving {R : Type 0} (Post : Lfts 3 → Lent → R → Lent → Type 0) (κs : Lfts 3) (hold : MutBor (List ℕ)) (held skipped : ℕ)
    (piece : Bor (List ℕ)) (out : MutBor (List ℕ)) : Type 0 where
  pub answer : R
  pub kept : MutBor (List ℕ)
  pub left : MutBor (List ℕ)
  pub meets : Post κs (hold, (held, (skipped, (piece, (out, tt))))) answer (kept, (held, (skipped, (piece, (left, tt)))))

-- a receiver that meets a call's contract: its i-th call is answered from every state that keeps the rules, whatever the piece and the buffer
abbrev pub Serves : {R : Type 0} → (Lfts 3 → Lent → R → Lent → Type 0) → Type 0
Serves Post = (i : ℕ) (κs : Lfts 3) (hold : MutBor (List ℕ)) (held skipped : ℕ) (piece : Bor (List ℕ)) (out : MutBor (List ℕ)) → Good 1024 (lent hold.now held skipped)
    → Serving Post κs hold held skipped piece out

-- its answers, as it is lent to
abbrev pub serving : {R : Type 0} (Post : Lfts 3 → Lent → R → Lent → Type 0) (box : Serves Post) (in-hold : Holding) (by : Lending 3)
    (i : ℕ) (st : State) (piece : List ℕ) → Good 1024 st
    → Serving Post (by.lifetimes i) (in-hold.hold i st.hold) st.held st.skipped (by.piece i piece) (by.out i)
serving Post box in-hold by i st piece g =
    box i (by.lifetimes i) (in-hold.hold i st.hold) st.held st.skipped (by.piece i piece) (by.out i)
    (subst (λ (l : List ℕ). Good 1024 (lent l st.held st.skipped)) (sym (in-hold.is-hold i st.hold)) g)

-- an answer with its hold and buffer
abbrev pub served_in : Served → List ℕ → List ℕ → Answer
served_in r hold out = record { event = r.event; skipped = r.skipped; taken = r.taken; state = lent hold r.held r.count; out = out }

served-is : (κs : Lfts 3) (hold h : MutBor (List ℕ)) (held skipped : ℕ) (piece : Bor (List ℕ)) (out o : MutBor (List ℕ)) (r : Result CodedServed Refused)
    → receive-lent.Post κs (hold, (held, (skipped, (piece, (out, tt))))) r (h, (held, (skipped, (piece, (o, tt)))))
    → served_in (served_by held skipped r) h.now o.now ≡ called 1024 (lent hold.now held skipped) piece.now out.now
served-is κs hold h held skipped piece out o r p =
    λ n. record {
      event = (p.0 n).event;
      skipped = (p.0 n).skipped;
      taken = (p.0 n).taken;
      state = lent (p.1.1.0 n) (p.0 n).held (p.0 n).count;
      out = p.1.1.1 n;
    }

pub lent-on : (κs : Lfts 3) (hold h : MutBor (List ℕ)) (held skipped : ℕ) (piece : Bor (List ℕ)) (out o : MutBor (List ℕ)) (r : Result CodedServed Refused)
    → Good 1024 (lent hold.now held skipped) → 1054 ≤ length out.now
    → receive-lent.Post κs (hold, (held, (skipped, (piece, (out, tt))))) r (h, (held, (skipped, (piece, (o, tt)))))
    → GoesOn 1024 (lent hold.now held skipped) piece.now (served_in (served_by held skipped r) h.now o.now)
unfolding room
lent-on κs hold h held skipped piece out o r g room-there p =
    subst (GoesOn 1024 (lent hold.now held skipped) piece.now) (sym (served-is κs hold h held skipped piece out o r p))
    (call-on 1024 (lent hold.now held skipped) piece.now out.now g room-there)

-- its whole answers
abbrev pub served : Serves receive-lent.Post → Holding → Lending 3 → Whole 1024
served box in-hold by i st piece g =
    let a = serving receive-lent.Post box in-hold by i st piece g in
    served_in (served_by st.held st.skipped a.answer) a.kept.now a.left.now

-- DEMAND 3, of every receiver that meets `receive_lent`'s contract, from the hold that `clear_lent` makes
pub demand-3-lent : (box : Serves receive-lent.Post) (in-hold : Holding) (by : Lending 3) (κs : Lfts 1) (row hold : MutBor (List ℕ)) (r : _) → clear-lent.Post κs (row, tt) r (hold, tt)
    → (pieces : List (List ℕ))
    → CutAnywhere 1024 (calls_of 1024 (served box in-hold by)) (lent hold.now 0 0) pieces (reading 1024 0 0 (joined pieces)) (reading 1024 0 0 (joined pieces)).heard
unfolding room
demand-3-lent box in-hold by κs row hold r e pieces =
    subst
    (λ (q : List ℕ). CutAnywhere 1024 (calls_of 1024 (served box in-hold by)) (lent q 0 0) pieces (reading 1024 0 0 (joined pieces)) (reading 1024 0 0 (joined pieces)).heard)
    (sym e)
    (whole-receiver 1024 (λ i. (by.out i).now) (served box in-hold by) by.roomy
    (λ i st piece g.
    let a = serving receive-lent.Post box in-hold by i st piece g in
    served-is (by.lifetimes i) (in-hold.hold i st.hold) a.kept st.held st.skipped (by.piece i piece) (by.out i) a.left a.answer a.meets
    ∙ (λ n. called 1024 (lent (in-hold.is-hold i st.hold n) st.held st.skipped) (by.is-piece i piece n) (by.out i).now))
    pieces)
