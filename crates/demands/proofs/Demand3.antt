-- Demand 3 of the tender: however the line's bytes are cut; and that receiver and judge have one notion of a packet. A receiver is here whatever
-- answers each call from a sound state by the call's contract; nothing is asked of how it does so. Assumes nothing.
use Prim.Native.Nat.{ℕ, ◌+◌, ◌≤◌}
use native.Mathlib.Omega.{arith}
use contract.Lifetimes.{Lfts}
use denote.MutBor.{MutBor}
use denote.Ref.{Bor}
use mathlib.Core.Bool.{true}
use mathlib.Core.List.{List, [], ◌∷◌, map, Memᴰ}
use mathlib.Core.Path.{◌≡◌, sym, ap, subst, ◌∙◌}
use lib.ListN.{length}
use Rattle.frame.specs.Frame.{frame_tests}
use Rattle.reading.specs.Values.{PACKET, told}
use Rattle.reading.specs.Finding.{Reading, reading}
use Rattle.reading.specs.Events.Event.{Packet}
use Rattle.reading.specs.Calls.{State}
use Rattle.reading.specs.Offers.{joined, state_of}
use Rattle.reading.proofs.Call.{Good}
use Rattle.reading.proofs.Demand.{GoesOn}
use Rattle.reading.proofs.Frames.{framed-heard}
use Rattle.reading.proofs.Runs.{Streaming, CutAnywhere, calls_of}
use Rattle.receiver.specs.declared.Receiver.{Receiver}
use Rattle.receiver.specs.declared.Received.{Received}
use Rattle.receiver.specs.declared.Served.{Served}
use Rattle.receiver.specs.Receivers.{lent, given, received_by, served_by}
use Rattle.std.specs.Prelude.{Result}
use Rattle.verdict.specs.declared.Refused.{Refused}
use Rattle.receiver.proofs.Demands.{Lending, Holding, Answers, answer_of, valued, receive-on, demand-3, Serves, served_in, served, lent-on, demand-3-lent}
use Rattle.trawnosz.specs.declared.ServedC.{ServedC}
use Rattle.trawnosz.proofs.Stream as stream
use Rattle.verdict.specs.Orders.{in_order, good, is_good}
use Rattle.trawnosz.proofs.trawnosz_fresh.Reads as c-fresh
use Rattle.trawnosz.proofs.trawnosz_receive.Reads as c-receive
use Rattle.receiver.proofs.Receiver.fresh.Reads as fresh
use Rattle.receiver.proofs.Receiver.receive.Reads as receive
use Rattle.receiver.proofs.clear_lent.Reads as clear-lent
use Rattle.receiver.proofs.receive_lent.Reads as receive-lent

-- DEMAND 3, OF THE C CALLS. "Take one stream of line bytes, a fresh receiver, and a packet buffer of 1,054 bytes or more at each call. Cut the stream at
-- places of your choosing and offer each piece, then what was not yet taken of it, until the receiver asks for more. The packets, refused starts, noise
-- reports and skipped counts, in order, and the state at the end, are those of document 01's reading of the uncut stream. Each byte received is accounted
-- for once: in a packet, as the first byte of a refused start, as skipped, or still held." There is such a run, and no other
pub cut-anywhere : (box : Serves c-receive.Post) (in-hold : Holding) (by : Lending 3) (κs : Lfts 1) (row hold : MutBor (List ℕ)) (r : _)
    → c-fresh.Post κs (row, tt) r (hold, tt) → (pieces : List (List ℕ))
    → CutAnywhere 1024 (stream.calls_c box in-hold by) (lent hold.now 0 0) pieces (reading 1024 0 0 (joined pieces))
    (map stream.heard_to (reading 1024 0 0 (joined pieces)).heard)
cut-anywhere = stream.demand-3-c

-- "each modem release cuts the line differently, and putting one back must not alter what the centre hears": of two receivers, however each is lent to
pub cut-otherwise : (box box' : Serves c-receive.Post) (in-hold in-hold' : Holding) (by by' : Lending 3) (κs κs' : Lfts 1)
    (row hold row' hold' : MutBor (List ℕ)) (r r' : _) → c-fresh.Post κs (row, tt) r (hold, tt) → c-fresh.Post κs' (row', tt) r' (hold', tt)
    → (pieces pieces' : List (List ℕ)) → joined pieces ≡ joined pieces'
    → (hs hs' : List stream.HeardC) (end end' : State) (n n' : ℕ)
    → Streaming (stream.calls_c box in-hold by) 0 (lent hold.now 0 0) pieces hs end n
    → Streaming (stream.calls_c box' in-hold' by') 0 (lent hold'.now 0 0) pieces' hs' end' n'
    → (hs ≡ hs') × (end ≡ end')
cut-otherwise box box' in-hold in-hold' by by' κs κs' row hold row' hold' r r' made made' pieces pieces' e hs hs' end end' n n' run run' =
    let one = (cut-anywhere box in-hold by κs row hold r made pieces).no_other hs end n run in
    let two = (cut-anywhere box' in-hold' by' κs' row' hold' r' made' pieces').no_other hs' end' n' run' in (
      one.0 ∙ ap (λ (l : List ℕ). map stream.heard_to (reading 1024 0 0 l).heard) e ∙ sym two.0,
      one.1 ∙ ap (λ (l : List ℕ). state_of 1024 (reading 1024 0 0 l)) e ∙ sym two.1,
    )

-- the contract can be met, so that this is said of some receiver
pub can-be-met : Serves c-receive.Post
can-be-met = stream.definition-serves

-- a call is not refused, and an event costs a byte held or offered, so that offering ends
pub c-goes-on : (κs : Lfts 3) (hold h : MutBor (List ℕ)) (held count : ℕ) (piece : Bor (List ℕ)) (out o : MutBor (List ℕ)) (r : ServedC)
    → Good 1024 (lent hold.now held count) → 1054 ≤ length out.now
    → c-receive.Post κs (hold, (held, (count, (piece, (out, tt))))) r (h, (held, (count, (piece, (o, tt)))))
    → stream.GoesOnC held piece.now r h.now
c-goes-on = stream.c-on

-- DEMAND 3, OF THE LIBRARY'S CALLS on a lent hold
pub cut-anywhere-lent : (box : Serves receive-lent.Post) (in-hold : Holding) (by : Lending 3) (κs : Lfts 1) (row hold : MutBor (List ℕ)) (r : _)
    → clear-lent.Post κs (row, tt) r (hold, tt) → (pieces : List (List ℕ))
    → CutAnywhere 1024 (calls_of 1024 (served box in-hold by)) (lent hold.now 0 0) pieces (reading 1024 0 0 (joined pieces))
    (reading 1024 0 0 (joined pieces)).heard
cut-anywhere-lent = demand-3-lent

pub lent-goes-on : (κs : Lfts 3) (hold h : MutBor (List ℕ)) (held skipped : ℕ) (piece : Bor (List ℕ)) (out o : MutBor (List ℕ)) (r : Result Served Refused)
    → Good 1024 (lent hold.now held skipped) → 1054 ≤ length out.now
    → receive-lent.Post κs (hold, (held, (skipped, (piece, (out, tt))))) r (h, (held, (skipped, (piece, (o, tt)))))
    → GoesOn 1024 (lent hold.now held skipped) piece.now (served_in (served_by held skipped r) h.now o.now)
lent-goes-on = lent-on

-- and by value
pub cut-anywhere-by-value : (box : Answers) (by : Lending 2) (x : Receiver) → fresh.Post tt tt x tt → (pieces : List (List ℕ))
    → CutAnywhere 1024 (calls_of 1024 (valued box by)) (given x) pieces (reading 1024 0 0 (joined pieces)) (reading 1024 0 0 (joined pieces)).heard
cut-anywhere-by-value = demand-3

pub value-goes-on : (κs : Lfts 2) (x : Receiver) (piece : Bor (List ℕ)) (out o : MutBor (List ℕ)) (r : Result Received Refused) → Good 1024 (given x) → 1054 ≤ length out.now
    → receive.Post κs (x, (piece, (out, tt))) r (x, (piece, (o, tt))) → GoesOn 1024 (given x) piece.now (answer_of (received_by (given x) r) o.now)
value-goes-on = receive-on

-- of every such run of the C calls
module _ (box : Serves c-receive.Post) (in-hold : Holding) (by : Lending 3) (κs : Lfts 1) (row hold : MutBor (List ℕ)) (r : _)
    (made : c-fresh.Post κs (row, tt) r (hold, tt)) (pieces : List (List ℕ)) where
  -- "Bytes received equal the events' skipped counts, one per LENGTH, END and SUM, the packets' lengths, the present count and the held bytes, added up."
  pub each-byte-once : (hs : List stream.HeardC) (end : State) (n : ℕ) → Streaming (stream.calls_c box in-hold by) 0 (lent hold.now 0 0) pieces hs end n
      → stream.counted_c hs + end.skipped + end.held ≡ length (joined pieces)
  each-byte-once hs end n run =
      let same = (cut-anywhere box in-hold by κs row hold r made pieces).no_other hs end n run in
      omega (arith, ap stream.counted_c same.0, ap (λ (st : State). st.skipped) same.1, ap (λ (st : State). st.held) same.1, stream.c-counted (joined pieces))

  -- RECEIVER AND JUDGE: however the line's bytes are cut, each PACKET that is heard has its length and passes the judge's frame tests
  pub heard-passes : (hs : List stream.HeardC) (end : State) (n : ℕ) → Streaming (stream.calls_c box in-hold by) 0 (lent hold.now 0 0) pieces hs end n
      → (h : stream.HeardC) → Memᴰ h hs → h.event ≡ PACKET → (length h.packet ≡ h.length) × (in_order (frame_tests 1024 h.packet) good ≡ good)
  heard-passes hs end n run h m =
      stream.c-framed (joined pieces) h (subst (Memᴰ h) ((cut-anywhere box in-hold by κs row hold r made pieces).no_other hs end n run).0 m)

  -- and bytes that pass them, alone on the line, are heard as one PACKET and nothing else, and leave a fresh receiver
  pub passing-heard : is_good (in_order (frame_tests 1024 (joined pieces)) good) ≡ true
      → CutAnywhere 1024 (stream.calls_c box in-hold by) (lent hold.now 0 0) pieces
      (record { heard = record { event = Packet (length (joined pieces)); skipped = 0; packet = joined pieces } ∷ []; held = []; skipped = 0 })
      (record { event = PACKET; length = length (joined pieces); skipped = 0; packet = joined pieces } ∷ [])
  unfolding told
  passing-heard g =
      subst (λ (q : Reading). CutAnywhere 1024 (stream.calls_c box in-hold by) (lent hold.now 0 0) pieces q (map stream.heard_to q.heard))
      (framed-heard 1024 (joined pieces) g) (cut-anywhere box in-hold by κs row hold r made pieces)
