-- Demand 3 of every receiver: where each call is answered, and answered as the definition says, there is for any pieces and buffers a run of calls,
-- it is the only one, and it agrees with the reading of the uncut stream. Assumes nothing.
use Prim.Native.Nat.{ℕ, suc, ◌+◌, ◌≤◌}
use native.Mathlib.Omega.{arith}
use mathlib.Core.Bool.{Bool, true, false}
use mathlib.Core.List.{List, [], ◌∷◌, ◌++◌, map, map-append, map-id}
use mathlib.Core.Path.{◌≡◌, refl, sym, ap, subst, ◌∙◌}
use lib.ListN.{length, drop, length-append, length-map}
use Rattle.reading.specs.Values.{asks}
use Rattle.reading.specs.Finding.{Heard, Reading, reading}
use Rattle.reading.specs.Calls.{State, Answer, fresh, called}
use Rattle.reading.specs.Offers.{Roomy, heard_in, Offered, Streamed, joined, state_of, accounted}
use Rattle.reading.specs.Offers.Offered.{enough, again}
use Rattle.reading.specs.Offers.Streamed.{none, next}
use Rattle.reading.proofs.Call.{Good, fresh-good}
use Rattle.reading.proofs.Demand.{call-on, call-keeps, stream-ends, heard-as-read}
use Rattle.reading.proofs.Account.{accounts}

-- what a call shows its caller: whether it asks for more, what is heard of it, the bytes taken, and the state that it leaves
pub record Shown (H : Type 0) : Type 0 where
  pub asking : Bool
  pub heard : H
  pub taken : ℕ
  pub state : State

-- a receiver, by what its i-th call may show from a state and with a piece
abbrev pub Calls : Type 0 → Type 1
Calls H = ℕ → State → List ℕ → Shown H → Type 0

-- a piece offered from call i on, then what was not yet taken of it, until more is asked for: what is heard, the state then, and the next call's number
pub data Offering {H : Type 0} (calls : Calls H) : ℕ → State → List ℕ → List H → State → ℕ → Type 0 where
  last : (i : ℕ) (st : State) (piece : List ℕ) (s : Shown H) → calls i st piece s → s.asking ≡ true
      → Offering calls i st piece [] s.state (suc i)
  more : (i : ℕ) (st : State) (piece : List ℕ) (s : Shown H) (hs : List H) (end : State) (j : ℕ) → calls i st piece s → s.asking ≡ false
      → Offering calls (suc i) s.state (drop s.taken piece) hs end j
      → Offering calls i st piece (s.heard ∷ hs) end j

-- the pieces one after the other
pub data Streaming {H : Type 0} (calls : Calls H) : ℕ → State → List (List ℕ) → List H → State → ℕ → Type 0 where
  over : (i : ℕ) (st : State) → Streaming calls i st [] [] st i
  then : (i : ℕ) (st : State) (piece : List ℕ) (pieces : List (List ℕ)) (hs ks : List H) (mid end : State) (j k : ℕ)
      → Offering calls i st piece hs mid j → Streaming calls j mid pieces ks end k
      → Streaming calls i st (piece ∷ pieces) (hs ++ ks) end k

-- what the definition's answer shows, with what is heard told in the caller's words
abbrev pub shown : {H : Type 0} → (Heard → H) → Answer → Shown H
shown tell a = record { asking = asks a.event; heard = tell (heard_in a); taken = a.taken; state = a.state }

-- a receiver that from every state that keeps the rules answers, and answers nothing but what the definition says
pub record Receives {H : Type 0} (M : ℕ) (lent : ℕ → List ℕ) (tell : Heard → H) (calls : Calls H) : Type 0 where
  pub answers : (i : ℕ) (st : State) (piece : List ℕ) → Good M st → calls i st piece (shown tell (called M st piece (lent i)))
  pub right : (i : ℕ) (st : State) (piece : List ℕ) (s : Shown H) → Good M st → calls i st piece s → s ≡ shown tell (called M st piece (lent i))

-- DEMAND 3 of a receiver's calls and a reading: there is a run, of one call for each thing heard and one for each piece, and it is heard as the
-- reading says and leaves its state; no run is another; each piece is offered at most held + piece + 1 times; each byte is accounted for once
pub record CutAnywhere {H : Type 0} (M : ℕ) (calls : Calls H) (begin : State) (pieces : List (List ℕ)) (read : Reading) (heard : List H) : Type 0 where
  pub there-is : Streaming calls 0 begin pieces heard (state_of M read) (length heard + length pieces)
  pub no_other : (hs : List H) (end : State) (n : ℕ) → Streaming calls 0 begin pieces hs end n
      → (hs ≡ heard) × (end ≡ state_of M read) × (n ≡ length heard + length pieces)
  pub few : (i : ℕ) (st : State) (piece : List ℕ) (hs : List H) (end : State) (j : ℕ) → Good M st → Offering calls i st piece hs end j
      → j ≤ i + (st.held + length piece + 1)
  pub counted : accounted read ≡ length (joined pieces)

-- a run of the definition's calls has one call for each thing heard, and one for each piece
offered-calls : (M : ℕ) (lent : ℕ → List ℕ) (i : ℕ) (st : State) (piece : List ℕ) (hs : List Heard) (end : State) (j : ℕ)
    → Offered M lent i st piece hs end j → j ≡ suc (i + length hs)
offered-calls M lent i st piece hs end j (enough _ _ _ a) = omega arith
offered-calls M lent i st piece hs end j (again _ _ _ ks _ _ a o) = omega (arith, offered-calls M lent (suc i) _ _ ks end j o)

streamed-calls : (M : ℕ) (lent : ℕ → List ℕ) (i : ℕ) (st : State) (pieces : List (List ℕ)) (hs : List Heard) (end : State) (j : ℕ)
    → Streamed M lent i st pieces hs end j → j ≡ i + (length hs + length pieces)
streamed-calls M lent i st pieces hs end j (none _ _) = omega arith
streamed-calls M lent i st pieces hs end j (next _ _ piece rest os ks mid _ k _ o t) =
    omega (arith, offered-calls M lent i st piece os mid k o, streamed-calls M lent k mid rest ks end j t, length-append os ks)

-- and leaves a state that keeps the rules
offered-keeps : (M : ℕ) (lent : ℕ → List ℕ) (i : ℕ) (st : State) (piece : List ℕ) (hs : List Heard) (end : State) (j : ℕ) → Good M st
    → Offered M lent i st piece hs end j → Good M end
offered-keeps M lent i st piece hs end j g (enough _ _ _ a) = call-keeps M st piece (lent i) g
offered-keeps M lent i st piece hs end j g (again _ _ _ ks _ _ a o) = offered-keeps M lent (suc i) _ _ ks end j (call-keeps M st piece (lent i) g) o

-- and offers a piece at most held + piece + 1 times
offered-few : (M : ℕ) (lent : ℕ → List ℕ) → Roomy M lent → (i : ℕ) (st : State) (piece : List ℕ) (hs : List Heard) (end : State) (j : ℕ) → Good M st
    → Offered M lent i st piece hs end j → j ≤ i + (st.held + length piece + 1)
offered-few M lent r i st piece hs end j g (enough _ _ _ a) = omega arith
offered-few M lent r i st piece hs end j g (again _ _ _ ks _ _ a o) =
    let on = call-on M st piece (lent i) g (r i) in
    omega (arith, offered-few M lent r (suc i) _ _ ks end j on.keeps o, on.falls a)

module _ {H : Type 0} (M : ℕ) (lent : ℕ → List ℕ) (tell : Heard → H) (calls : Calls H) (c : Receives M lent tell calls) where
  -- the definition's run is one of the receiver's
  offering : (i : ℕ) (st : State) (piece : List ℕ) (hs : List Heard) (end : State) (j : ℕ) → Good M st
      → Offered M lent i st piece hs end j → Offering calls i st piece (map tell hs) end j
  offering i st piece hs end j g (enough _ _ _ a) = Offering.last i st piece _ (c.answers i st piece g) a
  offering i st piece hs end j g (again _ _ _ ks _ _ a o) =
      Offering.more i st piece _ (map tell ks) end j (c.answers i st piece g) a
      (offering (suc i) _ _ ks end j (call-keeps M st piece (lent i) g) o)

  streaming : (i : ℕ) (st : State) (pieces : List (List ℕ)) (hs : List Heard) (end : State) (j : ℕ) → Good M st
      → Streamed M lent i st pieces hs end j → Streaming calls i st pieces (map tell hs) end j
  streaming i st pieces hs end j g (none _ _) = Streaming.over i st
  streaming i st pieces hs end j g (next _ _ piece rest os ks mid _ k _ o t) =
      subst (λ (l : List H). Streaming calls i st (piece ∷ rest) l end j) (sym (map-append tell os ks))
      (Streaming.then i st piece rest (map tell os) (map tell ks) mid end k j
      (offering i st piece os mid k g o) (streaming k mid rest ks end j (offered-keeps M lent i st piece os mid k g o) t))

  -- and each of the receiver's is the definition's
  offered : (i : ℕ) (st : State) (piece : List ℕ) (hs : List H) (end : State) (j : ℕ) → Good M st
      → Offering calls i st piece hs end j → (ks : List Heard) × Offered M lent i st piece ks end j × (hs ≡ map tell ks)
  offered i st piece hs end j g (Offering.last _ _ _ s k a) =
      let e = c.right i st piece s g k in (
        [],
        subst (λ (end : State). Offered M lent i st piece [] end (suc i)) (sym (ap (λ (q : Shown H). q.state) e))
            (enough i st piece (sym (ap (λ (q : Shown H). q.asking) e) ∙ a)),
        refl,
      )
  offered i st piece hs end j g (Offering.more _ _ _ s ls _ _ k a o) =
      let e = c.right i st piece s g k in
      let rest = offered (suc i) s.state (drop s.taken piece) ls end j (subst (λ (q : Shown H). Good M q.state) (sym e) (call-keeps M st piece (lent i) g)) o in (
        heard_in (called M st piece (lent i)) ∷ rest.0,
        again i st piece rest.0 end j (sym (ap (λ (q : Shown H). q.asking) e) ∙ a)
            (subst (λ (q : Shown H). Offered M lent (suc i) q.state (drop q.taken piece) rest.0 end j) e rest.1),
        λ n. (e n).heard ∷ rest.2 n,
      )

  streamed : (i : ℕ) (st : State) (pieces : List (List ℕ)) (hs : List H) (end : State) (j : ℕ) → Good M st
      → Streaming calls i st pieces hs end j → (ks : List Heard) × Streamed M lent i st pieces ks end j × (hs ≡ map tell ks)
  streamed i st pieces hs end j g (Streaming.over _ _) = ([], none i st, refl)
  streamed i st pieces hs end j g (Streaming.then _ _ piece rest os ls mid _ k _ o t) =
      let one = offered i st piece os mid k g o in
      let two = streamed k mid rest ls end j (offered-keeps M lent i st piece one.0 mid k g one.1) t in (
        one.0 ++ two.0,
        next i st piece rest one.0 two.0 mid end k j one.1 two.1,
        (λ n. one.2 n ++ two.2 n) ∙ sym (map-append tell one.0 two.0),
      )

  -- whatever the pieces
  pub any-receiver : Roomy M lent → (pieces : List (List ℕ))
      → CutAnywhere M calls (fresh M) pieces (reading M 0 0 (joined pieces)) (map tell (reading M 0 0 (joined pieces)).heard)
  any-receiver r pieces =
      let read = reading M 0 0 (joined pieces) in
      let heard = map tell read.heard in
      let ends = stream-ends M lent r 0 (fresh M) pieces (fresh-good M) in
      let agrees : (ks : List Heard) (end : State) (n : ℕ) → Streamed M lent 0 (fresh M) pieces ks end n
      → (ks ≡ read.heard) × (end ≡ state_of M read) × (n ≡ length heard + length pieces) =
      λ ks end n t.
      let same = heard-as-read M lent r pieces ks end n t in
      (same.0, same.1, omega (arith, streamed-calls M lent 0 (fresh M) pieces ks end n t, ap length same.0, length-map read.heard tell)) in
      let run = agrees ends.heard ends.end ends.calls ends.streamed in
      record {
        there-is =
            subst (λ (n : ℕ). Streaming calls 0 (fresh M) pieces heard (state_of M read) n) run.2
            (subst (λ (st : State). Streaming calls 0 (fresh M) pieces heard st ends.calls) run.1
            (subst (λ (l : List Heard). Streaming calls 0 (fresh M) pieces (map tell l) ends.end ends.calls) run.0
            (streaming 0 (fresh M) pieces ends.heard ends.end ends.calls (fresh-good M) ends.streamed)));
        no_other = λ hs end n t.
            let one = streamed 0 (fresh M) pieces hs end n (fresh-good M) t in
            let same = agrees one.0 end n one.1 in
            (one.2 ∙ ap (map tell) same.0, same.1, same.2);
        few = λ i st piece hs end j g o.
            let one = offered i st piece hs end j g o in
            offered-few M lent r i st piece one.0 end j g one.1;
        counted = omega (arith, accounts M 0 0 (joined pieces) (omega arith));
      }

-- a receiver whose every answer is whole: its event, count, bytes taken, state and buffer
abbrev pub Whole : ℕ → Type 0
Whole M = (i : ℕ) (st : State) (piece : List ℕ) → Good M st → Answer

-- and its calls
abbrev pub calls_of : (M : ℕ) → Whole M → Calls Heard
calls_of M box i st piece s = (g : Good M st) × (s ≡ shown (λ h. h) (box i st piece g))

-- where each answer is the definition's
pub whole-receiver : (M : ℕ) (lent : ℕ → List ℕ) (box : Whole M) → Roomy M lent
    → ((i : ℕ) (st : State) (piece : List ℕ) (g : Good M st) → box i st piece g ≡ called M st piece (lent i))
    → (pieces : List (List ℕ)) → CutAnywhere M (calls_of M box) (fresh M) pieces (reading M 0 0 (joined pieces)) (reading M 0 0 (joined pieces)).heard
whole-receiver M lent box r right pieces =
    subst (CutAnywhere M (calls_of M box) (fresh M) pieces (reading M 0 0 (joined pieces))) (map-id (reading M 0 0 (joined pieces)).heard)
    (any-receiver M lent (λ h. h) (calls_of M box)
    (record {
      answers = λ i st piece g. (g, ap (shown (λ h. h)) (sym (right i st piece g)));
      right = λ i st piece s g c. c.1 ∙ ap (shown (λ h. h)) (right i st piece c.0);
    })
    r pieces)
