-- A packet given as its bytes is to every place what the table's own call for that reply is, or nothing, so that what holds of the log of the table's
-- own calls holds of a box's. Assumes nothing.
use Prim.Native.Nat.{ℕ, ◌<◌}
use mathlib.Core.Bool.{true, false}
use mathlib.Core.List.{List, [], ◌∷◌, map}
use mathlib.Core.Path.{◌≡◌, refl}
use Rattle.exchange.specs.declared.Exchanges.{Exchanges}
use Rattle.exchange.specs.declared.Replied.{Replied}
use Rattle.exchange.specs.Calls.{Call, begin, reply, tick, after, Sound}
use Rattle.exchange.specs.Centres.{own_of, Answer, to_reply, answer_to, answers_by, run_by, spared, spare}
use Rattle.exchange.specs.Table.{address_at}
use Rattle.exchange.specs.Logs.{of_reply, line_of, logged_by, is_tick}
use Rattle.exchange.proofs.Centres.{Alike, alike_self}
use Rattle.exchange.proofs.Courses.{Log, calls-log}
use Rattle.exchange.proofs.Independent.{Parted, left_out, call-parted}
use Rattle.exchange.proofs.Turns.{Acts, call-acts, idle-acts}
use Rattle.kinds.specs.Table.{rows}
use Rattle.packet.specs.Frames.{judged_packet}
use Rattle.packet.specs.Headers.{header_of}
use Rattle.place.specs.declared.Reply.{Reply}
use Rattle.taking.specs.Roles.{Role, Other, Is}
use Rattle.taking.specs.Boxes.{BoxCall, own, packet, box_line, box_after, box_log, calls_tick, box_answer, box_spared}
use Rattle.taking.specs.Takes.{role_of, taken_as, taken}

box-acts : (x : Exchanges) → Sound x → (c : BoxCall) → Acts x (box_line x c) (box_after x c)
unfolding box_line box_after taken taken_as line_of after
box-acts x sound (own c) = call-acts x sound c
box-acts x sound (packet p) = by-role (role_of rows p)
  where
    says : Replied → Type 0
    says a = Acts x (of_reply a.verdict a.place a.outcome) a.state

    by-role : (r : Role) → says (taken_as r x (header_of p).source (header_of p).serial (judged_packet rows p))
    by-role (Is w) = call-acts x sound (reply (header_of p).source (header_of p).serial w)
    by-role Other = idle-acts x sound (judged_packet rows p)

pub box_log_lem : (x : Exchanges) → Sound x → (cs : List BoxCall) → Log x (box_log x cs)
box_log_lem = calls-log box_line box_after box-acts

-- its ticks are the calls that are ticks, one by one
tick-as-called : (x : Exchanges) (c : BoxCall) → is_tick (box_line x c) ≡ calls_tick c
unfolding box_line line_of is_tick calls_tick
tick-as-called x (own (begin a)) = refl
tick-as-called x (own (reply a s w)) = refl
tick-as-called x (own tick) = refl
tick-as-called x (packet p) = refl

pub ticks-as-called : (x : Exchanges) (cs : List BoxCall) → map is_tick (box_log x cs) ≡ map calls_tick cs
unfolding logged_by
ticks-as-called x [] = refl
ticks-as-called x (c ∷ cs) = λ i. tick-as-called x c i ∷ ticks-as-called (box_after x c) cs i

-- a packet leaves the other centre alone, and is answered by what is its own centre's, as the table's own call for that reply is
box-parted : (c d : ℕ) → c < 2 → d < 2 → (c ≡ d → ⊥) → (l : List ℕ) → Parted BoxCall (box_answer c) box_after (box_spared d l) c d l
unfolding box_answer box_after box_spared taken taken_as answer_to after spared
box-parted c d u v other l =
    record {
      sound = λ x sx k. (box-acts x sx k).sound;
      address = λ x sx k. by_address x sx k;
      left = λ x sx e k q. by_left x sx e k q;
      kept = λ x y sx sy a e k q. by-kept x y sx sy a e k q;
    }
  where
    calls : Parted Call (answer_to c) after (spared d l) c d l
    calls = call-parted c d u v other l

    as-reply : List ℕ → Reply → Call
    as-reply p w = reply (header_of p).source (header_of p).serial w

    taken_so : Role → Exchanges → List ℕ → Replied
    taken_so r x p = taken_as r x (header_of p).source (header_of p).serial (judged_packet rows p)

    by_address : (x : Exchanges) → Sound x → (k : BoxCall) → address_at (box_after x k) d ≡ address_at x d
    by_address x sx (own k) = calls.address x sx k
    by_address x sx (packet p) = by-role (role_of rows p)
      where
        by-role : (r : Role) → address_at (taken_so r x p).state d ≡ address_at x d
        by-role (Is w) = calls.address x sx (as-reply p w)
        by-role Other = refl

    by_left : (x : Exchanges) → Sound x → address_at x d ≡ l → (k : BoxCall) → box_spared d l k ≡ false → Alike c (box_after x k) x
    by_left x sx e (own k) q = calls.left x sx e k q
    by_left x sx e (packet p) q = by-role (role_of rows p)
      where
        by-role : (r : Role) → Alike c (taken_so r x p).state x
        by-role (Is w) = calls.left x sx e (as-reply p w) q
        by-role Other = alike_self c x

    by-kept : (x y : Exchanges) → Sound x → Sound y → Alike c x y → address_at x d ≡ l → (k : BoxCall) → box_spared d l k ≡ true
        → (box_answer c x k ≡ box_answer c y k) × (Alike c (box_after x k) (box_after y k))
    by-kept x y sx sy a e (own k) q = calls.kept x y sx sy a e k q
    by-kept x y sx sy a e (packet p) q = by-role (role_of rows p)
      where
        shown : Replied → Answer
        shown z = to_reply z.verdict z.place z.outcome

        by-role : (r : Role) → (shown (taken_so r x p) ≡ shown (taken_so r y p)) × (Alike c (taken_so r x p).state (taken_so r y p).state)
        by-role (Is w) = calls.kept x y sx sy a e (as-reply p w) q
        by-role Other = (refl, a)

-- so over any sequence of a box's calls: leaving out one centre's leaves out their answers and changes nothing of the other's
pub box-left-out : (c d : ℕ) → c < 2 → d < 2 → (c ≡ d → ⊥) → (x : Exchanges) → Sound x → (cs : List BoxCall)
    → (spare (box_spared d (address_at x d)) cs (answers_by (box_answer c) box_after x cs)
    ≡ answers_by (box_answer c) box_after x (spare (box_spared d (address_at x d)) cs cs))
    × (own_of c (run_by box_after x cs) ≡ own_of c (run_by box_after x (spare (box_spared d (address_at x d)) cs cs)))
box-left-out c d u v other x sound cs =
    left_out BoxCall (box_answer c) box_after (box_spared d (address_at x d)) c d (address_at x d) (box-parted c d u v other (address_at x d)) x sound refl cs
