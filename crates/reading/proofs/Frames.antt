-- The reading and the judge of a frame say the same: each PACKET that is heard passes the judge's frame tests, along the definition of what
-- stands at a position; and a row of bytes that passes them is read as one PACKET, whatever follows it. Assumes nothing.
use Prim.Native.Nat.{ℕ, zero, suc, ◌-◌, ◌≤◌}
use native.Mathlib.Omega.{arith}
use mathlib.Core.Bool.{Bool, true, false, cond}
use mathlib.Core.List.Memᴰ
use mathlib.Core.List.{List, [], ◌∷◌, ◌++◌, append-nil, Memᴰ}
use mathlib.Core.Logic.{⊎_elim}
use mathlib.Core.Path.{◌≡◌, refl, sym, ap, subst, ◌∙◌}
use borrow.Author.Tests.{le-leb, eq-eqb, leb-true, eqb-true}
use lib.Dec.{leb, eqb}
use lib.ListN.{length, get_or}
use lib.Seq.{take_at, drop_at, length-take-le}
use Rattle.frame.specs.Frame.{packet_length, unit_length, ended, summed, frame_tests}
use Rattle.frame.proofs.Framed.{Framed, good-framed, framed-good, framed-front}
use Rattle.verdict.specs.Orders.{in_order, good, is_good}
use Rattle.reading.specs.Events.{Event, Standing}
use Rattle.reading.specs.Events.Event.{More, Noise, Length, End, Sum, Packet, Refused}
use Rattle.reading.specs.Events.Standing.{Wait, Skip, Hit}
use Rattle.reading.specs.Values.{PACKET, told, packet_of}
use Rattle.reading.specs.Standing.{when_there, judged_frame, started, stands}
use Rattle.reading.specs.Finding.{noise_at, Heard, after, read_on, reading}
use Rattle.reading.proofs.Stands.{there-any, choice-any, stays}
use Rattle.reading.proofs.Found.{reading-pass}

-- the bytes that an event brings: of PACKET a frame of its length; neither the wish for more nor a refusal is heard
abbrev Brings : ℕ → Event → List ℕ → Type 0
Brings M More p = ⊥
Brings M Noise p = Unit
Brings M Length p = Unit
Brings M End p = Unit
Brings M Sum p = Unit
Brings M (Packet n) p = (length p ≡ n) × Framed M p
Brings M (Refused n) p = ⊥

abbrev Stood : ℕ → List ℕ → Standing → Type 0
Stood M xs Wait = Unit
Stood M xs (Skip k) = Unit
Stood M xs (Hit e k p) = Brings M e (packet_of e xs)

-- where PACKET stands at the head of a list
stood : (M : ℕ) (xs : List ℕ) → Stood M xs (stands M xs)
unfolding stands started judged_frame packet_of told
stood M xs =
    let P = Stood M xs in
    let l = unit_length xs in
    there-any P 1 xs _ (λ _. tt)
    (λ _. choice-any P (eqb (get_or xs 0 0) 64) _ _
    (λ a. there-any P 2 xs _ (λ _. tt)
    (λ _. choice-any P (eqb (get_or xs 1 0) 64) _ _
    (λ b. there-any P 26 xs _ (λ _. tt)
    (λ _. choice-any P (leb l M) _ _
    (λ few. there-any P (packet_length l) xs _ (λ _. tt)
    (λ whole. choice-any P (ended l xs) _ _
    (λ e. choice-any P (summed l xs) _ _
    (λ s.
    (length-take-le (packet_length l) xs whole, framed-front M l xs (eqb-true _ 64 a) (eqb-true _ 64 b) refl (leb-true l M few) whole e s))
    (λ _. tt)) (λ _. tt))) (λ _. tt))) (λ _. tt))) (λ _. tt))

-- and wherever it is heard
abbrev AllBring : ℕ → List Heard → Type 0
AllBring M [] = Unit
AllBring M (h ∷ hs) = Brings M h.event h.packet × AllBring M hs

heard-bring : (M s k : ℕ) (xs : List ℕ) → AllBring M (reading M s k xs).heard
unfolding reading read_on
heard-bring M s zero [] = tt
heard-bring M s (suc k) [] = tt
heard-bring M s (suc k) (x ∷ xs) = heard-bring M s k xs
heard-bring M s zero (x ∷ xs) = by-case (stands M (x ∷ xs)) (stood M (x ∷ xs)) (λ t j. heard-bring M t j xs)
  where
    by-test : (t : Bool) → ((u j : ℕ) → AllBring M (reading M u j xs).heard)
        → AllBring M (cond t (after (record { event = Noise; skipped = noise_at; packet = [] }) (reading M 0 0 xs)) (reading M (suc s) 0 xs)).heard
    by-test true ih = (tt, ih 0 0)
    by-test false ih = ih (suc s) 0

    by-case : (v : Standing) → Stood M (x ∷ xs) v → ((u j : ℕ) → AllBring M (reading M u j xs).heard)
        → AllBring M (read_on v s (x ∷ xs) (λ t j. reading M t j xs)).heard
    by-case Wait b ih = tt
    by-case (Skip k) b ih = by-test (eqb (suc s) noise_at) ih
    by-case (Hit e k p) b ih = (b, ih 0 (p - 1))

one-brings : (M : ℕ) (h : Heard) (hs : List Heard) → AllBring M hs → Memᴰ h hs → Brings M h.event h.packet
one-brings M h [] a m = absurd (Memᴰ.not-nil m)
one-brings M h (g ∷ hs) a m =
    ⊎_elim
    (λ (e : h ≡ g). subst (λ (w : Heard). Brings M w.event w.packet) (sym e) a.0)
    (λ (m : Memᴰ h hs). one-brings M h hs a.1 m)
    (Memᴰ.cases_cons m)

-- each PACKET that is heard in a stream has its length and passes the judge's frame tests
pub heard-framed : (M : ℕ) (stream : List ℕ) (h : Heard) → Memᴰ h (reading M 0 0 stream).heard → (n : ℕ) → h.event ≡ Packet n
    → (length h.packet ≡ n) × (in_order (frame_tests M h.packet) good ≡ good)
heard-framed M stream h m n e =
    let b : Brings M (Packet n) h.packet =
    subst (λ (w : Event). Brings M w h.packet) e (one-brings M h (reading M 0 0 stream).heard (heard-bring M 0 0 stream) m) in
    (b.0, framed-good M h.packet b.1)

-- nothing that is heard is a refusal
pub heard-taken : (M : ℕ) (stream : List ℕ) (h : Heard) → Memᴰ h (reading M 0 0 stream).heard → (n : ℕ) → h.event ≡ Refused n → ⊥
heard-taken M stream h m n e =
    subst (λ (w : Event). Brings M w h.packet) e (one-brings M h (reading M 0 0 stream).heard (heard-bring M 0 0 stream) m)

-- and so does each that is heard by its number
pub number-framed : (M : ℕ) (stream : List ℕ) (h : Heard) → Memᴰ h (reading M 0 0 stream).heard → (told h.event).number ≡ PACKET
    → (length h.packet ≡ (told h.event).length) × (in_order (frame_tests M h.packet) good ≡ good)
unfolding told
number-framed M stream h m e =
    let b = by-event h.event (one-brings M h (reading M 0 0 stream).heard (heard-bring M 0 0 stream) m) e in
    (b.0, framed-good M h.packet b.1)
  where
    by-event : (v : Event) → Brings M v h.packet → (told v).number ≡ PACKET → (length h.packet ≡ (told v).length) × Framed M h.packet
    by-event More b k = absurd b
    by-event Noise b k = absurd (omega arith)
    by-event Length b k = absurd (omega arith)
    by-event End b k = absurd (omega arith)
    by-event Sum b k = absurd (omega arith)
    by-event (Packet n) b k = b
    by-event (Refused n) b k = absurd b

-- where a frame stands at the head of a list, PACKET does
framed-stands : (M : ℕ) (p : List ℕ) → Framed M p → stands M p ≡ Hit (Packet (length p)) (length p) (length p)
unfolding stands started judged_frame when_there
framed-stands M p f =
    let l = unit_length p in
    let n = length p in
    let long : n ≡ packet_length l = f.long in
    let enough : (k : ℕ) → k ≤ packet_length l → leb k n ≡ true = λ k h. le-leb k n (omega arith) in
    simp (enough 1 (omega arith), eq-eqb _ 64 f.first, enough 2 (omega arith), eq-eqb _ 64 f.second, enough 26 (omega arith))
    (simp (le-leb l M f.few, enough (packet_length l) (omega arith), f.ends, f.sums) (ap (λ (k : ℕ). Hit (Packet k) k k) (sym long)))

abbrev packet_heard : ℕ → List ℕ → Heard
packet_heard s p = record { event = Packet (length p); skipped = s; packet = p }

-- it is heard, and the stream is read on behind it
framed-read : (M s : ℕ) (p ys : List ℕ) → Framed M p → reading M s 0 (p ++ ys) ≡ after (packet_heard s p) (reading M 0 0 ys)
unfolding reading read_on packet_of told
framed-read M s [] ys f = absurd (omega (arith, f.long))
framed-read M s (x ∷ xs) ys f =
    let here : stands M (x ∷ xs ++ ys) ≡ Hit (Packet (suc (length xs))) (suc (length xs)) (suc (length xs)) =
    stays M (x ∷ xs) ys _ (framed-stands M (x ∷ xs) f) refl in
    let less : suc (length xs) - 1 ≡ length xs = omega arith in
    rw (here, less, reading-pass M 0 (length xs) (xs ++ ys), drop_at xs ys (length xs) refl)
    (ap (λ (q : List ℕ). after (record { event = Packet (suc (length xs)); skipped = s; packet = q }) (reading M 0 0 ys))
    (take_at (x ∷ xs) ys (suc (length xs)) refl))

-- a row of bytes that passes the judge's frame tests, read alone by a fresh receiver, is one PACKET and nothing else
pub framed-heard : (M : ℕ) (p : List ℕ) → is_good (in_order (frame_tests M p) good) ≡ true
    → reading M 0 0 p ≡ record { heard = packet_heard 0 p ∷ []; held = []; skipped = 0 }
unfolding reading
framed-heard M p g = ap (reading M 0 0) (sym (append-nil p)) ∙ framed-read M 0 p [] (good-framed M p g)
