-- The hold after a call: bytes moved to its front, bytes put behind them, and zeros behind those; and a packet put to the front of a buffer
-- in one part or two. Assumes nothing.
use Prim.Native.Nat.{ℕ, zero, suc, ◌+◌, ◌-◌, ◌≤◌, ◌<◌}
use native.Mathlib.Nat.{zero-sub, suc-sub-suc, sub-zero}
use native.Mathlib.Omega.{arith}
use mathlib.Core.List.{List, ◌++◌}
use mathlib.Core.Path.{◌≡◌, refl, sym, ap, ◌∙◌}
use borrow.Author.Rules.{rules}
use lib.ListN.{length, length-take, take, drop, replicate, length-append, length-drop, replicate-append-replicate, drop_of_length-le, take-append-drop}
use lib.Seq.{drop-drop, drop-append-add, drop-append_seam, take-append_seam, take_at, take_all, length-take-le}
use Rattle.octets.specs.Parts.{put_at}
use Rattle.octets.proofs.Parts.{put_is}
use Rattle.octets.proofs.Rows.{drop-over, drop-take}
use Rattle.reading.specs.declared.Event.{Event as Coded}
use Rattle.reading.specs.declared.Event.TheVariants as coded
use Rattle.reading.specs.Events.{event_of}
use Rattle.reading.specs.Values.{told, packet_of}
use Rattle.reading.specs.Calls.{pad_to, copied}
use Rattle.reading.proofs.Pads.{pad-long}
use Rattle.receiver.specs.Shifts.{shifted}

drop-zeros : (k n : ℕ) → drop {A = ℕ} k (replicate n 0) ≡ replicate (n - k) 0
drop-zeros zero n = ap (λ (m : ℕ). replicate m 0) (sym (sub-zero n))
drop-zeros (suc k) zero = ap (λ (m : ℕ). replicate m 0) (sym (zero-sub (suc k)))
drop-zeros (suc k) (suc n) = drop-zeros k n ∙ ap (λ (m : ℕ). replicate m 0) (sym (suc-sub-suc n k))

-- bytes put to the front
put_front : (out p q : List ℕ) → p ≡ q → length q ≤ length out → put_at out 0 p ≡ copied q out
put_front out p q e h =
    let none : 0 + length q ≡ length q = omega arith in
    ap (put_at out 0) e ∙ put_is out 0 q (omega arith) ∙ ap (λ (n : ℕ). q ++ drop n out) none

-- and more behind them
put_two : (out front back q : List ℕ) → front ++ back ≡ q → length q ≤ length out → put_at (put_at out 0 front) (length front) back ≡ copied q out
put_two out front back q e h =
    let size : length front + length back ≡ length q = sym (length-append front back) ∙ ap length e in
    let rest : drop (length front + length back) (front ++ drop (length front) out) ≡ drop (length q) out =
    drop-append-add front (drop (length front) out) (length back)
    ∙ drop-drop (length back) (length front) out
    ∙ ap (λ (n : ℕ). drop n out) size in
    ap (λ (o : List ℕ). put_at o (length front) back) (put_front out front front refl (omega arith))
    ∙ put_is (front ++ drop (length front) out) (length front) back (omega (arith, length-append front (drop (length front) out), length-drop (length front) out))
    ∙ ap (λ (l : List ℕ). l ++ back ++ drop (length front + length back) (front ++ drop (length front) out)) (take_at front (drop (length front) out) (length front) refl)
    ∙ ap (λ (l : List ℕ). front ++ back ++ l) rest
    ∙ ap (λ (l : List ℕ). l ++ drop (length q) out) e

-- a packet put to the front, in its two parts
pub delivers : (e : Coded) (n : ℕ) (xs rest out front back half after : List ℕ) → e ≡ coded.Packet n → (told (event_of e)).length ≤ length out
    → rest ≡ xs → front ++ back ≡ take n rest → (place : ℕ) → place ≡ 0 → half ≡ put_at out place front → after ≡ put_at half (length front) back
    → after ≡ copied (packet_of (event_of e) xs) out
unfolding packet_of told
delivers e n xs rest out front back half after is fits left are place first one two =
    let packet : packet_of (event_of e) xs ≡ take n xs = ap (λ (q : Coded). packet_of (event_of q) xs) is in
    let size : (told (event_of e)).length ≡ n = ap (λ (q : Coded). (told (event_of q)).length) is in
    two
    ∙ ap (λ (o : List ℕ). put_at o (length front) back) (one ∙ ap (λ (k : ℕ). put_at out k front) first)
    ∙ put_two out front back (take n xs) (are ∙ ap (take n) left) (omega (arith, length-take n xs, size))
    ∙ ap (λ (l : List ℕ). copied l out) (sym packet)

-- it lies behind where it stands, whole
pub packet-at : (e : Coded) (n at m : ℕ) → e ≡ coded.Packet n → at + (told (event_of e)).length ≤ m → at + n ≤ m
unfolding told
packet-at e n at m is h = omega (arith, ap (λ (q : Coded). (told (event_of q)).length) is)

-- and none of another event
pub delivers-none : (e : Coded) (xs out : List ℕ) → ((n : ℕ) → e ≡ coded.Packet n → ⊥) → out ≡ copied (packet_of (event_of e) xs) out
unfolding packet_of told
delivers-none coded.More xs out other = refl
delivers-none coded.Noise xs out other = refl
delivers-none coded.Length xs out other = refl
delivers-none coded.End xs out other = refl
delivers-none coded.Sum xs out other = refl
delivers-none (coded.Packet n) xs out other = absurd (other n refl)

pub ruleset delivering = (rules, delivers, delivers-none, packet-at)

-- nothing is moved
module _ (row : List ℕ) (by count : ℕ) where
  pub moved_none : by ≡ 0 → row ≡ shifted row by count
  moved_none e = sym (take-append-drop count row) ∙ ap (λ (b : ℕ). shifted row b count) (sym e)

  pub moved-few : count ≡ 0 → row ≡ shifted row by count
  moved-few e = ap (λ (n : ℕ). shifted row by n) (sym e)

pub ruleset moving = (rules, moved_none, moved-few)

-- a hold whose held bytes were moved to its front from the next position on, and behind them put what follows it of the bytes taken
pub record Settling (row : List ℕ) (held next : ℕ) (taken : List ℕ) (keep : ℕ) (tail now : List ℕ) : Type 0 where
  pub few : held ≤ length row
  pub pad : row ≡ pad_to (length row) (take held row)
  pub fits : length (drop next (take held row ++ taken)) ≤ length row
  pub keeps : keep ≡ held - next
  pub from : ℕ
  pub later : from ≡ next - held
  pub gives : tail ≡ take (length taken) (drop from taken)
  pub front : List ℕ
  pub moves : front ≡ shifted row next keep
  pub puts : now ≡ put_at front keep tail

module _ {row : List ℕ} {held next : ℕ} {taken : List ℕ} {keep : ℕ} {tail o : List ℕ} (s : Settling row held next taken keep tail o) where
  abbrev rest : List ℕ
  rest = drop next (take held row ++ taken)

  -- what is left of the held bytes
  abbrev kept : List ℕ
  kept = drop next (take held row)

  held-long : length (take held row) ≡ held
  held-long = length-take-le held row s.few

  kept-long : length kept ≡ held - next
  kept-long = length-drop next (take held row) ∙ ap (λ (n : ℕ). n - next) held-long

  rest-is : rest ≡ kept ++ drop (next - held) taken
  rest-is = drop-over next (take held row) taken ∙ ap (λ (n : ℕ). kept ++ drop (next - n) taken) held-long

  tail-is : tail ≡ drop (next - held) taken
  tail-is =
      s.gives
      ∙ ap (λ (n : ℕ). take (length taken) (drop n taken)) s.later
      ∙ take_all (length taken) (drop (next - held) taken) (omega (arith, length-drop (next - held) taken))

  pub new_is : keep + length tail ≡ length rest
  new_is =
      sym (ap length rest-is ∙ length-append kept (drop (next - held) taken) ∙ omega (arith, kept-long, s.keeps, ap length tail-is))

  -- the row with its held bytes moved
  abbrev home : List ℕ
  home = kept ++ drop (held - next) row

  home-long : length home ≡ length row
  home-long = length-append kept (drop (held - next) row) ∙ omega (arith, kept-long, length-drop (held - next) row, s.few)

  home-is : s.front ≡ home
  home-is =
      s.moves
      ∙ ap (shifted row next) s.keeps
      ∙ ap (λ (l : List ℕ). l ++ drop (held - next) row) (sym (drop-take next held row))

  put_rest : o ≡ rest ++ drop (length rest) row
  put_rest =
      let size : length kept ≡ keep = kept-long ∙ sym s.keeps in
      let behind : drop (keep + length tail) home ≡ drop (length rest) row =
      ap (λ (n : ℕ). drop (n + length tail) home) (sym size)
      ∙ drop-append-add kept (drop (held - next) row) (length tail)
      ∙ drop-drop (length tail) (held - next) row
      ∙ ap (λ (n : ℕ). drop (n + length tail) row) (sym s.keeps)
      ∙ ap (λ (n : ℕ). drop n row) new_is in
      s.puts
      ∙ ap (λ (l : List ℕ). put_at l keep tail) home-is
      ∙ put_is home keep tail (omega (arith, home-long, new_is, s.fits))
      ∙ ap (λ (l : List ℕ). l ++ tail ++ drop (keep + length tail) home) (take_at kept (drop (held - next) row) keep size)
      ∙ ap (λ (l : List ℕ). kept ++ tail ++ l) behind
      ∙ ap (λ (l : List ℕ). l ++ drop (length rest) row) (ap (λ (l : List ℕ). kept ++ l) tail-is ∙ sym rest-is)

  pub settled-size : length o ≡ length row
  settled-size = ap length put_rest ∙ length-append rest (drop (length rest) row) ∙ omega (arith, length-drop (length rest) row, s.fits)

  -- behind the held bytes the row is zero
  zero-behind : (n : ℕ) → held ≤ n → drop n row ≡ replicate (length row - n) 0
  unfolding pad_to
  zero-behind n h =
      let past : length (take held row) ≤ n = omega (arith, held-long) in
      let left : length row - length (take held row) - (n - length (take held row)) ≡ length row - n = omega (arith, held-long) in
      ap (drop n) s.pad
      ∙ drop-over n (take held row) (replicate (length row - length (take held row)) 0)
      ∙ ap (λ (l : List ℕ). l ++ drop (n - length (take held row)) (replicate (length row - length (take held row)) 0)) (drop_of_length-le (take held row) past)
      ∙ drop-zeros (n - length (take held row)) (length row - length (take held row))
      ∙ ap (λ (m : ℕ). replicate m 0) left

  -- where no fewer bytes are held than before
  pub settled-long : held ≤ keep + length tail → o ≡ pad_to (length row) rest
  unfolding pad_to
  settled-long h = put_rest ∙ ap (λ (l : List ℕ). rest ++ l) (zero-behind (length rest) (omega (arith, new_is, h)))

  -- where fewer are, and the room up to where they ended is wiped
  module _ (w : List ℕ) (fewer : keep + length tail < held) (wipes : w ≡ replicate (length (take (held - (keep + length tail)) (drop (keep + length tail) o))) 0) where
    abbrev n : ℕ
    n = keep + length tail

    at-end : n ≡ length rest
    at-end = new_is

    behind : drop n o ≡ drop n row
    behind = ap (λ (m : ℕ). drop m o) at-end ∙ ap (drop (length rest)) put_rest ∙ drop-append_seam rest (drop (length rest) row) ∙ ap (λ (m : ℕ). drop m row) (sym at-end)

    zeros : w ≡ replicate (held - n) 0
    zeros =
        wipes
        ∙ ap (λ (m : ℕ). replicate m 0) (length-take-le (held - n) (drop n o) (omega (arith, length-drop n o, settled-size, s.few)))

    after : drop (held - n) (drop n o) ≡ replicate (length row - held) 0
    after =
        let place : n + (held - n) ≡ held = omega (arith, fewer) in
        ap (drop (held - n)) behind ∙ drop-drop (held - n) n row ∙ ap (λ (m : ℕ). drop m row) place ∙ zero-behind held (omega arith)

    front-is : take n o ≡ rest
    front-is = ap (λ (m : ℕ). take m o) at-end ∙ ap (take (length rest)) put_rest ∙ take-append_seam rest (drop (length rest) row)

    pub settled-short : take n o ++ (w ++ drop (held - n) (drop n o)) ≡ pad_to (length row) rest
    unfolding pad_to
    settled-short =
        let all : held - n + (length row - held) ≡ length row - length rest = omega (arith, fewer, at-end, s.few) in
        ap (λ (l : List ℕ). l ++ (w ++ drop (held - n) (drop n o))) front-is
        ∙ ap (λ (l : List ℕ). rest ++ (l ++ drop (held - n) (drop n o))) zeros
        ∙ ap (λ (l : List ℕ). rest ++ (replicate (held - n) 0 ++ l)) after
        ∙ ap (λ (l : List ℕ). rest ++ l) (replicate-append-replicate (held - n) (length row - held) 0 ∙ ap (λ (m : ℕ). replicate m 0) all)

    pub short-long : length (take n o ++ (w ++ drop (held - n) (drop n o))) ≡ length row
    short-long = ap length settled-short ∙ pad-long (length row) rest s.fits

pub ruleset settles = (rules, new_is, settled-size, settled-long, settled-short, short-long)
