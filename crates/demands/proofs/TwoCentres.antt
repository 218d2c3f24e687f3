-- "Replies from one, and beginnings for it, alter no place, serial or answer of the other; a tick serves both" (document 02, Q-11), over any sequence of
-- calls from a fresh table that was not refused: the calls are begin-and-write, replies, packets given as their bytes, and ticks, refused ones among them.
-- Assumes nothing.
use Prim.Native.Nat.{ℕ, ◌≤◌, ◌<◌}
use mathlib.Core.Bool.{true, false}
use mathlib.Core.List.{List}
use mathlib.Core.Path.{◌≡◌}
use Rattle.exchange.specs.declared.Exchanges.{Exchanges}
use Rattle.exchange.specs.Calls.{Call, after, Sound}
use Rattle.exchange.specs.Centres.{own_of, answers_by, run_by, spared, spare}
use Rattle.exchange.specs.Table.{centre_at, address_at, made}
use Rattle.exchange.proofs.Centres.{other-leaves}
use Rattle.exchange.proofs.Kept.{made-sound}
use Rattle.places.specs.Rows.{place_at, low_of, end_of}
use Rattle.taking.specs.Boxes.{BoxCall, box_after, box_answer, box_spared}
use Rattle.taking.proofs.Boxes.{box-left-out}
use Rattle.verdict.specs.Orders.{is_good}

-- c and d are the two centres, in either order
module _ (c d : ℕ) (one : c < 2) (other : d < 2) (apart : c ≡ d → ⊥) where
  -- leaving out all calls of centre d leaves out their answers, and changes no answer to any other call, nor what ticks tell of c's eight places, nor, at
  -- the end, these places, c's address and its next serial
  pub undisturbed : (t r : ℕ) (a b : List ℕ) → is_good (made t r a b).verdict ≡ true → (cs : List BoxCall)
      → (spare (box_spared d (address_at (made t r a b).state d)) cs (answers_by (box_answer c) box_after (made t r a b).state cs)
      ≡ answers_by (box_answer c) box_after (made t r a b).state (spare (box_spared d (address_at (made t r a b).state d)) cs cs))
      × (own_of c (run_by box_after (made t r a b).state cs)
      ≡ own_of c (run_by box_after (made t r a b).state (spare (box_spared d (address_at (made t r a b).state d)) cs cs)))
  undisturbed t r a b fresh cs = box-left-out c d one other apart (made t r a b).state (made-sound t r a b fresh) cs

  -- a single call of centre d leaves c's places, address and next serial as they were
  pub call-leaves-other : (x : Exchanges) → Sound x → (k : Call) → spared d (address_at x d) k ≡ false
      → (centre_at (after x k) c ≡ centre_at x c) × ((j : ℕ) → low_of c ≤ j → j < end_of c → place_at (after x k).places j ≡ place_at x.places j)
  call-leaves-other x sound k e = let a = other-leaves c d apart x sound one other k e in (a.centre, a.places)
