-- The place that a reply fits, in places that keep the rules: the one of the centre that has the serial in the row and awaits the reply.
-- Assumes nothing.
use Prim.Native.Nat.{ℕ, ◌+◌, ◌*◌, ◌≤◌, ◌<◌}
use native.Mathlib.Omega.{arith}
use mathlib.Core.Bool.{Bool, true, false, ◌&&◌, cond, and_comm, false≢true}
use mathlib.Core.List.{List}
use mathlib.Core.Path.{◌≡◌, refl, sym, ap, ◌∙◌}
use borrow.Author.Tests.{eq-eqb, ne_eqb, le-leb}
use lib.Dec.{eqb}
use lib.ListN.{get_or}
use Rattle.std.specs.Prelude.{Ok, Err}
use Rattle.octets.proofs.Flags.{by-test}
use Rattle.place.specs.declared.Place.{Place}
use Rattle.place.specs.declared.Reply.{Reply}
use Rattle.place.specs.Rules.{is_open}
use Rattle.place.specs.Steps.{awaits, fits}
use Rattle.place.proofs.Kept.{awaits-open}
use Rattle.places.specs.declared.Unfound.{Unfound}
use Rattle.places.specs.declared.Unfound.TheVariants.{Broken, Outside, Nothing}
use Rattle.places.specs.Rows.{place_at, fits_at, fitting, all_sound, reached}
use Rattle.places.specs.Held.{NONE, held_by, Held}
use Rattle.places.proofs.Loops.{Passed, passed-here, passed-on, passed-all}
use Rattle.places.proofs.Sought.{when-broken, when-outside, when-nothing, when-at}

-- a reply fits a place that has its serial in the row and awaits it, and no other
pub fits-in-row : (ps : List Place) (row : List ℕ) (s k : ℕ) (w : Reply) → Held row ps 0 → k < 16 → s < 65536
    → fits_at ps s w k ≡ eqb (get_or row k 0) s && awaits (place_at ps k).mode w
unfolding fits
fits-in-row ps row s k w held h small =
    by-test (is_open p.mode)
    (λ o.
    let own : get_or row k 0 ≡ p.serial = own_row k h ∙ ap (λ (b : Bool). cond b p.serial NONE) o in
    and_comm (awaits p.mode w) (eqb p.serial s) ∙ ap (λ (n : ℕ). eqb n s && awaits p.mode w) (sym own))
    (λ o.
    let none : get_or row k 0 ≡ 65536 = own_row k h ∙ ap (λ (b : Bool). cond b p.serial NONE) o in
    let other : eqb (get_or row k 0) s ≡ false = ne_eqb (get_or row k 0) s (λ q. omega (arith, none, q)) in
    let idle : awaits p.mode w ≡ false = by-test (awaits p.mode w) (λ a. absurd (false≢true (sym o ∙ awaits-open p.mode w a))) (λ a. a) in
    simp (idle, other))
  where
    p : Place
    p = place_at ps k

    own_row : (k : ℕ) → k < 16 → get_or row k 0 ≡ held_by (place_at ps k)
    own_row k h = held k h ∙ ap (λ (b : Bool). cond b (held_by (place_at ps k)) NONE) (le-leb 0 k (omega arith))

-- what a reply finds
module _ (t r : ℕ) (ps : List Place) (c s : ℕ) (w : Reply) where
  pub reached-broken : (e : Unfound) → (e ≡ Broken) × (all_sound t r ps ≡ false) → Err e ≡ reached t r ps c s w
  reached-broken e b = ap (λ (x : Unfound). Err x) b.0 ∙ when-broken t r ps c _ _ b.1

  module _ (sound : all_sound t r ps ≡ true) where
    pub reached-outside : 2 ≤ c → Err Outside ≡ reached t r ps c s w
    reached-outside h = when-outside t r ps c _ _ sound h

    module _ (inside : c < 2) (k : ℕ) (l : Passed (fits_at ps s w) (c * 8) k) where
      pub reached-none : c * 8 + 8 ≤ k → Err Nothing ≡ reached t r ps c s w
      unfolding fitting
      reached-none h = when-nothing t r ps c _ _ sound inside (omega (arith, passed-all (fits_at ps s w) (c * 8) k l h, h))

      module _ (row : List ℕ) (held : Held row ps 0) (small : s < 65536) (h : k < c * 8 + 8) where
        pub reached-at : (x : ℕ) → get_or row k 0 ≡ x → x ≡ s → (b : Bool) → b ≡ awaits (place_at ps k).mode w → b ≡ true → Ok (k, s) ≡ reached t r ps c s w
        unfolding fitting
        reached-at x e same b told y =
            let fit : fits_at ps s w k ≡ true = fits-in-row ps row s k w held (omega arith) small ∙ simp (eq-eqb (get_or row k 0) s (e ∙ same), sym told ∙ y) in
            let is = passed-here (fits_at ps s w) (c * 8) k l h fit in
            ap (λ (j : ℕ). Ok (j, s)) is ∙ when-at t r ps c _ _ sound inside (omega (arith, is, h))

        -- where another serial stands, or the place does not await it, the search goes on
        pub reach-other : (x : ℕ) → (get_or row k 0 ≡ x → ⊥) → x ≡ s → Passed (fits_at ps s w) (c * 8) (k + 1)
        reach-other x n same =
            passed-on (fits_at ps s w) (c * 8) k l h
            (fits-in-row ps row s k w held (omega arith) small ∙ simp (ne_eqb (get_or row k 0) s (λ q. n (q ∙ sym same))))

        pub reach-idle : (b : Bool) → b ≡ awaits (place_at ps k).mode w → b ≡ false → Passed (fits_at ps s w) (c * 8) (k + 1)
        reach-idle b told n =
            passed-on (fits_at ps s w) (c * 8) k l h
            (fits-in-row ps row s k w held (omega arith) small ∙ idle (eqb (get_or row k 0) s) (awaits (place_at ps k).mode w) (sym told ∙ n))
          where
            idle : (a b : Bool) → b ≡ false → a && b ≡ false
            idle true b e = e
            idle false b e = refl
