-- What differs from release 1.2, where one centre had all sixteen places, 0 up to 16, and no address was looked at: with no exchange of the second centre
-- open the rules, the place and serial of a beginning and the place that a reply fits are those of 1.2, but that a ninth exchange is FULL and that
-- a reply counts only from the centre's address. By the searches over both ranges. Assumes nothing.
use Prim.Native.Nat.{ℕ, ◌≤◌, ◌<◌}
use native.Mathlib.Omega.{arith}
use mathlib.Core.Bool.{true, false, not, false≢true, true≢false}
use mathlib.Core.List.{List}
use mathlib.Core.Path.{◌≡◌, sym, ap, ◌∙◌}
use borrow.Author.Tests.{ltb-true, ltb-false}
use lib.Dec.{ltb}
use Rattle.octets.specs.Searches.{first_fit, any_fits}
use Rattle.octets.proofs.Flags.{by-test, both-or-none}
use Rattle.octets.proofs.Searches.{first_to, first_fits, first-none, first_absent, first-is, found-there}
use Rattle.place.specs.declared.Place.{Place}
use Rattle.place.specs.declared.Reply.{Reply}
use Rattle.place.specs.Rules.{free, is_open, holds}
use Rattle.place.proofs.Kept.{fits-holds, free-holds}
use Rattle.places.specs.Rows.{place_at, free_at, holds_at, fits_at, lowest_free, is_open_as, unopened, upward, serial_for, fitting, are_sound}
use Rattle.places.proofs.Rules.{each_keep, apart-once}
use Rattle.places.proofs.Serials.{serial-unopened}
use Rattle.exchange.specs.declared.Exchanges.{Exchanges}
use Rattle.exchange.specs.Calls.{Sound}
use Rattle.exchange.specs.Table.{next_at, lowest_of, serial_of, fitting_of}
use Rattle.exchange.proofs.Kept.{rules-of}

-- the second centre's places are free
module _ (x : Exchanges) (sound : Sound x) (none : (k : ℕ) → 8 ≤ k → k < 16 → place_at x.places k ≡ free) where
  abbrev ps : List Place
  ps = x.places

  unheld : (s k : ℕ) → 8 ≤ k → k < 16 → holds_at ps s k ≡ false
  unheld s k l h = ap (holds s) (none k l h) ∙ free-holds s

  low : (s k : ℕ) → k < 16 → holds_at ps s k ≡ true → k < 8
  low s k h e = by-test (ltb k 8) (λ t. ltb-true k 8 t) (λ f. absurd (false≢true (sym (unheld s k (ltb-false k 8 f) h) ∙ e)))

  -- the rules of 1.2 are kept
  pub rules-as-before : are_sound x.timeout x.resends ps 0 16 ≡ true
  unfolding are_sound
  rules-as-before =
      let r = rules-of x sound.kept in
      let keep = each_keep x.timeout x.resends ps 0 16 (λ k l h. r.keeping k h) in
      let once = apart-once ps 0 16 (λ s j k l u v e.
      by-test (ltb k 8)
      (λ t. r.apart 0 (omega arith) s j k l u (ltb-true k 8 t) e)
      (λ f. unheld s k (ltb-false k 8 f) v)) in
      simp (keep, once)

  -- a serial is open in both or in neither
  pub open-as-before : (s : ℕ) → is_open_as ps 0 16 s ≡ is_open_as ps 0 8 s
  unfolding is_open_as
  open-as-before s =
      both-or-none (any_fits (holds_at ps s) 0 16) (any_fits (holds_at ps s) 0 8)
      (found-there (holds_at ps s) (holds_at ps s) 0 16 0 8 (λ k l h e. (l, low s k h e, e)))
      (found-there (holds_at ps s) (holds_at ps s) 0 8 0 16 (λ k l h e. (l, omega arith, e)))

  -- the serial of a beginning
  pub serial-as-before : serial_for ps 0 16 (next_at x 0) ≡ serial_of x 0
  unfolding serial_for
  serial-as-before =
      ap (upward (next_at x 0))
      (first-is (unopened ps 0 16 (next_at x 0)) 0 16 n (omega arith) (omega (arith, few))
      (ap not (open-as-before (upward (next_at x 0) n)) ∙ ap not (serial-unopened ps 0 8 (next_at x 0) (omega arith)))
      (λ j l h. ap not (open-as-before (upward (next_at x 0) j)) ∙ first-none (unopened ps 0 8 (next_at x 0)) 0 8 j l h))
    where
      n : ℕ
      n = first_fit (unopened ps 0 8 (next_at x 0)) 0 8

      few : n ≤ 8
      few = first_to (unopened ps 0 8 (next_at x 0)) 0 8

  -- its place, where one of the first centre's is free
  pub place-as-before : lowest_of x 0 < 8 → lowest_free ps 0 16 ≡ lowest_of x 0
  unfolding lowest_free
  place-as-before h =
      first-is (free_at ps) 0 16 (lowest_of x 0) (omega arith) (omega (arith, h)) (first_fits (free_at ps) 0 8 h) (λ j l u. first-none (free_at ps) 0 8 j l u)

  -- where its eight are open 1.2 took place 8, which is now FULL
  pub ninth-before : 8 ≤ lowest_of x 0 → lowest_free ps 0 16 ≡ 8
  unfolding lowest_free is_open
  ninth-before h =
      first-is (free_at ps) 0 16 8 (omega arith) (omega arith) (ap (λ (p : Place). not (is_open p.mode)) (none 8 (omega arith) (omega arith)))
      (λ j l u. first-none (free_at ps) 0 8 j l (omega (arith, u, h)))

  -- the place that a reply fits: that of a reply from the first centre's address
  pub reply-as-before : (s : ℕ) (w : Reply) → fitting_of x 0 s w < 8 → fitting ps 0 16 s w ≡ fitting_of x 0 s w
  unfolding fitting
  reply-as-before s w h =
      first-is (fits_at ps s w) 0 16 (fitting_of x 0 s w) (omega arith) (omega (arith, h)) (first_fits (fits_at ps s w) 0 8 h)
      (λ j l u. first-none (fits_at ps s w) 0 8 j l u)

  pub stray-as-before : (s : ℕ) (w : Reply) → 8 ≤ fitting_of x 0 s w → fitting ps 0 16 s w ≡ 16
  unfolding fitting
  stray-as-before s w h =
      first_absent (fits_at ps s w) 0 16
      (λ j l u.
      by-test (fits_at ps s w j)
      (λ e.
      let near = low s j u (fits-holds s w (place_at ps j) e) in
      absurd (true≢false (sym e ∙ first-none (fits_at ps s w) 0 8 j l (omega (arith, near, h)))))
      (λ e. e))
