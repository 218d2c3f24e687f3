-- The rules of a row of places as facts about each place, and what keeps them: fewer serials open, and one that was not open opened.
-- Assumes nothing.
use Prim.Native.Nat.{ℕ, ◌+◌, ◌-◌, ◌≤◌, ◌<◌}
use native.Mathlib.Omega.{arith}
use mathlib.Core.Bool.{Bool, true, false, not, ◌&&◌, true≢false, and-eq-true_iff}
use mathlib.Core.List.{List}
use mathlib.Core.Logic.{◌⊎◌, inl, inr}
use mathlib.Core.Path.{◌≡◌, refl, sym, ap, subst, subst⁻¹, ◌∙◌}
use borrow.Author.Tests.{not-true, not-false, eqb-true, eqb-false}
use lib.Dec.{eqb}
use lib.ListN.{length, set}
use lib.Seq.{get_or-set_same, get_or-set_other}
use Rattle.octets.specs.Searches.{any_fits}
use Rattle.octets.proofs.Searches.{any_none, none-fits, all_fit_lem}
use Rattle.place.specs.declared.Place.{Place}
use Rattle.place.specs.Rules.{opened, free, is_open, holds}
use Rattle.place.proofs.Kept.{holds-is, open-holds}
use Rattle.places.specs.Rows.{place_at, holds_at, keeps_at, is_open_as, double_at, twice, all_keep, are_sound, low_of, end_of, owner_of, all_sound}

-- every place keeps the rules for a place
module _ (t r : ℕ) (ps : List Place) (from to : ℕ) where
  abbrev pub Keeping : Type 0
  Keeping = (k : ℕ) → from ≤ k → k < to → keeps_at t r ps k ≡ true

  pub keep-each : all_keep t r ps from to ≡ true → Keeping
  unfolding all_keep
  keep-each a k l h =
      not-false (keeps_at t r ps k)
      (any_none (λ (j : ℕ). not (keeps_at t r ps j)) from (to - from) k (not-true (any_fits (λ (j : ℕ). not (keeps_at t r ps j)) from (to - from)) a) l (omega arith))

  pub each_keep : Keeping → all_keep t r ps from to ≡ true
  unfolding all_keep
  each_keep h =
      ap not (none-fits (λ (j : ℕ). not (keeps_at t r ps j)) from (to - from) (λ k l u. ap not (h k l (omega arith))))

-- no two places are open under one serial
module _ (ps : List Place) (from to : ℕ) where
  abbrev pub Apart : Type 0
  Apart = (s j k : ℕ) → from ≤ j → j < k → k < to → holds_at ps s j ≡ true → holds_at ps s k ≡ false

  pub unheld : (s : ℕ) → is_open_as ps from to s ≡ false → (k : ℕ) → from ≤ k → k < to → holds_at ps s k ≡ false
  unfolding is_open_as
  unheld s e k l h = any_none (holds_at ps s) from (to - from) k e l (omega arith)

pub once-apart : (ps : List Place) (from to : ℕ) → twice ps from to ≡ false → Apart ps from to
unfolding twice
once-apart ps from to e s j k l u v h =
    let o = holds-is s (place_at ps j) h in
    let d : double_at ps to j ≡ false = any_none (double_at ps to) from (to - from) j e l (omega arith) in
    let n : is_open_as ps (j + 1) to (place_at ps j).serial ≡ false = simp o.0 at d in
    subst (λ (x : ℕ). holds_at ps x k ≡ false) o.1 (unheld ps (j + 1) to (place_at ps j).serial n k (omega arith) v)

pub apart-once : (ps : List Place) (from to : ℕ) → Apart ps from to → twice ps from to ≡ false
unfolding twice is_open_as
apart-once ps from to a =
    none-fits (double_at ps to) from (to - from)
    (λ j l u. by-test j l (omega arith) (is_open (place_at ps j).mode) refl)
  where
    by-test : (j : ℕ) → from ≤ j → j < to → (o : Bool) → is_open (place_at ps j).mode ≡ o
        → o && any_fits (holds_at ps (place_at ps j).serial) (j + 1) (to - (j + 1)) ≡ false
    by-test j l u false e = refl
    by-test j l u true e =
        none-fits (holds_at ps (place_at ps j).serial) (j + 1) (to - (j + 1))
        (λ k m v. a (place_at ps j).serial j k l (omega arith) (omega arith) (open-holds (place_at ps j) e))

-- what is open under a serial after was so before: no two open under one serial
pub apart-fewer : (ps qs : List Place) (from to : ℕ) → ((s k : ℕ) → from ≤ k → k < to → holds_at qs s k ≡ true → holds_at ps s k ≡ true)
    → Apart ps from to → Apart qs from to
apart-fewer ps qs from to fewer a s j k l u v h = by-test (holds_at qs s k) refl
  where
    by-test : (b : Bool) → holds_at qs s k ≡ b → b ≡ false
    by-test false q = refl
    by-test true q = absurd (true≢false (sym (fewer s k (omega arith) v q) ∙ a s j k l u v (fewer s j l (omega arith) h)))

-- one place changed: itself, and the others
module _ (ps : List Place) (at : ℕ) (p : Place) where
  pub changed : at < length ps → place_at (set ps at p) at ≡ p
  changed h = get_or-set_same ps at p free h

  pub unchanged : (k : ℕ) → (k ≡ at → ⊥) → place_at (set ps at p) k ≡ place_at ps k
  unchanged k h = get_or-set_other ps at k p free h

  -- what holds of the changed place and of the others holds of every place
  pub each-place : (P : ℕ → Place → Type 0) → at < length ps → P at p → ((k : ℕ) → P k (place_at ps k)) → (k : ℕ) → P k (place_at (set ps at p) k)
  each-place P h new old k = by-test (eqb k at) refl
    where
      by-test : (b : Bool) → eqb k at ≡ b → P k (place_at (set ps at p) k)
      by-test true e =
          let same = eqb-true k at e in
          subst⁻¹ (λ (i : ℕ). P i (place_at (set ps at p) i)) same (subst⁻¹ (P at) (changed h) new)
      by-test false e = subst⁻¹ (P k) (unchanged k (eqb-false k at e)) (old k)

-- a serial that was not open, opened
module _ (ps : List Place) (from to at s : ℕ) (m : ℕ) where
  opened-holds : at < length ps → (x k : ℕ) → holds_at (set ps at (opened s m)) x k ≡ true → ((k ≡ at) × (s ≡ x)) ⊎ (holds_at ps x k ≡ true)
  opened-holds h x =
      each-place ps at (opened s m) (λ (k : ℕ) (p : Place). holds x p ≡ true → ((k ≡ at) × (s ≡ x)) ⊎ (holds_at ps x k ≡ true)) h
      (λ e. inl (refl, (holds-is x (opened s m) e).1))
      (λ k e. inr e)

  pub apart-opened : at < length ps → is_open_as ps from to s ≡ false → Apart ps from to → Apart (set ps at (opened s m)) from to
  apart-opened h none a x j k l u v e = by-test (holds_at (set ps at (opened s m)) x k) refl
    where
      not-held : (i : ℕ) → from ≤ i → i < to → s ≡ x → holds_at ps x i ≡ true → ⊥
      not-held i l u q y =
          true≢false (sym y ∙ subst (λ (z : ℕ). holds_at ps z i ≡ false) q (unheld ps from to s none i l u))

      clash : ((j ≡ at) × (s ≡ x)) ⊎ (holds_at ps x j ≡ true) → ((k ≡ at) × (s ≡ x)) ⊎ (holds_at ps x k ≡ true) → ⊥
      clash (inl y) (inl z) = omega (arith, y.0, z.0)
      clash (inl y) (inr z) = not-held k (omega arith) v y.1 z
      clash (inr y) (inl z) = not-held j l (omega arith) z.1 y
      clash (inr y) (inr z) = true≢false (sym z ∙ a x j k l u v y)

      by-test : (b : Bool) → holds_at (set ps at (opened s m)) x k ≡ b → b ≡ false
      by-test false q = refl
      by-test true q = absurd (clash (opened-holds h x j e) (opened-holds h x k q))

-- the rules of each centre's places
module _ (t r : ℕ) (ps : List Place) where
  pub centre-sound : all_sound t r ps ≡ true → (c : ℕ) → c < 2 → are_sound t r ps (low_of c) (end_of c) ≡ true
  unfolding all_sound
  centre-sound a c h = all_fit_lem (λ (d : ℕ). are_sound t r ps (low_of d) (end_of d)) 2 c a h

  pub sound-keeps : all_sound t r ps ≡ true → (k : ℕ) → k < 16 → keeps_at t r ps k ≡ true
  unfolding are_sound
  sound-keeps a k h =
      let c = owner_of k in
      let s = centre-sound a c (omega arith) in
      keep-each t r ps (low_of c) (end_of c) ((and-eq-true_iff (all_keep t r ps (low_of c) (end_of c)) (not (twice ps (low_of c) (end_of c)))).0 s).0 k
      (omega arith) (omega arith)

  -- "one serial twice within one centre", not so
  pub sound-once : all_sound t r ps ≡ true → (c : ℕ) → c < 2 → twice ps (low_of c) (end_of c) ≡ false
  unfolding are_sound
  sound-once a c h =
      not-true (twice ps (low_of c) (end_of c))
      ((and-eq-true_iff (all_keep t r ps (low_of c) (end_of c)) (not (twice ps (low_of c) (end_of c)))).0 (centre-sound a c h)).1

  pub sound-single : all_sound t r ps ≡ true → (k : ℕ) → k < 16 → double_at ps (end_of (owner_of k)) k ≡ false
  unfolding twice
  sound-single a k h =
      let c = owner_of k in
      any_none (double_at ps (end_of c)) (low_of c) (end_of c - low_of c) k (sound-once a c (omega arith)) (omega arith) (omega arith)

  -- of both where no place breaks them
  pub both-sound : ((c : ℕ) → c < 2 → (Keeping t r ps (low_of c) (end_of c)) × (twice ps (low_of c) (end_of c) ≡ false)) → all_sound t r ps ≡ true
  unfolding all_sound are_sound
  both-sound each =
      ap not
      (none-fits (λ (c : ℕ). not (are_sound t r ps (low_of c) (end_of c))) 0 2
      (λ c l h.
      let k = each_keep t r ps (low_of c) (end_of c) (each c h).0 in
      simp (k, (each c h).1)))

  pub each-sound : ((k : ℕ) → k < 16 → keeps_at t r ps k ≡ true) → ((k : ℕ) → k < 16 → double_at ps (end_of (owner_of k)) k ≡ false) → all_sound t r ps ≡ true
  unfolding twice
  each-sound keep single =
      both-sound
      (λ c h. (
        λ k l u. keep k (omega arith),
        none-fits (double_at ps (end_of c)) (low_of c) (end_of c - low_of c)
            (λ k l u.
            let own : owner_of k ≡ c = omega arith in
            subst (λ (d : ℕ). double_at ps (end_of d) k ≡ false) own (single k (omega arith))),
      ))
