-- What a search over a centre's places answers, by whether the places keep the rules, there is such a centre and the search ran out, and what its answer
-- tells of these. Assumes nothing.
use Prim.Native.Nat.{ℕ, ◌≤◌, ◌<◌}
use native.Mathlib.Omega.{arith}
use mathlib.Core.Bool.{Bool, true, false, cond}
use mathlib.Core.List.{List}
use mathlib.Core.Path.{◌≡◌, refl, ap}
use borrow.Author.Tests.{lt-ltb, le-ltb, ltb-true, ltb-false}
use lib.Dec.{ltb}
use Rattle.std.specs.Prelude.{Result, Ok, Err}
use Rattle.place.specs.declared.Place.{Place}
use Rattle.places.specs.declared.Unfound.{Unfound}
use Rattle.places.specs.declared.Unfound.TheVariants.{Broken, Outside, Nothing}
use Rattle.places.specs.Rows.{end_of, all_sound, sought}

module _ (t r : ℕ) (ps : List Place) (c k x : ℕ) where
  pub when-broken : all_sound t r ps ≡ false → Err Broken ≡ sought t r ps c k x
  unfolding sought
  when-broken e = simp e

  pub when-outside : all_sound t r ps ≡ true → 2 ≤ c → Err Outside ≡ sought t r ps c k x
  unfolding sought
  when-outside e h = simp (e, le-ltb c 2 h)

  pub when-nothing : all_sound t r ps ≡ true → c < 2 → end_of c ≤ k → Err Nothing ≡ sought t r ps c k x
  unfolding sought
  when-nothing e o h = simp (e, lt-ltb c 2 o, le-ltb k (end_of c) h)

  pub when-at : all_sound t r ps ≡ true → c < 2 → k < end_of c → Ok (k, x) ≡ sought t r ps c k x
  unfolding sought
  when-at e o h = simp (e, lt-ltb c 2 o, lt-ltb k (end_of c) h)

  abbrev by : Bool → Bool → Bool → Result (ℕ × ℕ) Unfound
  by a o b = cond a (cond o (cond b (Ok (k, x)) (Err Nothing)) (Err Outside)) (Err Broken)

  pub is-broken : Err Broken ≡ sought t r ps c k x → all_sound t r ps ≡ false
  unfolding sought
  is-broken e = by_tests (all_sound t r ps) (ltb c 2) (ltb k (end_of c)) e
    where
      by_tests : (a o b : Bool) → Err Broken ≡ by a o b → a ≡ false
      by_tests false o b e = refl
      by_tests true false b e = cc
      by_tests true true true e = cc
      by_tests true true false e = cc

  pub is-outside : Err Outside ≡ sought t r ps c k x → (all_sound t r ps ≡ true) × (2 ≤ c)
  unfolding sought
  is-outside e = by_tests (all_sound t r ps) (ltb c 2) refl (ltb k (end_of c)) e
    where
      by_tests : (a o : Bool) → ltb c 2 ≡ o → (b : Bool) → Err Outside ≡ by a o b → (a ≡ true) × (2 ≤ c)
      by_tests true false q b e = (refl, ltb-false c 2 q)
      by_tests true true q true e = let z : ◌≡◌ {A = ℕ} 0 1 = cc in absurd (omega arith)
      by_tests true true q false e = let z : ◌≡◌ {A = ℕ} 0 1 = cc in absurd (omega arith)
      by_tests false o q b e = let z : ◌≡◌ {A = ℕ} 0 1 = cc in absurd (omega arith)

  pub is-nothing : Err Nothing ≡ sought t r ps c k x → (all_sound t r ps ≡ true) × (c < 2) × (end_of c ≤ k)
  unfolding sought
  is-nothing e = by_tests (all_sound t r ps) (ltb c 2) refl (ltb k (end_of c)) refl e
    where
      by_tests : (a o : Bool) → ltb c 2 ≡ o → (b : Bool) → ltb k (end_of c) ≡ b → Err Nothing ≡ by a o b → (a ≡ true) × (c < 2) × (end_of c ≤ k)
      by_tests true true p false q e = (refl, ltb-true c 2 p, ltb-false k (end_of c) q)
      by_tests true true p true q e = let z : ◌≡◌ {A = ℕ} 0 1 = cc in absurd (omega arith)
      by_tests true false p b q e = let z : ◌≡◌ {A = ℕ} 0 1 = cc in absurd (omega arith)
      by_tests false o p b q e = let z : ◌≡◌ {A = ℕ} 0 1 = cc in absurd (omega arith)

  abbrev found_at : Result (ℕ × ℕ) Unfound → ℕ × ℕ
  found_at (Ok at) = at
  found_at (Err e) = (0, 0)

  pub is_at : (j y : ℕ) → Ok (j, y) ≡ sought t r ps c k x → (all_sound t r ps ≡ true) × (c < 2) × (k < end_of c) × (j ≡ k) × (y ≡ x)
  unfolding sought
  is_at j y e = by_tests (all_sound t r ps) (ltb c 2) refl (ltb k (end_of c)) refl e
    where
      by_tests : (a o : Bool) → ltb c 2 ≡ o → (b : Bool) → ltb k (end_of c) ≡ b → Ok (j, y) ≡ by a o b
          → (a ≡ true) × (c < 2) × (k < end_of c) × (j ≡ k) × (y ≡ x)
      by_tests true true p true q e = (refl, ltb-true c 2 p, ltb-true k (end_of c) q, ap (λ (z : Result (ℕ × ℕ) Unfound). (found_at z).0) e, ap (λ (z : Result (ℕ × ℕ) Unfound). (found_at z).1) e)
      by_tests true true p false q e = let z : ◌≡◌ {A = ℕ} 0 1 = cc in absurd (omega arith)
      by_tests true false p b q e = let z : ◌≡◌ {A = ℕ} 0 1 = cc in absurd (omega arith)
      by_tests false o p b q e = let z : ◌≡◌ {A = ℕ} 0 1 = cc in absurd (omega arith)
