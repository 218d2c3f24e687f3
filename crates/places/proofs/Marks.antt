-- The marks of the serials that stand among the eight of a centre, so far as the pass has come: a serial without a mark stands nowhere among them.
-- Assumes nothing.
use Prim.Native.Nat.{ℕ, ◌+◌, ◌*◌, ◌-◌, ◌%◌, ◌≤◌, ◌<◌}
use native.Mathlib.Omega.{arith}
use mathlib.Core.Bool.{Bool, false, cond}
use mathlib.Core.List.{List}
use mathlib.Core.Path.{◌≡◌, refl, sym, ap, subst, ◌∙◌}
use borrow.Author.Tests.{eqb-true, eqb-false, ne_eqb, lt-leb}
use lib.Dec.{eqb}
use lib.ListN.{length, get_or, set, replicate, take, drop, length-set}
use lib.Seq.{get_or-set_same, get_or-set_other}
use Rattle.octets.proofs.Flags.{by-test}
use Rattle.place.specs.declared.Place.{Place}
use Rattle.places.specs.Rows.{place_at, low_of, owner_of}
use Rattle.places.specs.Held.{NONE, held_by, stands_in, Marked}
use Rattle.std.proofs.lemmas.List.{length-take, get_or-take, get_or-drop}
use Rattle.std.proofs.lemmas.List.Elements.{All-from_get_or}
use Rattle.std.proofs.lemmas.List.Folds.{list_any_none}
use Rattle.places.proofs.Loops.{Looked}

-- a serial whose mark is not there does not stand in the row
pub unmarked : (marks row : List ℕ) (s m : ℕ) → Marked marks row → s < 65536 → m ≡ s % 16 → get_or marks m 0 ≡ 0 → false ≡ stands_in row s
unmarked marks row s m x small e z =
    sym (list_any_none (λ n. eqb n s) row (All-from_get_or (λ n. eqb n s ≡ false) row 0 absent))
  where
    absent : (k : ℕ) → k < length row → eqb (get_or row k 0) s ≡ false
    absent k h =
        ne_eqb (get_or row k 0) s
        (λ q.
        let bare : get_or marks (get_or row k 0 % 16) 0 ≡ 0 = ap (λ (n : ℕ). get_or marks (n % 16) 0) q ∙ ap (λ (n : ℕ). get_or marks n 0) (sym e) ∙ z in
        x.met k h (omega (arith, q)) bare)

-- a mark for every serial that stands among the eight from one number on
pub record MarkedFrom (marks row : List ℕ) (low : ℕ) : Type 0 where
  pub met : (k : ℕ) → low ≤ k → k < low + 8 → get_or row k 0 < NONE → get_or marks (get_or row k 0 % 16) 0 ≡ 0 → ⊥

-- the eight from low on, of which the pass has come down to i
pub record Met (marks row : List ℕ) (low i : ℕ) : Type 0 where
  pub many : length marks ≡ 16
  pub whole : low % 8 ≡ 0
  pub few : low ≤ 8
  pub under : low ≤ i
  pub over : i ≤ low + 8
  pub marked : MarkedFrom marks row low

pub positive : (low i : ℕ) → low < i → 0 < i
positive low i h = omega arith

-- one turn more
module _ (row marks : List ℕ) (low i : ℕ) (m : Met marks row low i) (above : low < i) where
  pub met-low : low ≡ low_of (owner_of (i - 1))
  met-low = omega (arith, m.whole, m.over)

  pub met-marked : (n : ℕ) → n ≡ 8 → Marked marks (take n (drop low row))
  met-marked n whole =
      record {
        met =
            λ k h small bare.
            let below : k < n = omega (arith, length-take n (drop low row), h) in
            let is : get_or (take n (drop low row)) k 0 ≡ get_or row (low + k) 0 = get_or-take n (drop low row) k 0 below ∙ get_or-drop low row k 0 in
            m.marked.met (low + k) (omega arith) (omega (arith, whole, below)) (omega (arith, is, small)) (sym (ap (λ (x : ℕ). get_or marks (x % 16) 0) is) ∙ bare);
      }

  -- at a free place
  pub met-free : Met marks row low (i - 1)
  met-free =
      record {
        many = m.many;
        whole = m.whole;
        few = m.few;
        under = omega arith;
        over = omega (arith, m.over);
        marked = m.marked;
      }

module _ (t r : ℕ) (ps : List Place) (row : List ℕ) where
  -- before the first turn: nothing stands there
  pub met-none : (c end : ℕ) → 0 < c → end ≡ (c - 1) * 8 + 8 → Looked t r ps row (c * 8) → Met (replicate 16 0) row ((c - 1) * 8) end
  met-none c end above last s =
      record {
        many = refl;
        whole = omega arith;
        few = omega (arith, s.few);
        under = omega arith;
        over = omega arith;
        marked = record { met = λ k l h small z. nowhere k (omega (arith, s.few)) (omega arith) small };
      }
    where
      nowhere : (k : ℕ) → k < 16 → k < c * 8 → get_or row k 0 < NONE → ⊥
      nowhere k h u small =
          let none : get_or row k 0 ≡ 65536 = s.held k h ∙ ap (λ (b : Bool). cond b (held_by (place_at ps k)) NONE) (lt-leb (c * 8) k u) in omega arith

  module _ (marks : List ℕ) (low i : ℕ) (m : Met marks row low i) where
    -- after the last turn
    pub met_all : i ≤ low → Looked t r ps row i → Looked t r ps row low
    met_all h s = let end : i ≡ low = omega (arith, m.under) in subst (Looked t r ps row) end s

    module _ (above : low < i) where
      -- at an open one
      pub met-open : (k s : ℕ) → Looked t r ps row i → k ≡ s % 16 → Met (set marks k 1) (set row (i - 1) s) low (i - 1)
      met-open k s x e =
          record {
            many = length-set marks k 1 ∙ m.many;
            whole = m.whole;
            few = m.few;
            under = omega arith;
            over = omega (arith, m.over);
            marked = record { met = met };
          }
        where
          here : (n : ℕ) → n ≡ k → get_or (set marks k 1) n 0 ≡ 0 → ⊥
          here n q z =
              let one : ◌≡◌ {A = ℕ} 1 0 = sym (get_or-set_same marks k 1 0 (omega (arith, m.many))) ∙ ap (λ (j : ℕ). get_or (set marks k 1) j 0) (sym q) ∙ z in
              omega arith

          met : (j : ℕ) → low ≤ j → j < low + 8 → get_or (set row (i - 1) s) j 0 < NONE → get_or (set marks k 1) (get_or (set row (i - 1) s) j 0 % 16) 0 ≡ 0 → ⊥
          met j l h small z =
              by-test (eqb j (i - 1))
              (λ q.
              let is : get_or (set row (i - 1) s) j 0 ≡ s =
              ap (λ (n : ℕ). get_or (set row (i - 1) s) n 0) (eqb-true j (i - 1) q) ∙ get_or-set_same row (i - 1) s 0 (omega (arith, x.long, x.few)) in
              here (get_or (set row (i - 1) s) j 0 % 16) (ap (λ (n : ℕ). n % 16) is ∙ sym e) z)
              (λ q.
              let same : get_or (set row (i - 1) s) j 0 ≡ get_or row j 0 = get_or-set_other row (i - 1) j s 0 (eqb-false j (i - 1) q) in
              let y : ℕ = get_or row j 0 % 16 in
              let bare : get_or (set marks k 1) y 0 ≡ 0 = sym (ap (λ (n : ℕ). get_or (set marks k 1) (n % 16) 0) same) ∙ z in
              by-test (eqb y k)
              (λ p. here y (eqb-true y k p) bare)
              (λ p.
              m.marked.met j l h (omega (arith, same))
              (sym (get_or-set_other marks k y 1 0 (eqb-false y k p)) ∙ bare)))

pub ruleset meeting = (met-none, met-free, met-open, met_all, met-marked)
