-- A serial that stands in a part of a row stands at one of its places, and the loop that looks for it. Assumes nothing.
use Prim.Native.Nat.{ℕ, zero, suc, ◌+◌, ◌≤◌, ◌<◌}
use native.Mathlib.Omega.{arith}
use mathlib.Core.Bool.{Bool, true, ◌||◌, or-true, or-false}
use mathlib.Core.List.{List}
use mathlib.Core.Path.{◌≡◌, refl, sym, ap, ◌∙◌}
use borrow.Author.Tests.{eq-eqb, ne_eqb}
use lib.Dec.{eqb}
use lib.ListN.{length, get_or, take, drop}
use lib.Seq.{drop-cons, take_all}
use Rattle.std.specs.List.{list_any}
use Rattle.std.proofs.lemmas.List.Folds.{list_any_more}
use Rattle.octets.specs.Searches.{any_fits}
use Rattle.places.specs.Held.{stands_at, stands_in}

any-part : (p : ℕ → Bool) (row : List ℕ) (from n : ℕ) → from + n ≤ length row
    → list_any p (take n (drop from row)) ≡ any_fits (λ k. p (get_or row k 0)) from n
unfolding any_fits
any-part p row from zero h = refl
any-part p row from (suc n) h =
    ap (λ (l : List ℕ). list_any p (take (suc n) l)) (drop-cons row from 0 (omega arith))
    ∙ ap (λ (b : Bool). p (get_or row from 0) || b) (any-part p row (suc from) n (omega arith))

-- whether a serial stands among the eight from one number on
unfoldable pub stands_among : List ℕ → ℕ → ℕ → Bool
stands_among row from s = any_fits (stands_at row s) from 8

pub among-part : (row : List ℕ) (from n s : ℕ) → n ≡ 8 → from + 8 ≤ length row → stands_in (take n (drop from row)) s ≡ stands_among row from s
unfolding stands_among
among-part row from n s e h =
    ap (λ (m : ℕ). list_any (λ x. eqb x s) (take m (drop from row))) e ∙ any-part (λ x. eqb x s) row from 8 h

-- the loop that compares a serial with one number after the other: old is whether it was hit before the i-th, hit whether it was after it
module _ (row : List ℕ) (s i : ℕ) where
  module _ (below : i < length row) (old : Bool) (h : old ≡ stands_in (take i row) s) (hit : Bool) (x : ℕ) where
    one_more : stands_in (take (i + 1) row) s ≡ (old || eqb (get_or row i 0) s)
    one_more = list_any_more (λ n. eqb n s) row i 0 below ∙ ap (λ (b : Bool). b || eqb (get_or row i 0) s) (sym h)

    pub hit-here : get_or row i 0 ≡ x → x ≡ s → hit ≡ true → hit ≡ stands_in (take (i + 1) row) s
    hit-here e same t = t ∙ sym (one_more ∙ ap (λ (b : Bool). old || b) (eq-eqb (get_or row i 0) s (e ∙ same)) ∙ or-true old)

    pub hit-on : (get_or row i 0 ≡ x → ⊥) → x ≡ s → hit ≡ old → hit ≡ stands_in (take (i + 1) row) s
    hit-on n same t =
        t ∙ sym (one_more ∙ ap (λ (b : Bool). old || b) (ne_eqb (get_or row i 0) s (λ q. n (q ∙ sym same))) ∙ or-false old)

  pub all-hit : length row ≤ i → (hit : Bool) → hit ≡ stands_in (take i row) s → hit ≡ stands_in row s
  all-hit out hit h = h ∙ ap (λ (l : List ℕ). stands_in l s) (take_all i row out)
