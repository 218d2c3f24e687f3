-- A row tested block by block: what is left after a block, and what the last block says, which may reach back over what passed. Assumes nothing.
use Prim.Native.Nat.{ℕ, ◌+◌, ◌-◌, ◌≤◌, ◌<◌}
use native.Mathlib.Omega.{arith}
use mathlib.Core.Bool.{Bool, true, false, ◌&&◌, and-eq-true_iff}
use mathlib.Core.List.{List}
use mathlib.Core.Path.{◌≡◌, refl, sym, ap, subst, ◌∙◌}
use lib.ListN.{length, take, drop, length-drop, take-append-drop}
use lib.Seq.{take-add, take-take, drop-drop}
use Rattle.octets.specs.Searches.{every}
use Rattle.octets.proofs.Parts.{rest-is}
use Rattle.octets.proofs.Searches.{every_append}
use Rattle.rows.specs.Blocks.{Passed, IsLeft}

module _ (f : ℕ → Bool) where
  every-cut : (k : ℕ) (s : List ℕ) → every f s ≡ (every f (take k s) && every f (drop k s))
  every-cut k s = ap (every f) (sym (take-append-drop k s)) ∙ every_append f (take k s) (drop k s)

  pub passed-none : (s : List ℕ) → Passed f s s
  unfolding every
  passed-none s =
      let none : length s - length s ≡ 0 = omega arith in
      record { inside = omega arith; is = rw none refl; pass = rw none refl }

  -- a part that passes, and what is behind it
  pub passed-more : (s rest behind : List ℕ) (n : ℕ) → Passed f s rest → behind ≡ drop n rest → length behind + n ≡ length rest → every f (take n rest) ≡ true
      → Passed f s behind
  passed-more s rest behind n p e l t =
      let at = length s - length rest in
      let on : length s - length behind ≡ at + n = omega (arith, p.inside) in
      record {
        inside = omega (arith, p.inside);
        is = rw on (e ∙ ap (drop n) p.is ∙ drop-drop n at s);
        pass =
            rw on
            (ap (every f) (take-add at n s)
            ∙ every_append f (take at s) (take n (drop at s))
            ∙ simp (p.pass, ap (λ (r : List ℕ). every f (take n r)) (sym p.is) ∙ t));
      }

  -- a row passes where what is left of it does
  pub passed-same : (s rest : List ℕ) → Passed f s rest → every f s ≡ every f rest
  passed-same s rest p =
      let at = length s - length rest in
      every-cut at s ∙ ap (λ (b : Bool). b && every f (drop at s)) p.pass ∙ ap (every f) (sym p.is)

  -- where a block does not pass, and where fewer bytes than one are left
  pub left-stop : (s rest : List ℕ) (n : ℕ) → Passed f s rest → every f (take n rest) ≡ false → IsLeft f n s rest
  left-stop s rest n p t = record { passed = p; stop = λ h. every-cut n rest ∙ ap (λ (b : Bool). b && every f (drop n rest)) t }

  pub left-end : (s rest : List ℕ) (n : ℕ) → Passed f s rest → length rest < n → IsLeft f n s rest
  left-end s rest n p l = record { passed = p; stop = λ h. absurd (omega arith) }

  -- the last n bytes of a row, of which those before the rest passed
  pub last-same : (s rest last : List ℕ) (n : ℕ) → Passed f s rest → length rest < n → n ≤ length s → last ≡ drop (length s - n) s → every f last ≡ every f s
  last-same s rest last n p l h e =
      let at = length s - n in
      let past = length s - length rest in
      let parts : every f (take at (take past s)) && every f (drop at (take past s)) ≡ true = sym (every-cut at (take past s)) ∙ p.pass in
      let front : every f (take at s) ≡ true =
      ap (every f) (sym (take-take at past s (omega arith))) ∙ ((and-eq-true_iff (every f (take at (take past s))) (every f (drop at (take past s)))).0 parts).0 in
      ap (every f) e ∙ sym (every-cut at s ∙ ap (λ (b : Bool). b && every f (drop at s)) front)

  -- the same of what is left of what is left
  pub last-twice : (s t rest last : List ℕ) (n : ℕ) → Passed f s t → Passed f t rest → length rest < n → n ≤ length s → last ≡ drop (length s - n) s
      → every f last ≡ every f s
  last-twice s t rest last n p q l h e =
      last-same s rest last n (passed-more s t rest (length t - length rest) p q.is (omega (arith, q.inside)) q.pass) l h e

  -- where some of what is left does not pass
  pub not-all : (s rest : List ℕ) → Passed f s rest → every f rest ≡ false → false ≡ every f s
  not-all s rest p e = sym (passed-same s rest p ∙ e)

-- a walk from block to block
pub record Walked (f : ℕ → Bool) (s : List ℕ) (at : ℕ) : Type 0 where
  pub inside : at ≤ length s
  pub passed : Passed f s (drop at s)

module _ (f : ℕ → Bool) (s : List ℕ) where
  pub walked-none : Walked f s 0
  walked-none = record { inside = omega arith; passed = passed-none f s }

  module _ (at n m : ℕ) (t : Bool) (w : Walked f s at) (told : t ≡ every f (take m (drop at s))) (all : m ≡ n) where
    block : t ≡ every f (take n (drop at s))
    block = told ∙ ap (λ (k : ℕ). every f (take k (drop at s))) all

    pub walked-more : t ≡ true → n ≤ length s - at → Walked f s (at + n)
    walked-more e h =
        record {
          inside = omega (arith, w.inside);
          passed =
              passed-more f s (drop at s) (drop (at + n) s) n w.passed (sym (drop-drop n at s))
              (omega (arith, length-drop at s, length-drop (at + n) s, w.inside)) (sym block ∙ e);
        }

    pub walked-stop : (rest : List ℕ) → t ≡ false → rest ≡ take (length s - at) (drop at s) → IsLeft f n s rest
    walked-stop rest e r = subst (IsLeft f n s) (sym (r ∙ rest-is s at)) (left-stop f s (drop at s) n w.passed (sym block ∙ e))

  pub walked-end : (at n : ℕ) (rest : List ℕ) → Walked f s at → length s - at < n → rest ≡ take (length s - at) (drop at s) → IsLeft f n s rest
  walked-end at n rest w h r =
      subst (IsLeft f n s) (sym (r ∙ rest-is s at)) (left-end f s (drop at s) n w.passed (omega (arith, length-drop at s)))

pub ruleset blocks = (walked-none, walked-more, walked-stop, walked-end)

pub ruleset ends = (last-same, last-twice, not-all)
