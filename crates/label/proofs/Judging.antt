-- The laws of a label's judgement: what six zeros are, what may stand, what is shown of it, and what differs from release 1.3.
-- Assumes nothing.
use Prim.Native.Nat.{ℕ}
use mathlib.Core.Bool.{Bool, true, false, false≢true, ◌&&◌, ◌||◌, cond}
use mathlib.Core.List.{List}
use mathlib.Core.Path.{◌≡◌, refl, sym, ap, ◌∙◌}
use borrow.Author.Tests.{eqb-true, eq-eqb}
use lib.Dec.{eqb}
use lib.ListN.{get_or, take, drop}
use Rattle.octets.specs.Numbers.{low_first}
use Rattle.label.specs.declared.Label.{Label}
use Rattle.label.specs.declared.Judgement.TheVariants.{Time, NoTime, Bad}
use Rattle.label.specs.Times.{label_of, label_bytes, ranges, in_ranges, is_no_time, judged, allowed, time_of, judged_in13}
use Rattle.label.proofs.Ranges.{no-time-zeros, no-time-out, no-day-out, by_two_numbers}

module _ (l : Label) where
  -- six zeros, judged now and by the rule of release 1.3
  pub no-time-judged : is_no_time l ≡ true → judged l ≡ NoTime
  unfolding judged
  no-time-judged e = simp (no-time-out l e, e)

  pub no-time-in-13 : is_no_time l ≡ true → judged_in13 l ≡ Bad
  no-time-in-13 e = simp (no-time-out l e)

  -- every other label is judged as it was
  pub as-in-13 : is_no_time l ≡ false → judged l ≡ judged_in13 l
  unfolding judged
  as-in-13 e = simp e

  -- a label may stand where it could before, or where it is six zeros
  pub stands-now : allowed (judged l) ≡ (allowed (judged_in13 l) || is_no_time l)
  unfolding judged
  stands-now = either (in_ranges ranges (label_bytes l)) (is_no_time l)
    where
      either : (a b : Bool) → allowed (cond a Time (cond b NoTime Bad)) ≡ (allowed (cond a Time Bad) || b)
      either true b = refl
      either false true = refl
      either false false = refl

  -- and is then a time or no time, by its day
  pub may-stand : allowed (judged l) ≡ true → judged l ≡ time_of l
  unfolding judged time_of
  may-stand =
      either (in_ranges ranges (label_bytes l)) (is_no_time l) (eqb l.day 0) (λ t. no-day-out l (eqb-true l.day 0 t))
      (λ t. eq-eqb l.day 0 (ap (λ (s : List ℕ). get_or s 3 0) (no-time-zeros l t)))
    where
      either : (a b z : Bool) → (z ≡ true → a ≡ false) → (b ≡ true → z ≡ true) → allowed (cond a Time (cond b NoTime Bad)) ≡ true
          → cond a Time (cond b NoTime Bad) ≡ cond z NoTime Time
      either true b true out has h = absurd (false≢true (sym (out refl)))
      either true b false out has h = refl
      either false true z out has h = ap (λ (t : Bool). cond t NoTime Time) (sym (has refl))
      either false false z out has h = absurd (false≢true h)

  pub time-judged : allowed (judged l) ≡ true → is_no_time l ≡ false → judged l ≡ Time
  unfolding judged
  time-judged h e = either (in_ranges ranges (label_bytes l)) (is_no_time l) h e
    where
      either : (a b : Bool) → allowed (cond a Time (cond b NoTime Bad)) ≡ true → b ≡ false → cond a Time (cond b NoTime Bad) ≡ Time
      either true b h e = refl
      either false true h e = absurd (false≢true (sym e))
      either false false h e = absurd (false≢true h)

-- the label that six bytes stand for, r being whether it is in its ranges: one that is may stand, and another where the bytes are zero as two numbers
module _ (s : List ℕ) (l : Label) (r : Bool) (read : l ≡ label_of s) (told : r ≡ in_ranges ranges (label_bytes l)) where
  pub in_range_stands : r ≡ true → r ≡ allowed (judged (label_of s))
  unfolding judged
  in_range_stands t = t ∙ ap (λ (b : Bool). allowed (cond b Time (cond (is_no_time l) NoTime Bad))) (sym t ∙ told) ∙ ap (λ (x : Label). allowed (judged x)) read

  pub zero_stands : (low high : ℕ) (z : Bool) → r ≡ false → low ≡ low_first (take 4 (drop 0 s)) → high ≡ low_first (take 2 (drop 4 s)) → z ≡ (eqb low 0 && eqb high 0)
      → z ≡ allowed (judged (label_of s))
  unfolding judged
  zero_stands low high z f a b zero =
      let out : in_ranges ranges (label_bytes (label_of s)) ≡ false = ap (λ (x : Label). in_ranges ranges (label_bytes x)) (sym read) ∙ sym told ∙ f in
      zero ∙ by_two_numbers s low high a b ∙ either (is_no_time (label_of s)) ∙ ap (λ (t : Bool). allowed (cond t Time (cond (is_no_time (label_of s)) NoTime Bad))) (sym out)
    where
      either : (b : Bool) → b ≡ allowed (cond b NoTime Bad)
      either true = refl
      either false = refl

pub ruleset standing = (in_range_stands, zero_stands)
