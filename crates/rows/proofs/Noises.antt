-- A run of noise, found by going from one 64 to the next. Assumes nothing.
use Prim.Native.Nat.{ℕ, zero, suc, ◌+◌, ◌-◌, ◌≤◌, ◌<◌, min}
use native.Mathlib.Numerals.{add-one}
use native.Mathlib.Omega.{arith}
use mathlib.Core.Bool.{Bool, true, false, not, ◌||◌, cond}
use mathlib.Core.List.{List, [], ◌∷◌}
use mathlib.Core.Path.{◌≡◌, refl, sym, ap, ◌∙◌}
use borrow.Author.Tests.{eq-eqb, ne_eqb}
use lib.Dec.{eqb}
use lib.ListN.{length, get_or, take, drop, length-drop, drop_of_length-le}
use lib.Seq.{drop-cons, drop-drop, get_or-drop}
use Rattle.rows.specs.Runs.{starts_other, noise_run, plain_run}
use Rattle.rows.proofs.Plains.{plain-take, plain-next}

-- bytes before the first 64 are noise
noise-plain : (n : ℕ) (xs : List ℕ) → n ≤ plain_run xs → noise_run xs ≡ n + noise_run (drop n xs)
unfolding plain_run noise_run
noise-plain zero xs h = omega arith
noise-plain (suc n) [] h = absurd (omega arith)
noise-plain (suc n) (x ∷ xs) h = by-test (eqb x 64) h (noise-plain n xs)
  where
    by-test : (t : Bool) → suc n ≤ cond t 0 (suc (plain_run xs)) → (n ≤ plain_run xs → noise_run xs ≡ n + noise_run (drop n xs))
        → cond (not t || starts_other xs) (suc (noise_run xs)) 0 ≡ suc n + noise_run (drop n xs)
    by-test true h ih = absurd (omega arith)
    by-test false h ih = omega (arith, ih (omega arith))

pub noise-long : (xs : List ℕ) → noise_run xs ≤ length xs
unfolding noise_run
noise-long [] = omega arith
noise-long (x ∷ xs) = by-test (not (eqb x 64) || starts_other xs) (noise-long xs)
  where
    by-test : (t : Bool) → noise_run xs ≤ length xs → cond t (suc (noise_run xs)) 0 ≤ suc (length xs)
    by-test true ih = omega arith
    by-test false ih = omega arith

-- a 64 at the end, one before another, and one before something else
module _ (xs : List ℕ) (i : ℕ) (in-xs : i < length xs) where
  noise-last : get_or xs i 0 ≡ 64 → length xs ≤ i + 1 → noise_run (drop i xs) ≡ 0
  unfolding noise_run
  noise-last e h = let past : length xs ≤ suc i = omega arith in rw (drop-cons xs i 0 in-xs, drop_of_length-le xs past, eq-eqb (get_or xs i 0) 64 e) refl

  noise-stop : get_or xs i 0 ≡ 64 → i + 1 < length xs → get_or xs (i + 1) 0 ≡ 64 → noise_run (drop i xs) ≡ 0
  unfolding noise_run
  noise-stop e h n =
      let past : suc i < length xs = omega arith in
      let second : get_or xs (suc i) 0 ≡ 64 = ap (λ (k : ℕ). get_or xs k 0) (sym (add-one i)) ∙ n in
      rw (drop-cons xs i 0 in-xs, drop-cons xs (suc i) 0 past, eq-eqb (get_or xs i 0) 64 e, eq-eqb (get_or xs (suc i) 0) 64 second) refl

  noise-on : i + 1 < length xs → (get_or xs (i + 1) 0 ≡ 64 → ⊥) → noise_run (drop i xs) ≡ 1 + noise_run (drop (i + 1) xs)
  unfolding noise_run
  noise-on h n =
      let past : suc i < length xs = omega arith in
      let second : get_or xs (suc i) 0 ≡ 64 → ⊥ = λ q. n (ap (λ (k : ℕ). get_or xs k 0) (add-one i) ∙ q) in
      rw (add-one i, drop-cons xs i 0 in-xs)
      (by-other (drop (suc i) xs) (ap starts_other (drop-cons xs (suc i) 0 past) ∙ ap not (ne_eqb (get_or xs (suc i) 0) 64 second)) (eqb (get_or xs i 0) 64))
    where
      by-other : (ys : List ℕ) → starts_other ys ≡ true → (t : Bool) → cond (not t || starts_other ys) (suc (noise_run ys)) 0 ≡ 1 + noise_run ys
      by-other ys o true = rw o (omega arith)
      by-other ys o false = omega arith

-- the first i bytes are noise, and no more than end are looked at
pub record Noisy (s : List ℕ) (most end i : ℕ) : Type 0 where
  pub inside : i ≤ end
  pub limit : end ≡ min most (length s)
  pub run : noise_run s ≡ i + noise_run (drop i s)

module _ {s : List ℕ} {most end : ℕ} where
  pub noisy-none : end ≡ min most (length s) → Noisy s most end 0
  noisy-none e = record { inside = omega arith; limit = e; run = omega arith }

  pub noisy-end : (i : ℕ) → Noisy s most end i → end ≤ i → end ≡ min most (noise_run s)
  noisy-end i p h = omega (arith, p.inside, p.limit, p.run, noise-long s)

  -- a turn: up to the next 64, or to the limit
  module _ {i r : ℕ} (p : Noisy s most end i) (q : r ≡ plain_run (take (end - i) (drop i s))) where
    seen : r ≡ min (end - i) (plain_run (drop i s))
    seen = q ∙ plain-take (end - i) (drop i s)

    noisy-at : Noisy s most end (i + r)
    noisy-at =
        record {
          inside = omega (arith, p.inside, seen);
          limit = p.limit;
          run = omega (arith, p.run, noise-plain r (drop i s) (omega (arith, seen)), ap noise_run (drop-drop r i s));
        }

    marked : i + r < end → get_or s (i + r) 0 ≡ 64
    marked h =
        let whole : r ≡ plain_run (drop i s) = omega (arith, seen) in
        sym (get_or-drop i s r 0)
        ∙ ap (λ (k : ℕ). get_or (drop i s) k 0) whole
        ∙ plain-next (drop i s) (omega (arith, p.limit, length-drop i s))

    pub noisy-within : i + r ≤ end
    noisy-within = noisy-at.inside

    pub noisy-limit : end ≤ i + r → end ≡ min most (noise_run s)
    noisy-limit h = noisy-end (i + r) noisy-at h

    -- a 64 that is the last byte, that another follows, and that something else follows
    pub noisy-last : i + r < end → length s ≤ i + r + 1 → i + r ≡ min most (noise_run s)
    noisy-last h l =
        omega (arith, noisy-at.run, p.limit, noise-last s (i + r) (omega (arith, p.limit)) (marked h) l)

    pub noisy-stop : i + r < end → i + r + 1 < length s → get_or s (i + r + 1) 0 ≡ 64 → i + r ≡ min most (noise_run s)
    noisy-stop h l e =
        omega (arith, noisy-at.run, p.limit, noise-stop s (i + r) (omega (arith, p.limit)) (marked h) l e)

    pub noisy-more : i + r < end → i + r + 1 < length s → (get_or s (i + r + 1) 0 ≡ 64 → ⊥) → Noisy s most end (i + r + 1)
    noisy-more h l e =
        record {
          inside = omega arith;
          limit = p.limit;
          run = omega (arith, noisy-at.run, noise-on s (i + r) (omega (arith, p.limit)) l e);
        }

pub ruleset noises = (noisy-none, noisy-end, noisy-limit, noisy-last, noisy-stop, noisy-more, noisy-within)

-- whether a row begins with something other than 64
pub others-none : (b : List ℕ) → length b ≡ 0 → starts_other b ≡ false
others-none [] e = refl
others-none (y ∷ b) e = absurd (omega arith)

pub others-some : (b : List ℕ) → (length b ≡ 0 → ⊥) → not (eqb (get_or b 0 0) 64) ≡ starts_other b
others-some [] e = absurd (e refl)
others-some (y ∷ b) e = refl
