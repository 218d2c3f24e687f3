-- The laws of a number in decimal. Assumes nothing.
use Prim.Native.Nat.{ℕ, zero, suc, ◌+◌, ◌*◌, ◌-◌, ◌/◌, ◌%◌, ◌^◌, ◌≤◌, ◌<◌}
use native.Mathlib.Omega.{arith}
use mathlib.Core.Bool.{Bool, true, false}
use mathlib.Core.List.{List, [], ◌∷◌, ◌++◌}
use mathlib.Core.Path.{◌≡◌, refl, sym, ap, subst, ◌∙◌}
use borrow.Author.Tests.{lt-ltb, le-ltb, ltb-true, ltb-false}
use lib.Dec.{ltb}
use native.Mathlib.Nat.{pow-suc}
use lib.ListN.{length, get_or, length-append}
use Rattle.std.specs.Fmt.{decimal as printed}
use Rattle.std.proofs.lemmas.Fmt.{AppendsLastDigit, decimal_from_appends, length-decimal-le_succ}
use Rattle.lines.specs.Decimal.{last_digit, decimal_in, decimal, read_on, number_in}

-- enough bounds the same
bounds-alike : (k j n : ℕ) → n ≤ k → n ≤ j → decimal_in k n ≡ decimal_in j n
unfolding decimal_in
bounds-alike zero zero n h i = refl
bounds-alike zero (suc j) n h i = simp (lt-ltb n 10 (omega arith))
bounds-alike (suc k) zero n h i = simp (lt-ltb n 10 (omega arith))
bounds-alike (suc k) (suc j) n h i = by-test (ltb n 10) refl (λ g. bounds-alike k j (n / 10) (omega arith) (omega arith))
  where
    by-test : (t : Bool) → ltb n 10 ≡ t → (10 ≤ n → decimal_in k (n / 10) ≡ decimal_in j (n / 10)) → decimal_in (suc k) n ≡ decimal_in (suc j) n
    by-test true e f = simp e
    by-test false e f = simp e (ap (λ (x : List ℕ). x ++ last_digit n) (f (ltb-false n 10 e)))

pub decimal-one : (n : ℕ) → n < 10 → decimal n ≡ (48 + n) ∷ []
unfolding decimal decimal_in
decimal-one zero h = refl
decimal-one (suc n) h = let e : suc n % 10 ≡ suc n = omega arith in simp (lt-ltb (suc n) 10 h, e)

pub decimal-more : (n : ℕ) → 10 ≤ n → decimal n ≡ decimal (n / 10) ++ last_digit n
unfolding decimal decimal_in
decimal-more zero h = absurd (omega arith)
decimal-more (suc n) h =
    simp (le-ltb (suc n) 10 h) (ap (λ (x : List ℕ). x ++ last_digit (suc n)) (bounds-alike n (suc n / 10) (suc n / 10) (omega arith) (omega arith)))

-- what holds of one digit, and of a number where it holds of its tenth, holds of every number
pub by_digits : (P : ℕ → List ℕ → Type 0) → ((n : ℕ) → n < 10 → P n ((48 + n) ∷ [])) → ((n : ℕ) (t : List ℕ) → 10 ≤ n → P (n / 10) t → P n (t ++ last_digit n))
    → (n : ℕ) → P n (decimal n)
by_digits P one more n = within n n (omega arith)
  where
    step : (k n : ℕ) → n ≤ suc k → ((m : ℕ) → m ≤ k → P m (decimal m)) → (t : Bool) → ltb n 10 ≡ t → P n (decimal n)
    step k n h below true e = subst (P n) (sym (decimal-one n (ltb-true n 10 e))) (one n (ltb-true n 10 e))
    step k n h below false e =
        let l = ltb-false n 10 e in subst (P n) (sym (decimal-more n l)) (more n (decimal (n / 10)) l (below (n / 10) (omega arith)))

    within : (k n : ℕ) → n ≤ k → P n (decimal n)
    within zero n h = let l : n < 10 = omega arith in subst (P n) (sym (decimal-one n l)) (one n l)
    within (suc k) n h = step k n h (λ m i. within k m i) (ltb n 10) refl

-- its digits are as many as the number wants
pub decimal-short : (k n : ℕ) → n < 10 ^ suc k → length (decimal n) ≤ suc k
decimal-short zero n h = simp (decimal-one n h) (omega arith)
decimal-short (suc k) n h = by-test (ltb n 10) refl (λ l. decimal-short k (n / 10) (omega (arith, pow-suc 10 (suc k))))
  where
    by-test : (t : Bool) → ltb n 10 ≡ t → (10 ≤ n → length (decimal (n / 10)) ≤ suc k) → length (decimal n) ≤ suc (suc k)
    by-test true e f = simp (decimal-one n (ltb-true n 10 e)) (omega arith)
    by-test false e f =
        let l = ltb-false n 10 e in simp (decimal-more n l, length-append) (omega (arith, f l))

pub one-at-least : (n : ℕ) → 1 ≤ length (decimal n)
one-at-least = by_digits (λ n t. 1 ≤ length t) (λ n h. omega arith) (λ n t l h. simp length-append (omega arith))

pub one_more : (n : ℕ) → 10 ≤ n → length (decimal n) ≡ length (decimal (n / 10)) + 1
one_more n h = simp (decimal-more n h, length-append)

-- the digits are read back as the number
read-last : (x d : ℕ) (ds : List ℕ) → read_on x (ds ++ (d ∷ [])) ≡ 10 * read_on x ds + (d - 48)
unfolding read_on
read-last x d [] = refl
read-last x d (e ∷ ds) = read-last (10 * x + (e - 48)) d ds

pub decimal-read : (n : ℕ) → number_in (decimal n) ≡ n
unfolding read_on
decimal-read =
    by_digits (λ n t. number_in t ≡ n)
    (λ n h. omega arith)
    (λ n t l h. read-last 0 (48 + n % 10) t ∙ ap (λ (x : ℕ). 10 * x + (48 + n % 10 - 48)) h ∙ omega arith)

-- of two digits or more the first is not 0
pub no-zero-first : (n : ℕ) → 10 ≤ n → 48 < get_or (decimal n) 0 0
no-zero-first n h = by_digits (λ m t. 1 ≤ m → 48 < get_or t 0 0) (λ m l i. omega arith) more n (omega arith)
  where
    more : (m : ℕ) (t : List ℕ) → 10 ≤ m → (1 ≤ m / 10 → 48 < get_or t 0 0) → 1 ≤ m → 48 < get_or (t ++ last_digit m) 0 0
    more m [] l f i = let g : 48 < 0 = f (omega arith) in absurd (omega arith)
    more m (d ∷ t) l f i = f (omega arith)

-- and they are those that std prints
appends : AppendsLastDigit decimal_in
unfolding decimal_in
appends =
    record { one = λ k n h. simp (lt-ltb n 10 h) (ap (λ (x : ℕ). (48 + x) ∷ []) (omega arith)); more = λ k n h. simp (le-ltb n 10 h) }

pub as_printed : (n : ℕ) → n < 2 ^ 64 → printed n ≡ decimal n
unfolding decimal
as_printed n h =
    sym (decimal_from_appends decimal_in appends (suc n) n h (omega (arith, length-decimal-le_succ n h)))
    ∙ bounds-alike (suc n) n n (omega arith) (omega arith)
