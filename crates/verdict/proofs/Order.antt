-- The laws of an order of tests, which the judges cite instead of the definition's text. By induction on the tests.
-- Assumes nothing.
use Prim.Native.Nat.{ℕ}
use mathlib.Core.Bool.{Bool, true, false, not, cond, ◌&&◌, true≢false, false≢true}
use mathlib.Core.Path.{◌≡◌, refl, sym, ap, ◌∙◌}
use mathlib.Core.List.{List, [], ◌∷◌, ◌++◌}
use borrow.Author.Tests.{eqb-false}
use lib.Dec.{eqb}
use Rattle.octets.proofs.Flags as flags
use Rattle.verdict.specs.declared.Verdict.{Verdict}
use Rattle.verdict.specs.Orders.{Test, in_order, good, is_good, no_part, part_by, Held, refusing}

-- what follows a passed test
pub passed : (t : Test) (ts : List Test) (rest : Verdict) → t.holds ≡ true → in_order (t ∷ ts) rest ≡ in_order ts rest
unfolding in_order
passed t ts rest e = simp e

-- a test that fails decides
pub failed : (t : Test) (ts : List Test) (rest : Verdict) → t.holds ≡ false → in_order (t ∷ ts) rest ≡ t.refused
unfolding in_order
failed t ts rest e = simp e

-- one order after another
pub joined : (ts us : List Test) (rest : Verdict) → in_order (ts ++ us) rest ≡ in_order ts (in_order us rest)
unfolding in_order
joined [] us rest = refl
joined (t ∷ ts) us rest = ap (λ (v : Verdict). cond t.holds v t.refused) (joined ts us rest)

-- where every test held, what comes after them decides
pub all-passed : (ts : List Test) (rest : Verdict) → Held ts → in_order ts rest ≡ rest
unfolding in_order
all-passed [] rest h = refl
all-passed (t ∷ ts) rest h = passed t ts rest h.0 ∙ all-passed ts rest h.1

-- the first test that fails decides
pub first-failed : (ts : List Test) (t : Test) (us : List Test) (rest : Verdict) → Held ts → t.holds ≡ false → in_order (ts ++ (t ∷ us)) rest ≡ t.refused
first-failed ts t us rest h e = joined ts (t ∷ us) rest ∙ all-passed ts (in_order (t ∷ us) rest) h ∙ failed t us rest e

-- a good verdict means that every test held, and that what comes after them is good
pub good-held : (ts : List Test) (rest : Verdict) → refusing ts ≡ true → is_good (in_order ts rest) ≡ true → Held ts × (is_good rest ≡ true)
unfolding in_order
good-held [] rest n g = (tt, g)
good-held (t ∷ ts) rest n g = by-test t.holds refl (is_good t.refused) refl n g (good-held ts rest)
  where
    by-test : (b : Bool) → t.holds ≡ b → (r : Bool) → is_good t.refused ≡ r → not r && refusing ts ≡ true
        → is_good (cond b (in_order ts rest) t.refused) ≡ true
        → (refusing ts ≡ true → is_good (in_order ts rest) ≡ true → Held ts × (is_good rest ≡ true))
        → ((t.holds ≡ true) × Held ts) × (is_good rest ≡ true)
    by-test b e true q n g ih = absurd (false≢true n)
    by-test true e false q n g ih = let h = ih n g in ((e, h.0), h.1)
    by-test false e false q n g ih = absurd (false≢true (sym q ∙ g))

-- where the tests before it decide, what comes after them does not matter
pub stays : (ts : List Test) (rest : Verdict) → is_good (in_order ts good) ≡ false → in_order ts rest ≡ in_order ts good
unfolding in_order
stays [] rest e = absurd (true≢false e)
stays (t ∷ ts) rest e = by-test t.holds e (stays ts rest)
  where
    by-test : (b : Bool) → is_good (cond b (in_order ts good) t.refused) ≡ false → (is_good (in_order ts good) ≡ false → in_order ts rest ≡ in_order ts good)
        → cond b (in_order ts rest) t.refused ≡ cond b (in_order ts good) t.refused
    by-test true e ih = ih e
    by-test false e ih = refl

-- where they are all passed, it decides
pub goes_on : (ts : List Test) (rest : Verdict) → refusing ts ≡ true → is_good (in_order ts good) ≡ true → in_order ts rest ≡ rest
goes_on ts rest n g = all-passed ts rest (good-held ts good n g).0

-- so it can be exchanged for what is the same where they are passed
pub exchanged : (ts : List Test) (v w : Verdict) → refusing ts ≡ true → (is_good (in_order ts good) ≡ true → v ≡ w) → in_order ts v ≡ in_order ts w
exchanged ts v w n e =
    flags.by-test (is_good (in_order ts good)) (λ g. goes_on ts v n g ∙ e g ∙ sym (goes_on ts w n g)) (λ g. stays ts v g ∙ sym (stays ts w g))

-- and a good verdict of an order is the good one
pub good-is : (ts : List Test) → refusing ts ≡ true → is_good (in_order ts good) ≡ true → in_order ts good ≡ good
good-is ts n g = goes_on ts good n g

-- the same of one order after another
pub joined-stays : (ts us : List Test) (rest : Verdict) → is_good (in_order ts good) ≡ false → in_order (ts ++ us) rest ≡ in_order ts good
joined-stays ts us rest e = joined ts us rest ∙ stays ts (in_order us rest) e

pub joined-on : (ts us : List Test) (rest : Verdict) → refusing ts ≡ true → is_good (in_order ts good) ≡ true → in_order (ts ++ us) rest ≡ in_order us rest
joined-on ts us rest n g = joined ts us rest ∙ goes_on ts (in_order us rest) n g

-- of tests that all held the first ones held, and the last
pub held-left : (ts us : List Test) → Held (ts ++ us) → Held ts
held-left [] us h = tt
held-left (t ∷ ts) us h = (h.0, held-left ts us h.1)

pub held-right : (ts us : List Test) → Held (ts ++ us) → Held us
held-right [] us h = h
held-right (t ∷ ts) us h = held-right ts us h.1

-- and where both orders held, one after the other does
pub held-append : (ts us : List Test) → Held ts → Held us → Held (ts ++ us)
held-append [] us h k = k
held-append (t ∷ ts) us h k = (h.0, held-append ts us h.1 k)

-- one order after another refuses where both do
pub refusing-append : (ts us : List Test) → refusing ts ≡ true → refusing us ≡ true → refusing (ts ++ us) ≡ true
refusing-append [] us p q = q
refusing-append (t ∷ ts) us p q = by-test (is_good t.refused) p (refusing-append ts us)
  where
    by-test : (b : Bool) → not b && refusing ts ≡ true → (refusing ts ≡ true → refusing us ≡ true → refusing (ts ++ us) ≡ true) → not b && refusing (ts ++ us) ≡ true
    by-test true p ih = p
    by-test false p ih = ih p q

-- tests that all held give a good verdict
pub held-good : (ts : List Test) → Held ts → is_good (in_order ts good) ≡ true
held-good ts h = ap is_good (all-passed ts good h)

-- each refusal told in other words
abbrev pub retold : (Verdict → Verdict) → List Test → List Test
retold f [] = []
retold f (t ∷ ts) = record { holds = t.holds; refused = f t.refused } ∷ retold f ts

-- and so the order's verdict
pub in-other-words : (f : Verdict → Verdict) (ts : List Test) (v : Verdict) → in_order (retold f ts) (f v) ≡ f (in_order ts v)
unfolding in_order
in-other-words f [] v = refl
in-other-words f (t ∷ ts) v = go t.holds (in-other-words f ts v)
  where
    go : (b : Bool) → in_order (retold f ts) (f v) ≡ f (in_order ts v) → cond b (in_order (retold f ts) (f v)) (f t.refused) ≡ f (cond b (in_order ts v) t.refused)
    go true ih = ih
    go false ih = refl

-- no test refuses by a number
abbrev pub lacks : ℕ → List Test → Bool
lacks n [] = true
lacks n (t ∷ ts) = not (eqb t.refused.number n) && lacks n ts

-- so where what comes after them does not either, the order does not
pub other-number : (n : ℕ) (ts : List Test) (rest : Verdict) → lacks n ts ≡ true → (rest.number ≡ n → ⊥) → (in_order ts rest).number ≡ n → ⊥
unfolding in_order
other-number n [] rest h r e = r e
other-number n (t ∷ ts) rest h r e = by-test t.holds (eqb t.refused.number n) refl h (λ k. other-number n ts rest k r) e
  where
    by-test : (b q : Bool) → eqb t.refused.number n ≡ q → not q && lacks n ts ≡ true → (lacks n ts ≡ true → (in_order ts rest).number ≡ n → ⊥)
        → (cond b (in_order ts rest) t.refused).number ≡ n → ⊥
    by-test b true q h ih e = absurd (false≢true h)
    by-test true false q h ih e = ih h e
    by-test false false q h ih e = eqb-false t.refused.number n q e

-- a part's verdict is the one that it was made by, and a refused part stands nowhere
pub part-verdict : (v : Verdict) (from to : ℕ) (b : Bool) → is_good (part_by v from to).verdict ≡ b → is_good v ≡ b
unfolding part_by
part-verdict v from to b e = by-test (is_good v) refl e
  where
    by-test : (g : Bool) → is_good v ≡ g → is_good (cond g (record { verdict = v; from = from; to = to }) (no_part v)).verdict ≡ b → is_good v ≡ b
    by-test true q e = e
    by-test false q e = e

pub part-good : (v : Verdict) (from to : ℕ) → ((part_by v from to).verdict ≡ v) × (is_good v ≡ true → (part_by v from to).from ≡ from)
unfolding part_by
part-good v from to = by-test (is_good v) refl
  where
    by-test : (g : Bool) → is_good v ≡ g → ((cond g (record { verdict = v; from = from; to = to }) (no_part v)).verdict ≡ v)
        × (is_good v ≡ true → (cond g (record { verdict = v; from = from; to = to }) (no_part v)).from ≡ from)
    by-test true q = (refl, λ e. refl)
    by-test false q = (refl, λ e. absurd (false≢true (sym q ∙ e)))

pub part_none : (v : Verdict) (from to : ℕ) → is_good (part_by v from to).verdict ≡ false → part_by v from to ≡ no_part (part_by v from to).verdict
unfolding part_by
part_none v from to e = by-test (is_good v) refl e
  where
    by-test : (g : Bool) → is_good v ≡ g → is_good (cond g (record { verdict = v; from = from; to = to }) (no_part v)).verdict ≡ false
        → cond g (record { verdict = v; from = from; to = to }) (no_part v) ≡ no_part (cond g (record { verdict = v; from = from; to = to }) (no_part v)).verdict
    by-test true q e = absurd (true≢false (sym q ∙ e))
    by-test false q e = refl

-- a part after some tests, and after more of them
module _ (ts us : List Test) (from to : ℕ) where
  pub part_stays : is_good (in_order ts good) ≡ false → part_by (in_order ts good) from to ≡ part_by (in_order (ts ++ us) good) from to
  part_stays e = ap (λ (v : Verdict). part_by v from to) (sym (joined-stays ts us good e))

  pub part-refuses : refusing ts ≡ true → is_good (in_order ts good) ≡ true → is_good (in_order us good) ≡ false → no_part (in_order us good) ≡ part_by (in_order (ts ++ us) good) from to
  unfolding part_by
  part-refuses n g e = simp (joined-on ts us good n g, e)

  pub part-passes : refusing ts ≡ true → refusing us ≡ true → is_good (in_order ts good) ≡ true → is_good (in_order us good) ≡ true
      → part_by (in_order ts good) from to ≡ part_by (in_order (ts ++ us) good) from to
  part-passes n m g h = ap (λ (v : Verdict). part_by v from to) (good-is ts n g ∙ sym (joined-on ts us good n g ∙ good-is us m h))
