-- "Replies from one, and beginnings for it, alter no place, serial or answer of the other" (document 02, Q-11), over any sequence of calls: leaving out
-- all calls of one centre leaves out their answers and changes no other, nor what is the other centre's. By one call more. Assumes nothing.
use Prim.Native.Nat.{ℕ, ◌<◌}
use mathlib.Core.Bool.{Bool, true, false, cond}
use mathlib.Core.List.{List, [], ◌∷◌}
use mathlib.Core.Path.{◌≡◌, refl, ap, ◌∙◌}
use Rattle.exchange.specs.declared.Exchanges.{Exchanges}
use Rattle.exchange.specs.Calls.{Call, after, run, Sound}
use Rattle.exchange.specs.Centres.{own_of, Answer, answer_to, answers_by, run_by, spared, spare}
use Rattle.exchange.specs.Table.{address_at}
use Rattle.exchange.proofs.Centres.{Alike, alike_self, alike-on, own_same, other-leaves, spared-alike}
use Rattle.exchange.proofs.Changes.{address_stays}
use Rattle.exchange.proofs.Kept.{run_sound}

-- what is said of one call, of any calls on the table: l is the address of the centre whose calls are not kept
pub record Parted (C : Type 0) (answer : Exchanges → C → Answer) (next : Exchanges → C → Exchanges) (keep : C → Bool) (c d : ℕ) (l : List ℕ) : Type 0 where
  pub sound : (x : Exchanges) → Sound x → (k : C) → Sound (next x k)
  pub address : (x : Exchanges) → Sound x → (k : C) → address_at (next x k) d ≡ address_at x d
  pub left : (x : Exchanges) → Sound x → address_at x d ≡ l → (k : C) → keep k ≡ false → Alike c (next x k) x
  pub kept : (x y : Exchanges) → Sound x → Sound y → Alike c x y → address_at x d ≡ l → (k : C) → keep k ≡ true
      → (answer x k ≡ answer y k) × (Alike c (next x k) (next y k))

module _ (C : Type 0) (answer : Exchanges → C → Answer) (next : Exchanges → C → Exchanges) (keep : C → Bool) (c d : ℕ) (l : List ℕ)
    (one : Parted C answer next keep c d l) where
  abbrev Says : List C → Exchanges → Exchanges → Type 0
  Says cs x y =
      (spare keep cs (answers_by answer next x cs) ≡ answers_by answer next y (spare keep cs cs)) × (Alike c (run_by next x cs) (run_by next y (spare keep cs cs)))

  parted : (cs : List C) (x y : Exchanges) → Sound x → Sound y → address_at x d ≡ l → Alike c x y → Says cs x y
  unfolding spare answers_by run_by
  parted [] x y sx sy e a = (refl, a)
  parted (k ∷ cs) x y sx sy e a = by-keep (keep k) refl (parted cs)
    where
      says : Bool → Type 0
      says b =
          (cond b (answer x k ∷ spare keep cs (answers_by answer next (next x k) cs)) (spare keep cs (answers_by answer next (next x k) cs))
          ≡ answers_by answer next y (cond b (k ∷ spare keep cs cs) (spare keep cs cs)))
          × (Alike c (run_by next (next x k) cs) (run_by next y (cond b (k ∷ spare keep cs cs) (spare keep cs cs))))

      still : address_at (next x k) d ≡ l
      still = one.address x sx k ∙ e

      by-keep : (b : Bool) → keep k ≡ b → ((v w : Exchanges) → Sound v → Sound w → address_at v d ≡ l → Alike c v w → Says cs v w) → says b
      by-keep true q then =
          let both = one.kept x y sx sy a e k q in
          let rest = then (next x k) (next y k) (one.sound x sx k) (one.sound y sy k) still both.1 in
          (λ i. both.0 i ∷ rest.0 i, rest.1)
      by-keep false q then =
          then (next x k) y (one.sound x sx k) sy still (alike-on c (next x k) x y (one.left x sx e k q) a)

  -- from one table: the answers and what is the centre's at the end
  pub left_out : (x : Exchanges) → Sound x → address_at x d ≡ l → (cs : List C)
      → (spare keep cs (answers_by answer next x cs) ≡ answers_by answer next x (spare keep cs cs))
      × (own_of c (run_by next x cs) ≡ own_of c (run_by next x (spare keep cs cs)))
  left_out x sound e cs =
      let both = parted cs x x sound sound e (alike_self c x) in
      (both.0, own_same c (run_by next x cs) (run_by next x (spare keep cs cs)) both.1)

-- of the table's own calls
pub call-parted : (c d : ℕ) → c < 2 → d < 2 → (c ≡ d → ⊥) → (l : List ℕ) → Parted Call (answer_to c) after (spared d l) c d l
unfolding run
call-parted c d u v other l =
    record {
      sound = λ x sx k. run_sound x sx (k ∷ []);
      address = λ x sx k. address_stays x sx k d;
      left = λ x sx e k q. other-leaves c d other x sx u v k (ap (λ (b : List ℕ). spared d b k) e ∙ q);
      kept = λ x y sx sy a e k q. spared-alike c u x y sx sy a d v other k (ap (λ (b : List ℕ). spared d b k) e ∙ q);
    }
