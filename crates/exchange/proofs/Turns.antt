-- What a line of a log and the table after it are to each place of the table before it: an open place takes its turn, of which its exchange goes on or
-- ends, and keeps place and serial to itself; a free one stays as it is unless a beginning takes it. By the rule for one place. Assumes nothing.
use Prim.Native.Nat.{ℕ, ◌<◌}
use native.Mathlib.Omega.{arith}
use mathlib.Core.Bool.{Bool, true, false, not, cond, ◌&&◌, and-false, false≢true, and-eq-true_iff}
use mathlib.Core.List.{[], ◌∷◌}
use mathlib.Core.Path.{◌≡◌, refl, sym, ap, subst, subst⁻¹, subst₂, ◌∙◌}
use borrow.Author.Tests.{eqb-true, eq-eqb}
use lib.Dec.{eqb}
use Rattle.octets.proofs.Flags.{by-test}
use Rattle.verdict.specs.declared.Verdict.{Verdict}
use Rattle.verdict.specs.Orders.{is_good}
use Rattle.place.specs.declared.Place.{Place}
use Rattle.place.specs.Steps.{Step}
use Rattle.place.specs.Rules.{opened, is_open, holds, keeps}
use Rattle.place.specs.Steps.{NOTHING, becomes, replied}
use Rattle.place.proofs.Kept.{open-holds}
use Rattle.place.proofs.Lives.{Turn, passed-turn, ticked-turn, replied-turn, ticked-free, fits-none}
use Rattle.places.specs.declared.Report.{Report}
use Rattle.places.specs.Rows.{place_at, low_of, end_of, owner_of}
use Rattle.places.proofs.Rules.{unheld}
use Rattle.exchange.specs.declared.Exchanges.{Exchanges}
use Rattle.exchange.specs.Begins.{mode_of}
use Rattle.exchange.specs.Calls.{begun_by, Call, begin, reply, tick, after, run, Sound}
use Rattle.exchange.specs.Logs.{Line, of_begin, of_reply, line_of, is_tick, begins, gives, tells, answers, misnames}
use Rattle.exchange.specs.Steps.{fits_from, step_by}
use Rattle.exchange.specs.Table.{centre_of}
use Rattle.exchange.proofs.Changes.{Settings, settings-stay, taken-so, given-unopened, begun-inside, begun-owner, taken_free, tick-tells}
use Rattle.exchange.proofs.Kept.{rules-of, run_sound}
use Rattle.exchange.proofs.Steps.{each_step, taken-opened}
use Rattle.exchange.proofs.Taking.{answers-fitting}

-- a place after a line, with what the line tells of it
abbrev pub comes : Exchanges → ℕ → Line → Step
comes y k l = becomes (place_at y.places k) (tells k l)

-- a line that leaves place k and serial s to the exchange that has them, and tells of it under its serial
pub record Own (k s : ℕ) (l : Line) : Type 0 where
  pub place : begins k l ≡ false
  pub serial : gives k s l ≡ false
  pub name : misnames k s l ≡ false

-- the turn of an open place
pub record Turned (x : Exchanges) (l : Line) (y : Exchanges) (k : ℕ) : Type 0 where
  pub kept : keeps x.timeout x.resends (place_at x.places k) ≡ true
  pub turn : Turn x.timeout x.resends (place_at x.places k) (cond (is_tick l) 1 0) (answers k l) (comes y k l)
  pub own : Own k (place_at x.places k).serial l

-- an exchange begun
pub record Opens (y : Exchanges) (k s : ℕ) : Type 0 where
  pub inside : k < 16
  pub mode : ℕ
  pub is : place_at y.places k ≡ opened s mode
  pub awake : is_open mode ≡ true

-- a line and the table after it
pub record Acts (x : Exchanges) (l : Line) (y : Exchanges) : Type 0 where
  pub sound : Sound y
  pub set : Settings y x.timeout x.resends
  pub turned : (k : ℕ) → k < 16 → is_open (place_at x.places k).mode ≡ true → Turned x l y k
  pub stayed : (k : ℕ) → k < 16 → is_open (place_at x.places k).mode ≡ false → begins k l ≡ false → comes y k l ≡ becomes (place_at x.places k) NOTHING
  pub opens : (v : Verdict) (k s : ℕ) → l ≡ of_begin v k s → is_good v ≡ true → Opens y k s

module _ (x : Exchanges) (sound : Sound x) where
  module _ (k : ℕ) (here : k < 16) where
    abbrev p : Place
    p = place_at x.places k

    kept : keeps x.timeout x.resends p ≡ true
    kept = (rules-of x sound.kept).keeping k here

    -- an open place, and its serial, are given to no other, and a tick tells of it under its serial
    module _ (o : is_open p.mode ≡ true) where
      keeps-place : (c : Call) → begins k (line_of x c) ≡ false
      unfolding begins line_of
      keeps-place (begin a) =
          by-test (begins k (line_of x (begin a)))
          (λ e.
          let g = (and-eq-true_iff (is_good (begun_by x a).verdict) (eqb k (begun_by x a).place)).0 e in
          let was = subst⁻¹ (λ (j : ℕ). is_open (place_at x.places j).mode ≡ false) (eqb-true k (begun_by x a).place g.1) (taken_free x a g.0) in
          absurd (false≢true (sym was ∙ o)))
          (λ e. e)
      keeps-place (reply a s w) = refl
      keeps-place tick = refl

      keeps-serial : (c : Call) → gives k p.serial (line_of x c) ≡ false
      unfolding gives line_of
      keeps-serial (begin a) =
          by-test (gives k p.serial (line_of x (begin a)))
          (λ e.
          let b = begun_by x a in
          let g = (and-eq-true_iff (is_good b.verdict) (eqb (owner_of k) (owner_of b.place) && eqb p.serial b.serial)).0 e in
          let h = (and-eq-true_iff (eqb (owner_of k) (owner_of b.place)) (eqb p.serial b.serial)).0 g.1 in
          let mine : owner_of k ≡ a.centre = eqb-true (owner_of k) (owner_of b.place) h.0 ∙ begun-owner x a g.0 in
          let none =
          unheld x.places (low_of a.centre) (end_of a.centre) b.serial (given-unopened x a g.0) k (omega (arith, mine)) (omega (arith, mine)) in
          let own = subst (λ (s : ℕ). holds s p ≡ true) (eqb-true p.serial b.serial h.1) (open-holds p o) in
          absurd (false≢true (sym none ∙ own)))
          (λ e. e)
      keeps-serial (reply a s w) = refl
      keeps-serial tick = refl

      keeps-name : (c : Call) → misnames k p.serial (line_of x c) ≡ false
      unfolding misnames line_of
      keeps-name (begin a) = refl
      keeps-name (reply a s w) = refl
      keeps-name tick = ap not (eq-eqb _ _ (ap (λ (y : Report). y.serial) (tick-tells x sound.kept k)))

      abbrev Takes : Call → Step → Type 0
      Takes c y = Turn x.timeout x.resends p (cond (is_tick (line_of x c)) 1 0) (answers k (line_of x c)) y

      takes : (c : Call) → Takes c (step_by x k c)
      unfolding step_by line_of is_tick answers
      takes (begin a) = passed-turn x.timeout x.resends p o false
      takes (reply a s w) = by-fit (fits_from x a s w k) refl
        where
          by-fit : (b : Bool) → fits_from x a s w k ≡ b → Takes (reply a s w) (cond b (replied x.resends w p) (becomes p NOTHING))
          by-fit true e =
              subst⁻¹ (λ (f : Bool). Turn x.timeout x.resends p 0 f (replied x.resends w p)) (answers-fitting x sound a s w k here ∙ e)
              (replied-turn x.timeout x.resends p o kept w)
          by-fit false e = passed-turn x.timeout x.resends p o (answers k (line_of x (reply a s w)))
      takes tick = ticked-turn x.timeout x.resends p o kept

      turned_by : (c : Call) → Turned x (line_of x c) (after x c) k
      turned_by c =
          record {
            kept = kept;
            turn = subst⁻¹ (Takes c) (each_step x sound k here c (keeps-place c)) (takes c);
            own = record { place = keeps-place c; serial = keeps-serial c; name = keeps-name c };
          }

    stayed-by : is_open p.mode ≡ false → (c : Call) → begins k (line_of x c) ≡ false → comes (after x c) k (line_of x c) ≡ becomes p NOTHING
    unfolding step_by
    stayed-by o c u = each_step x sound k here c u ∙ by_kind c
      where
        by_kind : (c : Call) → step_by x k c ≡ becomes p NOTHING
        by_kind (begin a) = refl
        by_kind (reply a s w) =
            let none : fits_from x a s w k ≡ false =
            ap (λ (b : Bool). eqb (centre_of x a) (owner_of k) && b) (fits-none x.timeout x.resends p o s w) ∙ and-false (eqb (centre_of x a) (owner_of k)) in
            simp none
        by_kind tick = ticked-free x.timeout x.resends p o

  opens_by : (c : Call) (v : Verdict) (k s : ℕ) → line_of x c ≡ of_begin v k s → is_good v ≡ true → Opens (after x c) k s
  unfolding line_of after
  opens_by (begin a) v k s e g =
      let verdict : (begun_by x a).verdict ≡ v = cc in
      let place : (begun_by x a).place ≡ k = cc in
      let serial : (begun_by x a).serial ≡ s = cc in
      let good = ap is_good verdict ∙ g in
      subst₂ (Opens (begun_by x a).state) place serial
      (record { inside = begun-inside x a good; mode = mode_of a.draft.command; is = taken-opened x sound a good; awake = (taken-so x a good).opens })
  opens_by (reply a n w) v k s e g = let z : ◌≡◌ {A = ℕ} 0 1 = cc in absurd (omega arith)
  opens_by tick v k s e g = let z : ◌≡◌ {A = ℕ} 0 1 = cc in absurd (omega arith)

  -- a call of the table's own
  pub call-acts : (c : Call) → Acts x (line_of x c) (after x c)
  unfolding run
  call-acts c =
      record {
        sound = run_sound x sound (c ∷ []);
        set = settings-stay x c;
        turned = λ k h o. turned_by k h o c;
        stayed = λ k h o. stayed-by k h o c;
        opens = opens_by c;
      }

  -- a line that tells nothing, of a call that leaves the table as it was
  pub idle-acts : (v : Verdict) → Acts x (of_reply v 0 NOTHING) x
  unfolding begins gives misnames is_tick answers tells
  idle-acts v =
      record {
        sound = sound;
        set = (refl, refl);
        turned = λ k h o.
            record {
              kept = kept k h;
              turn =
                  subst⁻¹ (λ (n : ℕ). Turn x.timeout x.resends (p k h) 0 (not (eqb n NOTHING)) (becomes (p k h) n)) (none (eqb k 0))
                  (passed-turn x.timeout x.resends (p k h) o false);
              own = record { place = refl; serial = refl; name = refl };
            };
        stayed = λ k h o u. ap (becomes (p k h)) (none (eqb k 0));
        opens = λ j k s e g. let z : ◌≡◌ {A = ℕ} 0 1 = cc in absurd (omega arith);
      }
    where
      none : (b : Bool) → cond b NOTHING NOTHING ≡ NOTHING
      none true = refl
      none false = refl
