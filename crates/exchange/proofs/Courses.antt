-- The course of an exchange's life in a log (document 02, Q-10). While its place is open each line makes of the place, and tells of it, what the rule
-- for one place says; once it is over its place is free, and of a free place nothing is told before a beginning takes it. By one line more.
-- Assumes nothing.
use Prim.Native.Nat.{ℕ, ◌+◌, ◌≤◌, ◌<◌}
use native.Mathlib.Omega.{arith}
use mathlib.Core.Bool.{Bool, true, false, cond}
use mathlib.Core.List.{List, [], ◌∷◌, ◌++◌}
use mathlib.Core.Path.{◌≡◌, refl, ap, subst⁻¹, subst₂, subst₃}
use Rattle.verdict.specs.declared.Verdict.{Verdict}
use Rattle.verdict.specs.Orders.{is_good}
use Rattle.place.specs.declared.Place.{Place}
use Rattle.place.specs.Steps.{Step}
use Rattle.place.specs.Rules.{opened, is_open, keeps}
use Rattle.place.specs.Steps.{NOTHING, FAILED, is_end, becomes}
use Rattle.place.proofs.Kept.{open_kept}
use Rattle.place.proofs.Lives.{left, end-stops, Turn, on, over}
use Rattle.places.specs.Rows.{place_at}
use Rattle.exchange.specs.declared.Exchanges.{Exchanges}
use Rattle.exchange.specs.Calls.{Sound}
use Rattle.exchange.specs.Lives.{ends}
use Rattle.exchange.specs.Logs.{Line, of_begin, logged_by, is_tick, begins, tells, speaks, answers, resends, count, up_to}
use Rattle.exchange.proofs.Kept.{rules-of}
use Rattle.exchange.proofs.Turns.{Own, Turned, Acts}

-- an open place that keeps the rules
pub record Alive (t r : ℕ) (p : Place) : Type 0 where
  pub young : p.age < t
  pub few : p.resends ≤ r

-- a line after which the exchange at place k, begun under serial s, goes on: p becomes q
pub record Goes (t r k s : ℕ) (p q : Place) (l : Line) : Type 0 where
  pub told : ends k l ≡ false
  pub resent : q.resends ≡ cond (resends k l) 1 0 + p.resends
  pub falls : cond (is_tick l) 1 0 + left t r q ≤ left t r p
  pub exactly : answers k l ≡ false → cond (is_tick l) 1 0 + left t r q ≡ left t r p
  pub own : Own k s l

-- the line that ends it
pub record Last (t r k s : ℕ) (p : Place) (l : Line) : Type 0 where
  pub told : ends k l ≡ true
  pub is_last : is_end (tells k l) ≡ true
  pub resent : resends k l ≡ false
  pub spent : tells k l ≡ FAILED → p.resends ≡ r
  pub exactly : answers k l ≡ false → (tells k l ≡ FAILED) × (left t r p ≡ cond (is_tick l) 1 0)
  pub own : Own k s l

-- nothing is told of a place before a beginning takes it
abbrev pub Quiet : ℕ → List Line → Type 0
Quiet k ls = count (speaks k) (up_to (begins k) ls) ≡ 0

-- a life, line by line, from a place that is open on: it lasts to the end of the log, goes on, or ends
pub data Course (t r k s : ℕ) : Place → List Line → Type 0 where
  lasts : {p : Place} → Alive t r p → Course t r k s p []
  goes : {p q : Place} {l : Line} {ls : List Line} → Alive t r p → Goes t r k s p q l → Course t r k s q ls → Course t r k s p (l ∷ ls)
  over-at : {p : Place} {l : Line} {ls : List Line} → Alive t r p → Last t r k s p l → Quiet k ls → Course t r k s p (l ∷ ls)

-- a log that begins at a table, line by line
pub data Log : Exchanges → List Line → Type 0 where
  none : {x : Exchanges} → Log x []
  next : {x y : Exchanges} {l : Line} {ls : List Line} → Acts x l y → Log y ls → Log x (l ∷ ls)

-- what is told of a free place
pub quiet : (k : ℕ) → k < 16 → {x : Exchanges} {ls : List Line} → Log x ls → is_open (place_at x.places k).mode ≡ false → Quiet k ls
unfolding count up_to
quiet k here none o = refl
quiet k here (next {x} {y} {l} {ls} a rest) o = by-test (begins k l) refl (quiet k here rest)
  where
    by-test : (b : Bool) → begins k l ≡ b → (is_open (place_at y.places k).mode ≡ false → Quiet k ls) → count (speaks k) (cond b [] (l ∷ up_to (begins k) ls)) ≡ 0
    by-test true u then = refl
    by-test false u then =
        let e = a.stayed k here o u in
        let still = then (subst⁻¹ (λ (z : Step). is_open z.place.mode ≡ false) e o) in
        let told : tells k l ≡ NOTHING = ap (λ (z : Step). z.outcome) e in
        simp told (omega (arith, still))

-- the course of the exchange in an open place
alive : (t r : ℕ) (p : Place) → is_open p.mode ≡ true → keeps t r p ≡ true → Alive t r p
alive t r p o k = let h = open_kept t r p o k in record { young = h.0; few = h.1 }

pub course : (k : ℕ) → k < 16 → {x : Exchanges} {ls : List Line} → Log x ls → Sound x → is_open (place_at x.places k).mode ≡ true
    → Course x.timeout x.resends k (place_at x.places k).serial (place_at x.places k) ls
unfolding ends is_open
course k here (none {x}) sound o =
    lasts (alive x.timeout x.resends (place_at x.places k) o ((rules-of x sound.kept).keeping k here))
course k here (next {x} {y} {l} {ls} a rest) sound o = by_turn turned.turn (course k here rest a.sound) (quiet k here rest)
  where
    t : ℕ
    t = x.timeout

    r : ℕ
    r = x.resends

    p : Place
    p = place_at x.places k

    q : Place
    q = place_at y.places k

    turned : Turned x l y k
    turned = a.turned k here o

    by_turn : Turn t r p (cond (is_tick l) 1 0) (answers k l) (becomes q (tells k l))
        → (is_open q.mode ≡ true → Course y.timeout y.resends k q.serial q ls) → (is_open q.mode ≡ false → Quiet k ls)
        → Course t r k p.serial p (l ∷ ls)
    by_turn (on g) then free =
        goes {l = l} (alive t r p o turned.kept)
        (record {
          told = simp g.told;
          resent = g.resent;
          falls = g.falls;
          exactly = g.exactly;
          own = turned.own;
        })
        (subst₃ (λ (u n s : ℕ). Course u n k s q ls) a.set.0 a.set.1 g.same (then g.still_open))
    by_turn (over h) then free =
        let stops = end-stops (tells k l) h.told in
        over-at {l = l} (alive t r p o turned.kept)
        (record {
          told = simp stops.0;
          is_last = h.told;
          resent = stops.1;
          spent = h.spent;
          exactly = h.exactly;
          own = turned.own;
        })
        (free (subst⁻¹ (λ (z : Place). is_open z.mode ≡ false) h.freed refl))

-- the exchange that a line of a log began: its course, from the place that was opened for it, in the lines after that one
pub record Started (t r k s : ℕ) (ls : List Line) : Type 0 where
  pub mode : ℕ
  pub course : Course t r k s (opened s mode) ls

pub started : (before : List Line) {x : Exchanges} {log : List Line} → Log x log → Sound x → (v : Verdict) (k s : ℕ) (ls : List Line)
    → log ≡ before ++ (of_begin v k s ∷ ls) → is_good v ≡ true → Started x.timeout x.resends k s ls
started [] none sound v k s ls e g = let z : ◌≡◌ {A = ℕ} 0 1 = cc in absurd (omega arith)
started (b ∷ bs) none sound v k s ls e g = let z : ◌≡◌ {A = ℕ} 0 1 = cc in absurd (omega arith)
started [] (next {x} {y} {l} {ls = rest} a log) sound v k s ls e g =
    let line : l ≡ of_begin v k s = cc in
    let same : rest ≡ ls = cc in
    let h = a.opens v k s line g in
    let o = subst⁻¹ (λ (q : Place). is_open q.mode ≡ true) h.is h.awake in
    let c = course k h.inside log a.sound o in
    record {
      mode = h.mode;
      course =
          subst₂ (λ (q : Place) (n : List Line). Course x.timeout x.resends k q.serial q n) h.is same
          (subst₂ (λ (t r : ℕ). Course t r k (place_at y.places k).serial (place_at y.places k) rest) a.set.0 a.set.1 c);
    }
started (b ∷ bs) (next {x} {y} {l} {ls = rest} a log) sound v k s ls e g =
    let then : rest ≡ bs ++ (of_begin v k s ∷ ls) = cc in
    subst₂ (λ (t r : ℕ). Started t r k s ls) a.set.0 a.set.1 (started bs log a.sound v k s ls then g)

-- a sequence of calls that act so has such a log
pub calls-log : {C : Type 0} (line : Exchanges → C → Line) (next : Exchanges → C → Exchanges)
    → ((x : Exchanges) → Sound x → (c : C) → Acts x (line x c) (next x c)) → (x : Exchanges) → Sound x → (cs : List C) → Log x (logged_by line next x cs)
unfolding logged_by
calls-log line after acts x sound [] = none
calls-log line after acts x sound (c ∷ cs) = let a = acts x sound c in next a (calls-log line after acts (after x c) a.sound cs)
