-- What Q-10 says of an exchange's life, by its course: what is left of it falls with each tick, and some is left while it is open. Assumes nothing.
use Prim.Native.Nat.{ℕ, ◌+◌, ◌-◌, ◌≤◌, ◌<◌}
use native.Mathlib.Omega.{arith}
use mathlib.Core.Bool.{Bool, true, false, cond}
use mathlib.Core.List.{List, [], ◌∷◌}
use mathlib.Core.Path.{◌≡◌, refl, ap, subst₂}
use Rattle.verdict.specs.Orders.{is_good}
use Rattle.place.specs.declared.Place.{Place}
use Rattle.place.specs.Steps.{FAILED, is_end}
use Rattle.place.proofs.Lives.{left, left-at-first}
use Rattle.exchange.specs.Calls.{run}
use Rattle.exchange.specs.Lives.{Exchange, ends, life, Ended, Failed, Lived}
use Rattle.exchange.specs.Logs.{Line, is_tick, begins, gives, tells, answers, misnames, resends, count, up_to}
use Rattle.exchange.specs.Table.{made}
use Rattle.exchange.proofs.Changes.{settings-made}
use Rattle.exchange.proofs.Courses.{Alive, Goes, Last, Course, lasts, goes, over-at, Quiet, Log, Started, started}
use Rattle.exchange.proofs.Kept.{made-sound}
use Rattle.exchange.proofs.Turns.{Own}

-- how it ended, by its first line
module _ (n m k : ℕ) (l : Line) (ls : List Line) (few : count is_tick (up_to (ends k) (l ∷ ls)) < n) where
  ended_here : ends k l ≡ true → is_end (tells k l) ≡ true → (tells k l ≡ FAILED → count (resends k) (life k (l ∷ ls)) ≡ m) → Quiet k ls → Ended n m k (l ∷ ls)
  unfolding up_to life
  ended_here e h f q = record { last = l; later = ls; split = simp e; whole = simp e; is_last = h; spent = f; in_time = few; silent = q }

  ended-later : (i j : ℕ) (d : Ended i j k ls) → ends k l ≡ false → (tells k d.last ≡ FAILED → count (resends k) (life k (l ∷ ls)) ≡ m) → Ended n m k (l ∷ ls)
  unfolding up_to life
  ended-later i j d e f =
      record {
        last = d.last;
        later = d.later;
        split = simp e (ap (λ (s : List Line). l ∷ s) d.split);
        whole = simp e (ap (λ (s : List Line). l ∷ s) d.whole);
        is_last = d.is_last;
        spent = f;
        in_time = few;
        silent = d.silent;
      }

none_left : (b : Bool) (n : ℕ) → cond b 1 0 + n ≡ 0 → (b ≡ false) × (n ≡ 0)
none_left true n e = absurd (omega (arith, e))
none_left false n e = (refl, omega (arith, e))

ticks-once : (b : Bool) (n : ℕ) → 0 < n → n ≡ cond b 1 0 → b ≡ true
ticks-once true n h e = refl
ticks-once false n h e = absurd (omega (arith, h, e))

-- what holds of a life, by its course
module _ (t r k s : ℕ) where
  some_left : (p : Place) → Alive t r p → 0 < left t r p
  some_left p a = omega (arith, a.young)

  -- while it is open fewer ticks come than were left
  pub in_time : {p : Place} {ls : List Line} → Course t r k s p ls → count is_tick (up_to (ends k) ls) < left t r p
  unfolding count up_to
  in_time (lasts {p} a) = some_left p a
  in_time (goes {p} a g c) = let h = in_time c in simp g.told (omega (arith, h, g.falls))
  in_time (over-at {p} a e q) = simp e.told (some_left p a)

  -- it is resent as often as R allows
  pub sent-few : {p : Place} {ls : List Line} → Course t r k s p ls → count (resends k) (life k ls) + p.resends ≤ r
  unfolding count life
  sent-few (lasts a) = omega (arith, a.few)
  sent-few (goes a g c) = let h = sent-few c in simp g.told (omega (arith, h, g.resent))
  sent-few (over-at a e q) = simp (e.told, e.resent) (omega (arith, a.few))

  -- no line of it passes a test that no line passes which leaves it what it has
  module _ (f : Line → Bool) (fails : (l : Line) → Own k s l → f l ≡ false) where
    pub never : {p : Place} {ls : List Line} → Course t r k s p ls → count f (life k ls) ≡ 0
    unfolding count life
    never (lasts a) = refl
    never (goes {l = l} a g c) = let h = never c in simp (g.told, fails l g.own) (omega (arith, h))
    never (over-at {l = l} a e q) = simp (e.told, fails l e.own)

  -- the two ways in which it has ended
  module _ (p : Place) (l : Line) (ls : List Line) where
    abbrev Ends : Type 0
    Ends = Ended (left t r p) (r - p.resends) k (l ∷ ls)

    at_once : Alive t r p → Last t r k s p l → Quiet k ls → Ends
    unfolding count life
    at_once a e q =
        ended_here (left t r p) (r - p.resends) k l ls (in_time (over-at {ls = ls} a e q)) e.told e.is_last
        (λ f. simp (e.told, e.resent) (omega (arith, e.spent f))) q

    in-the-end : (q : Place) → Alive t r p → Goes t r k s p q l → Course t r k s q ls → Ended (left t r q) (r - q.resends) k ls → Ends
    unfolding count life
    in-the-end q a g c d =
        ended-later (left t r p) (r - p.resends) k l ls (in_time (goes a g c)) (left t r q) (r - q.resends) d g.told
        (λ f. simp g.told (omega (arith, d.spent f, g.resent, sent-few c)))

  -- with as many ticks to come as are left it ends
  pub ended : {p : Place} {ls : List Line} → Course t r k s p ls → left t r p ≤ count is_tick ls → Ended (left t r p) (r - p.resends) k ls
  unfolding count
  ended (lasts {p} a) h = absurd (omega (arith, some_left p a, h))
  ended (goes {p} {q} {l} {ls} a g c) h = in-the-end p l ls q a g c (ended c (omega (arith, h, g.falls)))
  ended (over-at {p} {l} {ls} a e q) h = at_once p l ls a e q

  -- and where no reply fits it, at the last of them
  pub fails : {p : Place} {ls : List Line} → Course t r k s p ls → left t r p ≤ count is_tick ls → count (answers k) (life k ls) ≡ 0
      → Failed (left t r p) (r - p.resends) k ls
  unfolding count life ended_here ended-later at_once in-the-end
  fails (lasts {p} a) h n = absurd (omega (arith, some_left p a, h))
  fails (goes {p} {q} {l} {ls} a g c) h n =
      let m = none_left (answers k l) (count (answers k) (life k ls)) (simp g.told at n) in
      let f = fails c (omega (arith, h, g.falls)) m.1 in
      record {
        ended = in-the-end p l ls q a g c f.ended;
        failed = f.failed;
        by_tick = f.by_tick;
        at_tick = simp g.told (omega (arith, f.at_tick, g.exactly m.0));
      }
  fails (over-at {p} {l} {ls} a e q) h n =
      let m = none_left (answers k l) 0 (simp e.told at n) in
      let last = e.exactly m.0 in
      record {
        ended = at_once p l ls a e q;
        failed = last.0;
        by_tick = ticks-once (is_tick l) (left t r p) (some_left p a) last.1;
        at_tick = simp e.told (omega (arith, last.1));
      }

-- so all that Q-10 says of it
lived : (t r k s : ℕ) (ls : List Line) → Started t r k s ls → Lived t r k s ls
lived t r k s ls b =
    let c = b.course in
    let first = left-at-first t r s b.mode in
    let all : r - 0 ≡ r = omega arith in
    record {
      ends_once = λ h. subst₂ (λ (n m : ℕ). Ended n m k ls) first all (ended t r k s c (omega (arith, first, h)));
      open_in_time = omega (arith, first, in_time t r k s c);
      sent_at_most = omega (arith, sent-few t r k s c);
      serial_its_own = never t r k s (gives k s) (λ l o. o.serial) c;
      place_its_own = never t r k s (begins k) (λ l o. o.place) c;
      told_by_serial = never t r k s (misnames k s) (λ l o. o.name) c;
      fails_at_last = λ h n. subst₂ (λ (m d : ℕ). Failed m d k ls) first all (fails t r k s c (omega (arith, first, h)) n);
    }

-- of each exchange in a log of a fresh table that was not refused
pub each-lives : (t r : ℕ) (a b : List ℕ) → is_good (made t r a b).verdict ≡ true → {log : List Line} → Log (made t r a b).state log → (e : Exchange log)
    → Lived t r e.place e.serial e.after
unfolding run
each-lives t r a b g l e =
    let set = settings-made t r a b g [] in
    lived t r e.place e.serial e.after
    (subst₂ (λ (u n : ℕ). Started u n e.place e.serial e.after) set.0 set.1
    (started e.before l (made-sound t r a b g) e.verdict e.place e.serial e.after e.written e.taken))
