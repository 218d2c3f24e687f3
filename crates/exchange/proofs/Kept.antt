-- Every call keeps the state's rules, so from a fresh table that was not refused STATE never comes.
-- By what each call changes: one place opened under a serial that was not open, one place after its step, or all after theirs.
-- Assumes nothing.
use Prim.Native.Nat.{ℕ, ◌+◌, ◌-◌, ◌≤◌, ◌<◌}
use native.Mathlib.Omega.{arith}
use mathlib.Core.Bool.{Bool, true, false, not, ◌&&◌, and-eq-true_iff, false≢true}
use mathlib.Core.List.{List, [], ◌∷◌, map}
use mathlib.Core.Path.{◌≡◌, refl, sym, ap, subst, subst⁻¹, ◌∙◌}
use borrow.Author.Tests.{not-true, ltb-true, ltb-false, leb-true, eqb-true, eqb-false}
use lib.Dec.{ltb, leb, eqb}
use lib.ListN.{length, get_or, set, length-set, length-map, length-replicate, get_or-replicate, get_or-map, get_or-eq_default}
use lib.Seq.{get_or-set_same, get_or-set_other}
use Rattle.octets.specs.Searches.{same}
use Rattle.octets.proofs.Flags.{by-test}
use Rattle.octets.proofs.Searches.{first_fits, first-from}
use Rattle.octets.specs.Parts.{part}
use Rattle.kinds.specs.declared.Row.{Row}
use Rattle.kinds.specs.Table.{rows}
use Rattle.output.specs.Writing.{room_tests, field_tests, packet_verdict}
use Rattle.packet.specs.declared.Header.{Header}
use Rattle.unit.proofs.Under.{under-other}
use Rattle.verdict.specs.declared.Verdict.{Verdict}
use Rattle.verdict.specs.Refusals.{STATE, FULL, CENTRE}
use Rattle.verdict.specs.Orders.{◌or_else◌, is_good}
use Rattle.verdict.proofs.Order.{passed, other-number}
use Rattle.place.specs.declared.Place.{Place}
use Rattle.place.specs.declared.Reply.{Reply}
use Rattle.place.specs.Rules.{opened, free, is_open, holds, keeps}
use Rattle.place.specs.Steps.{ticked, replied}
use Rattle.place.proofs.Kept.{holds-is, fits-holds, replied-holds, ticked-holds, open-keeps, free-keeps, free-holds, replied-keeps, ticked-keeps}
use Rattle.exchange.specs.declared.Centre.{Centre}
use Rattle.exchange.specs.declared.Exchanges.{Exchanges}
use Rattle.exchange.specs.declared.Made.{Made}
use Rattle.exchange.specs.declared.Begun.{Begun}
use Rattle.exchange.specs.declared.Replied.{Replied}
use Rattle.exchange.specs.declared.Ticked.{Ticked}
use Rattle.places.specs.Rows.{place_at, holds_at, keeps_at, fits_at, is_open_as, upward, fitting, low_of, end_of, aged, report, nothing}
use Rattle.exchange.specs.Begins.{mode_of, opening_tests, begun_verdict}
use Rattle.exchange.specs.Table.{in_range, centre, address_at, next_at, centre_of, settled, legal, blank, made, lowest_of, found, placed, entered, fitting_of, answered, ticking}
use Rattle.exchange.specs.Calls.{Asked, begun_by, Call, begin, reply, tick, verdict_of, after, run, Sound}
use Rattle.places.proofs.Serials.{serial-unopened}
use Rattle.places.proofs.Rules.{Apart, once-apart, apart-once, apart-fewer, unchanged, each-place, apart-opened, sound-keeps, sound-once, both-sound}
use Rattle.exchange.proofs.Answers.{made-refused, made-good, legal-parts, found_inside, found-serial, answered-outside, answered-stray, answered-good, ticking-good}
use Rattle.exchange.proofs.Begins.{taken_by_lem, begun-refused, begun-good, begun_verdict_lem}

-- the rules one by one
pub record Rules (x : Exchanges) : Type 0 where
  pub range : in_range x.timeout x.resends ≡ true
  pub differ : same (address_at x 0) (address_at x 1) ≡ false
  pub keeping : (k : ℕ) → k < 16 → keeps_at x.timeout x.resends x.places k ≡ true
  pub apart : (c : ℕ) → c < 2 → Apart x.places (low_of c) (end_of c)

pub rules-of : (x : Exchanges) → legal x ≡ true → Rules x
rules-of x e =
    let l = legal-parts x e in
    let h = (and-eq-true_iff (in_range x.timeout x.resends) (not (same (address_at x 0) (address_at x 1)))).0 l.0 in
    record {
      range = h.0;
      differ = not-true (same (address_at x 0) (address_at x 1)) h.1;
      keeping = sound-keeps x.timeout x.resends x.places l.1;
      apart = λ c o. once-apart x.places (low_of c) (end_of c) (sound-once x.timeout x.resends x.places l.1 c o);
    }

pub legal-by : (x : Exchanges) → Rules x → legal x ≡ true
unfolding legal
legal-by x h =
    let all =
    both-sound x.timeout x.resends x.places
    (λ c o. (λ k l u. h.keeping k (omega arith), apart-once x.places (low_of c) (end_of c) (h.apart c o))) in
    simp (h.range, h.differ, all)

some : (t r : ℕ) → in_range t r ≡ true → 1 ≤ t
some t r e =
    let h = (and-eq-true_iff (leb 1 t && leb t 10) (leb r 9)).0 e in
    leb-true 1 t ((and-eq-true_iff (leb 1 t) (leb t 10)).0 h.0).0

-- a tick leaves a free place free and tells nothing of it, so that it takes each place by the rule for one
module _ (t r : ℕ) (ps : List Place) (k : ℕ) where
  pub aged-at : place_at (map (aged t r) ps) k ≡ aged t r (place_at ps k)
  unfolding ticked is_open
  aged-at = get_or-map (aged t r) ps k free

  pub told_at : get_or (map (report t r) ps) k nothing ≡ report t r (place_at ps k)
  unfolding ticked is_open
  told_at = get_or-map (report t r) ps k free

-- a fresh table keeps them
pub fresh-sound : (t r : ℕ) (a b : List ℕ) → settled t r a b ≡ true → Sound (blank t r a b)
fresh-sound t r a b e =
    let h = (and-eq-true_iff (in_range t r) (not (same a b))).0 e in
    record {
      long = length-replicate 16 free;
      two = refl;
      kept = legal-by (blank t r a b) (record {
        range = h.0;
        differ = not-true (same a b) h.1;
        keeping = λ k u. subst⁻¹ (λ (p : Place). keeps t r p ≡ true) (get_or-replicate 16 k free free u) (free-keeps t r);
        apart = λ c o s j k l u v q. subst⁻¹ (λ (p : Place). holds s p ≡ false) (get_or-replicate 16 k free free (omega arith)) (free-holds s);
      });
    }

module _ (x : Exchanges) (sound : Sound x) where
  rules : Rules x
  rules = rules-of x sound.kept

  inside : (k : ℕ) → k < 16 → k < length x.places
  inside k h = omega (arith, sound.long)

  -- a centre with another serial to try next has the address that it had
  pub renamed : (c n d : ℕ) → address_at (record { places = x.places; centres = set x.centres c (centre (address_at x c) n); timeout = x.timeout; resends = x.resends }) d
      ≡ address_at x d
  renamed c n d = by-test (eqb d c)
      (λ e.
      let same = eqb-true d c e in
      by-test (ltb c 2)
      (λ o.
      ap (λ (j : ℕ). (get_or (set x.centres c (centre (address_at x c) n)) j (centre [] 0)).address.bytes) same
      ∙ ap (λ (y : Centre). y.address.bytes) (get_or-set_same x.centres c (centre (address_at x c) n) (centre [] 0) (let l = ltb-true c 2 o in omega (arith, sound.two, l)))
      ∙ ap (address_at x) (sym same))
      (λ o.
      let past : length x.centres ≤ d = omega (arith, sound.two, ltb-false c 2 o, same) in
      let over : length (set x.centres c (centre (address_at x c) n)) ≤ d = omega (arith, length-set x.centres c (centre (address_at x c) n), past) in
      ap (λ (y : Centre). y.address.bytes)
      (get_or-eq_default (set x.centres c (centre (address_at x c) n)) (centre [] 0) {n = d} over
      ∙ sym (get_or-eq_default x.centres (centre [] 0) {n = d} past))))
      (λ e. ap (λ (y : Centre). y.address.bytes) (get_or-set_other x.centres c d (centre (address_at x c) n) (centre [] 0) (eqb-false d c e)))

  -- an exchange of a centre entered at one of its places, under a serial that is not open within it
  pub entered-sound : (c k s : ℕ) (m : ℕ) → c < 2 → low_of c ≤ k → k < end_of c → is_open_as x.places (low_of c) (end_of c) s ≡ false → is_open m ≡ true
      → Sound (entered x c k s m)
  entered-sound c k s m o l u none open-so =
      let here : k < length x.places = inside k (omega arith) in
      record {
        long = length-set x.places k (opened s m) ∙ sound.long;
        two = length-set x.centres c (centre (address_at x c) (upward s 1)) ∙ sound.two;
        kept = legal-by (entered x c k s m) (record {
          range = rules.range;
          differ = (λ i. same (renamed c (upward s 1) 0 i) (renamed c (upward s 1) 1 i)) ∙ rules.differ;
          keeping =
              each-place x.places k (opened s m) (λ (i : ℕ) (p : Place). i < 16 → keeps x.timeout x.resends p ≡ true) here
              (λ h. open-keeps x.timeout x.resends (opened s m) open-so (some x.timeout x.resends rules.range) (omega arith))
              rules.keeping;
          apart = λ d h.
              by-test (eqb d c)
              (λ e.
              subst⁻¹ (λ (j : ℕ). Apart (set x.places k (opened s m)) (low_of j) (end_of j)) (eqb-true d c e)
              (apart-opened x.places (low_of c) (end_of c) k s m here none (rules.apart c o)))
              (λ e.
              let other = eqb-false d c e in
              apart-fewer x.places (set x.places k (opened s m)) (low_of d) (end_of d)
              (λ a i v w q.
              let apart_from : i ≡ k → ⊥ = λ eq. other (omega (arith, v, w, l, u, eq)) in
              subst (λ (p : Place). holds a p ≡ true) (unchanged x.places k (opened s m) i apart_from) q)
              (rules.apart d h));
        });
      }

  -- other places, of which each keeps the rules and holds no serial that it did not hold
  pub placed-sound : (ps : List Place) → length ps ≡ 16 → ((k : ℕ) → k < 16 → keeps_at x.timeout x.resends ps k ≡ true)
      → ((s k : ℕ) → holds_at ps s k ≡ true → holds_at x.places s k ≡ true) → Sound (placed x ps)
  placed-sound ps n h fewer =
      record {
        long = n;
        two = sound.two;
        kept = legal-by (placed x ps) (record {
          range = rules.range;
          differ = rules.differ;
          keeping = h;
          apart = λ c o. apart-fewer x.places ps (low_of c) (end_of c) (λ s k l u. fewer s k) (rules.apart c o);
        });
      }

-- the place that a reply fits is the centre's, and open under its serial
module _ (x : Exchanges) (c s : ℕ) (w : Reply) where
  pub fitting-low : low_of c ≤ fitting_of x c s w
  unfolding fitting
  fitting-low = first-from (fits_at x.places s w) (low_of c) (end_of c - low_of c)

  pub fitting-fits : fitting_of x c s w < end_of c → fits_at x.places s w (fitting_of x c s w) ≡ true
  unfolding fitting
  fitting-fits h = first_fits (fits_at x.places s w) (low_of c) (end_of c - low_of c) (omega (arith, h))

-- the packet writer never says STATE
writer-other : (rs : List Row) (out : List ℕ) (h : Header) (l : ℕ) → (packet_verdict rs out h l).number ≡ STATE → ⊥
unfolding packet_verdict
writer-other rs out h l =
    other-number STATE (room_tests out l 30) _ refl
    (other-number STATE (field_tests h) _ refl (under-other rs h.command (part out 27 (27 + l)) STATE refl refl refl (λ e. omega (arith, e))))

-- each call keeps the rules, and its verdict is not STATE
record Well (v : Verdict) (y : Exchanges) : Type 0 where
  pub sound : Sound y
  pub other : v.number ≡ STATE → ⊥

module _ (x : Exchanges) (sound : Sound x) where
  module _ (a : Asked) where
    v : Verdict
    v = begun_verdict rows x a.centre a.out a.draft a.size

    begin-other : v.number ≡ STATE → ⊥
    unfolding v begun_verdict
    begin-other e =
        let rest = (ltb a.centre 2 or_else CENTRE) ∷ (ltb (lowest_of x a.centre) (end_of a.centre) or_else FULL) ∷ [] in
        other-number STATE rest _ refl (other-number STATE (opening_tests a.out a.draft a.size) _ refl (writer-other rows _ _ _))
        (ap (λ (w : Verdict). w.number) (sym (passed (legal x or_else STATE) rest _ sound.kept)) ∙ e)

    begin-sound : Sound (begun_by x a).state
    unfolding v
    begin-sound = by-test (is_good v) refl
      where
        by-test : (b : Bool) → is_good v ≡ b → Sound (begun_by x a).state
        by-test false q = subst⁻¹ (λ (y : Begun). Sound y.state) (begun-refused rows x a.centre a.out a.draft a.size q) sound
        by-test true q =
            let t = taken_by_lem rows x a.centre a.out a.draft a.size q in
            let c = a.centre in
            let in-it = found_inside x c t.find in
            let unopened =
            subst⁻¹ (λ (s : ℕ). is_open_as x.places (low_of c) (end_of c) s ≡ false) (found-serial x c t.find)
            (serial-unopened x.places (low_of c) (end_of c) (next_at x c) (omega arith)) in
            subst⁻¹ (λ (y : Begun). Sound y.state) (begun-good rows x a.centre a.out a.draft a.size q)
            (entered-sound x sound c (found x c).place (found x c).serial (mode_of a.draft.command) in-it.centre in-it.low in-it.high unopened t.opens)

    begin-well : Well (begun_by x a).verdict (begun_by x a).state
    unfolding v
    begin-well =
        record {
          sound = begin-sound;
          other = λ e. begin-other (ap (λ (w : Verdict). w.number) (sym (begun_verdict_lem rows x a.centre a.out a.draft a.size)) ∙ e);
        }

  reply-well : (a : List ℕ) (s : ℕ) (w : Reply) → Well (answered x a s w).verdict (answered x a s w).state
  reply-well a s w = by_tests (ltb c 2) refl (ltb k (end_of c)) refl
    where
      c : ℕ
      c = centre_of x a

      k : ℕ
      k = fitting_of x c s w

      p : Place
      p = place_at x.places k

      says : Replied → Type 0
      says y = Well y.verdict y.state

      by_tests : (o : Bool) → ltb c 2 ≡ o → (b : Bool) → ltb k (end_of c) ≡ b → says (answered x a s w)
      by_tests false e b q =
          subst⁻¹ says (answered-outside x a s w sound.kept (ltb-false c 2 e)) (record { sound = sound; other = λ h. omega (arith, h) })
      by_tests true e false q =
          subst⁻¹ says (answered-stray x a s w sound.kept (ltb-true c 2 e) (ltb-false k (end_of c) q)) (record { sound = sound; other = λ h. omega (arith, h) })
      by_tests true e true q =
          let h = ltb-true k (end_of c) q in
          let o = (holds-is s p (fits-holds s w p (fitting-fits x c s w h))).0 in
          let step = (replied x.resends w p).place in
          let here = inside x sound k (omega (arith, ltb-true c 2 e, h)) in
          subst⁻¹ says (answered-good x a s w sound.kept (ltb-true c 2 e) h)
          (record {
            sound =
                placed-sound x sound (set x.places k step) (length-set x.places k step ∙ sound.long)
                (each-place x.places k step (λ (i : ℕ) (y : Place). i < 16 → keeps x.timeout x.resends y ≡ true) here
                (λ u. replied-keeps x.timeout x.resends p (some x.timeout x.resends (rules x sound).range) w o)
                (rules x sound).keeping)
                (λ n. each-place x.places k step (λ (i : ℕ) (y : Place). holds n y ≡ true → holds_at x.places n i ≡ true) here
                (replied-holds n x.resends p w)
                (λ i e. e));
            other = λ h. omega (arith, h);
          })

  tick-well : Well (ticking x).verdict (ticking x).state
  tick-well =
      subst⁻¹ (λ (y : Ticked). Well y.verdict y.state) (ticking-good x sound.kept)
      (record {
        sound =
            placed-sound x sound (map (aged x.timeout x.resends) x.places) (length-map x.places (aged x.timeout x.resends) ∙ sound.long)
            (λ k u. subst⁻¹ (λ (p : Place). keeps x.timeout x.resends p ≡ true) (aged-at x.timeout x.resends x.places k)
            (ticked-keeps x.timeout x.resends (place_at x.places k) (some x.timeout x.resends (rules x sound).range) ((rules x sound).keeping k u)))
            (λ a k e. ticked-holds a x.resends (place_at x.places k) x.timeout (subst (λ (p : Place). holds a p ≡ true) (aged-at x.timeout x.resends x.places k) e));
        other = λ h. omega (arith, h);
      })

  well : (c : Call) → Well (verdict_of x c) (after x c)
  unfolding verdict_of after
  well (begin a) = begin-well a
  well (reply a s w) = reply-well a s w
  well tick = tick-well

-- over any sequence of calls
pub run_sound : (x : Exchanges) → Sound x → (cs : List Call) → Sound (run x cs)
unfolding run
run_sound x sound [] = sound
run_sound x sound (c ∷ cs) = run_sound (after x c) (well x sound c).sound cs

-- a fresh table that was not refused keeps the rules, and so does every table after it
pub made-sound : (t r : ℕ) (a b : List ℕ) → is_good (made t r a b).verdict ≡ true → Sound (made t r a b).state
made-sound t r a b g =
    by-test (settled t r a b)
    (λ e. subst⁻¹ (λ (y : Made). Sound y.state) (made-good t r a b e) (fresh-sound t r a b e))
    (λ e. absurd (false≢true (sym (ap (λ (y : Made). is_good y.verdict) (made-refused t r a b e)) ∙ g)))

pub never-broken : (t r : ℕ) (a b : List ℕ) → is_good (made t r a b).verdict ≡ true → (cs : List Call) → Sound (run (made t r a b).state cs)
never-broken t r a b g = run_sound (made t r a b).state (made-sound t r a b g)

-- so STATE never comes
pub never-STATE : (t r : ℕ) (a b : List ℕ) → is_good (made t r a b).verdict ≡ true → (cs : List Call) (c : Call)
    → (verdict_of (run (made t r a b).state cs) c).number ≡ STATE → ⊥
never-STATE t r a b g cs c = (well (run (made t r a b).state cs) (never-broken t r a b g cs) c).other
