-- One centre does not disturb the other. Two tables that are alike in all that is a centre's answer its calls alike and stay alike; a call of the other
-- centre leaves a table alike to itself. So over any sequence, with the other's calls or without. Assumes nothing.
use Prim.Native.Nat.{ℕ, zero, suc, ◌+◌, ◌-◌, ◌≤◌, ◌<◌}
use native.Mathlib.Omega.{arith}
use mathlib.Core.Bool.{Bool, true, false, not, true≢false, false≢true}
use mathlib.Core.List.{List, [], ◌∷◌}
use mathlib.Core.Path.{◌≡◌, refl, sym, ap, subst, subst⁻¹, ◌∙◌}
use borrow.Author.Tests.{not-true, not-false, eqb-true, eqb-false, ltb-true, ltb-false, ne_eqb}
use lib.Dec.{eqb, ltb}
use lib.ListN.{get_or, set}
use lib.Seq.{get_or-set_same}
use Rattle.kinds.specs.Table.{rows}
use Rattle.octets.specs.Searches.{first_fit, any_fits, same}
use Rattle.octets.proofs.Alike.{same-is, same_self}
use Rattle.octets.proofs.Flags.{by-test, both-or-none}
use Rattle.octets.proofs.Searches.{first-same, first-is, found-there, first_fits}
use Rattle.output.specs.Writing.{packet_verdict, written_packet}
use Rattle.place.specs.declared.Place.{Place}
use Rattle.place.specs.declared.Reply.{Reply}
use Rattle.place.specs.Steps.{Step}
use Rattle.place.specs.Rules.{is_open, holds, opened}
use Rattle.place.specs.Steps.{fits, replied, ticked}
use Rattle.places.specs.Rows.{place_at, free_at, holds_at, fits_at, lowest_free, is_open_as, upward, serial_for, fitting, low_of, end_of, owner_of, nothing, report}
use Rattle.places.proofs.Rules.{changed, unchanged}
use Rattle.verdict.specs.declared.Verdict.{Verdict}
use Rattle.verdict.specs.Orders.{good, is_good, in_order}
use Rattle.exchange.specs.declared.Begun.{Begun}
use Rattle.exchange.specs.declared.Centre.{Centre}
use Rattle.exchange.specs.declared.Draft.{Draft}
use Rattle.exchange.specs.declared.Exchanges.{Exchanges}
use Rattle.exchange.specs.Table.{Found}
use Rattle.exchange.specs.declared.Replied.{Replied}
use Rattle.exchange.specs.Begins.{headed_by, mode_of, opening_tests, draft_verdict, begun_verdict, begun, begun_output}
use Rattle.exchange.specs.Calls.{Asked, begun_by, Call, begin, reply, tick, after, Sound}
use Rattle.exchange.specs.Centres.{listed, eight_of, own_of, Answer, to_begin, to_reply, to_tick, answer_to, spared}
use Rattle.exchange.specs.Table.{centre, centre_at, address_at, next_at, centre_of, lowest_of, serial_of, found, entered, fitting_of, stepped, answered, ticking}
use Rattle.exchange.proofs.Answers.{found-full, found-good, found_inside, answered-outside, answered-stray, answered-good, ticking-good}
use Rattle.exchange.proofs.Begins.{find-decides, draft-decides, taken_by_lem, begun-refused, output-kept, begun-good, output-written}
use Rattle.exchange.proofs.Changes.{begin-refused, begin-unwritten, begun-owner, begin-others, begin-other-centre, reply-rest, tick-rest, address_stays, settings-stay, tick-each, tick-tells}
use Rattle.exchange.proofs.Kept.{rules-of, renamed, fitting-low}
use Rattle.exchange.proofs.Steps.{reply-passes}
use Rattle.exchange.proofs.Taking.{begin-outside}

-- alike in what is centre c's, in T, R and both addresses
pub record Alike (c : ℕ) (x y : Exchanges) : Type 0 where
  pub timeout : x.timeout ≡ y.timeout
  pub resends : x.resends ≡ y.resends
  pub addresses : (d : ℕ) → address_at x d ≡ address_at y d
  pub centre : centre_at x c ≡ centre_at y c
  pub places : (k : ℕ) → low_of c ≤ k → k < end_of c → place_at x.places k ≡ place_at y.places k

pub alike_self : (c : ℕ) (x : Exchanges) → Alike c x x
alike_self c x = record { timeout = refl; resends = refl; addresses = λ d. refl; centre = refl; places = λ k l h. refl }

pub alike-on : (c : ℕ) (x y z : Exchanges) → Alike c x y → Alike c y z → Alike c x z
alike-on c x y z a b =
    record {
      timeout = a.timeout ∙ b.timeout;
      resends = a.resends ∙ b.resends;
      addresses = λ d. a.addresses d ∙ b.addresses d;
      centre = a.centre ∙ b.centre;
      places = λ k l h. a.places k l h ∙ b.places k l h;
    }

listed_same : {A : Type 0} (f g : ℕ → A) (i n : ℕ) → ((k : ℕ) → i ≤ k → k < i + n → f k ≡ g k) → listed f i n ≡ listed g i n
unfolding listed
listed_same f g i zero h = refl
listed_same f g i (suc n) h = λ j. h i (omega arith) (omega arith) j ∷ listed_same f g (suc i) n (λ k l u. h k (omega arith) (omega arith)) j

pub own_same : (c : ℕ) (x y : Exchanges) → Alike c x y → own_of c x ≡ own_of c y
own_same c x y a =
    λ i. record { places = listed_same (place_at x.places) (place_at y.places) (low_of c) 8 a.places i; centre = a.centre i }

any_same : (f g : ℕ → Bool) (i n : ℕ) → ((k : ℕ) → i ≤ k → k < i + n → f k ≡ g k) → any_fits f i n ≡ any_fits g i n
any_same f g i n h =
    both-or-none (any_fits f i n) (any_fits g i n)
    (found-there f g i n i n (λ k l u e. (l, u, sym (h k l u) ∙ e)))
    (found-there g f i n i n (λ k l u e. (l, u, h k l u ∙ e)))

-- the centre of an address, by the addresses alone
centre-same : (x y : Exchanges) → ((d : ℕ) → address_at x d ≡ address_at y d) → (a : List ℕ) → centre_of x a ≡ centre_of y a
unfolding centre_of
centre-same x y h a = first-same (λ (d : ℕ). same (address_at x d) a) (λ (d : ℕ). same (address_at y d) a) 0 2 (λ d l u. ap (λ (b : List ℕ). same b a) (h d))

-- centre d's own address, and any other
module _ (x : Exchanges) (sound : Sound x) (d : ℕ) (own : d < 2) (a : List ℕ) where
  pub is-its : same (address_at x d) a ≡ true → centre_of x a ≡ d
  unfolding centre_of
  is-its e =
      first-is (λ (j : ℕ). same (address_at x j) a) 0 2 d (omega arith) own e
      (λ j l u.
      let first : j ≡ 0 = omega arith in
      let second : d ≡ 1 = omega arith in
      by-test (same (address_at x j) a)
      (λ t.
      let both = same-is (address_at x j) a t ∙ sym (same-is (address_at x d) a e) in
      let no = sym (rules-of x sound.kept).differ ∙ (λ i. same (address_at x (sym first i)) (address_at x (sym second i))) in
      absurd (false≢true (no ∙ ap (same (address_at x j)) (sym both) ∙ same_self (address_at x j))))
      (λ f. f))

  pub not-its : same (address_at x d) a ≡ false → centre_of x a ≡ d → ⊥
  unfolding centre_of
  not-its e q =
      let here = first_fits (λ (j : ℕ). same (address_at x j) a) 0 2 (omega (arith, q, own)) in
      false≢true (sym e ∙ ap (λ (j : ℕ). same (address_at x j) a) (sym q) ∙ here)

-- a call of another centre leaves what is centre c's
module _ (c d : ℕ) (other : c ≡ d → ⊥) (x : Exchanges) (sound : Sound x) where
  begin-leaves : (a : Asked) → a.centre ≡ d → Alike c (begun_by x a).state x
  unfolding after
  begin-leaves a e =
      by-test (is_good (begun_by x a).verdict)
      (λ g.
      record {
        timeout = (settings-stay x (begin a)).0;
        resends = (settings-stay x (begin a)).1;
        addresses = address_stays x sound (begin a);
        centre = begin-other-centre x a g c (λ q. other (q ∙ e));
        places = λ k l h. begin-others x a g k (λ q. other (omega (arith, l, h, q, begun-owner x a g, e)));
      })
      (λ g. subst⁻¹ (λ (y : Begun). Alike c y.state x) (begin-refused x a g) (alike_self c x))

  reply-leaves : (a : List ℕ) (s : ℕ) (w : Reply) → (centre_of x a ≡ c → ⊥) → c < 2 → Alike c (answered x a s w).state x
  unfolding after
  reply-leaves a s w n small =
      let rest = reply-rest x a s w in
      record {
        timeout = ap (λ (y : Exchanges). y.timeout) rest;
        resends = ap (λ (y : Exchanges). y.resends) rest;
        addresses = λ j. ap (λ (y : Exchanges). address_at y j) rest;
        centre = ap (λ (y : Exchanges). centre_at y c) rest;
        places = λ k l h.
            let no : eqb (centre_of x a) (owner_of k) ≡ false = ne_eqb (centre_of x a) (owner_of k) (λ q. n (omega (arith, q, l, h))) in
            ap (λ (y : Step). y.place) (reply-passes x sound k (omega (arith, h, small)) a s w (simp no));
      }

  -- "Replies from one, and beginnings for it, alter no place, serial .. of the other"
  pub other-leaves : c < 2 → d < 2 → (k : Call) → spared d (address_at x d) k ≡ false → Alike c (after x k) x
  unfolding spared after
  other-leaves u v (begin a) e = begin-leaves a (eqb-true a.centre d (not-false _ e))
  other-leaves u v (reply a s w) e = reply-leaves a s w (λ q. other (sym q ∙ is-its x sound d v a (not-false _ e))) u
  other-leaves u v tick e = absurd (true≢false e)

-- two tables that are alike
module _ (c : ℕ) (own : c < 2) (x y : Exchanges) (sx : Sound x) (sy : Sound y) (a : Alike c x y) where
  at : (k : ℕ) → low_of c ≤ k → k < low_of c + (end_of c - low_of c) → place_at x.places k ≡ place_at y.places k
  at k l h = a.places k l (omega arith)

  -- find the same place and serial
  lowest-same : lowest_of x c ≡ lowest_of y c
  unfolding lowest_free
  lowest-same =
      first-same (free_at x.places) (free_at y.places) (low_of c) (end_of c - low_of c) (λ k l h. ap (λ (p : Place). not (is_open p.mode)) (at k l h))

  open-same : (s : ℕ) → is_open_as x.places (low_of c) (end_of c) s ≡ is_open_as y.places (low_of c) (end_of c) s
  unfolding is_open_as
  open-same s = any_same (holds_at x.places s) (holds_at y.places s) (low_of c) (end_of c - low_of c) (λ k l h. ap (holds s) (at k l h))

  next-same : next_at x c ≡ next_at y c
  next-same = ap (λ (z : Centre). z.next) a.centre

  serial-same : serial_of x c ≡ serial_of y c
  unfolding serial_for
  serial-same =
      (λ i. upward (next-same i) (first_fit (λ (j : ℕ). not (open-same (upward (next-same i) j) i)) 0 (end_of c - low_of c)))

  found-same : found x c ≡ found y c
  found-same =
      by-test (ltb (lowest_of x c) (end_of c))
      (λ t.
      let h = ltb-true (lowest_of x c) (end_of c) t in
      found-good x c sx.kept own h
      ∙ (λ i. record { verdict = good; place = lowest-same i; serial = serial-same i })
      ∙ sym (found-good y c sy.kept own (subst (λ (k : ℕ). k < end_of c) lowest-same h)))
      (λ f.
      let h = ltb-false (lowest_of x c) (end_of c) f in
      found-full x c sx.kept own h ∙ sym (found-full y c sy.kept own (subst (λ (k : ℕ). end_of c ≤ k) lowest-same h)))

  -- and so begin alike
  module _ (out : List ℕ) (d : Draft) (l : ℕ) where
    draft-same : draft_verdict rows x c out d l ≡ draft_verdict rows y c out d l
    draft-same =
        λ i. in_order (opening_tests out d l) (packet_verdict rows out (headed_by d (a.addresses c i) (found-same i).serial d.command) l)

    verdict-same : begun_verdict rows x c out d l ≡ begun_verdict rows y c out d l
    verdict-same =
        by-test (is_good (found x c).verdict)
        (λ g.
        sym (draft-decides rows x c out d l g)
        ∙ draft-same
        ∙ draft-decides rows y c out d l (subst (λ (f : Found). is_good f.verdict ≡ true) found-same g))
        (λ e.
        sym (find-decides rows x c out d l e)
        ∙ ap (λ (f : Found). f.verdict) found-same
        ∙ find-decides rows y c out d l (subst (λ (f : Found). is_good f.verdict ≡ false) found-same e))

    abbrev shown : Begun → List ℕ → Answer
    shown b q = to_begin b.verdict b.place b.length b.serial q

    begins-same : shown (begun rows x c out d l) (begun_output rows x c out d l) ≡ shown (begun rows y c out d l) (begun_output rows y c out d l)
    begins-same =
        by-test (is_good (begun_verdict rows x c out d l))
        (λ g.
        let h = subst (λ (v : Verdict). is_good v ≡ true) verdict-same g in
        (λ i. shown (begun-good rows x c out d l g i) (output-written rows x c out d l g i))
        ∙ (λ i. to_begin (verdict-same i) (found-same i).place (30 + l) (found-same i).serial
        (written_packet rows out (headed_by d (a.addresses c i) (found-same i).serial d.command) l))
        ∙ sym (λ i. shown (begun-good rows y c out d l h i) (output-written rows y c out d l h i)))
        (λ e.
        let h = subst (λ (v : Verdict). is_good v ≡ false) verdict-same e in
        (λ i. shown (begun-refused rows x c out d l e i) (output-kept rows x c out d l e i))
        ∙ (λ i. to_begin (verdict-same i) 0 0 0 out)
        ∙ sym (λ i. shown (begun-refused rows y c out d l h i) (output-kept rows y c out d l h i)))

    entered-alike : (k s m : ℕ) → k < 16 → Alike c (entered x c k s m) (entered y c k s m)
    entered-alike k s m h =
        record {
          timeout = a.timeout;
          resends = a.resends;
          addresses = λ j. renamed x sx c (upward s 1) j ∙ a.addresses j ∙ sym (renamed y sy c (upward s 1) j);
          centre =
              get_or-set_same x.centres c (centre (address_at x c) (upward s 1)) (centre [] 0) (omega (arith, sx.two, own))
              ∙ ap (λ (b : List ℕ). centre b (upward s 1)) (a.addresses c)
              ∙ sym (get_or-set_same y.centres c (centre (address_at y c) (upward s 1)) (centre [] 0) (omega (arith, sy.two, own)));
          places = λ j l u.
              by-test (eqb j k)
              (λ t.
              let is = eqb-true j k t in
              ap (place_at (set x.places k (opened s m))) is
              ∙ changed x.places k (opened s m) (omega (arith, sx.long, h))
              ∙ sym (changed y.places k (opened s m) (omega (arith, sy.long, h)))
              ∙ sym (ap (place_at (set y.places k (opened s m))) is))
              (λ f.
              let no = eqb-false j k f in
              unchanged x.places k (opened s m) j no ∙ a.places j l u ∙ sym (unchanged y.places k (opened s m) j no));
        }

  -- a beginning for the centre
  begin-alike : (b : Asked) → b.centre ≡ c → (answer_to c x (begin b) ≡ answer_to c y (begin b)) × (Alike c (after x (begin b)) (after y (begin b)))
  unfolding answer_to after
  begin-alike b e =
      subst⁻¹
      (λ (n : ℕ).
      let z : Asked = record { centre = n; out = b.out; draft = b.draft; size = b.size } in
      (shown b.out b.draft b.size (begun_by x z) (begun_output rows x n b.out b.draft b.size)
      ≡ shown b.out b.draft b.size (begun_by y z) (begun_output rows y n b.out b.draft b.size))
      × (Alike c (begun_by x z).state (begun_by y z).state))
      e
      (begins-same b.out b.draft b.size, states)
    where
      z : Asked
      z = record { centre = c; out = b.out; draft = b.draft; size = b.size }

      v : Exchanges → Verdict
      v w = begun_verdict rows w c b.out b.draft b.size

      states : Alike c (begun_by x z).state (begun_by y z).state
      states =
          by-test (is_good (v x))
          (λ g.
          let h = subst (λ (u : Verdict). is_good u ≡ true) (verdict-same b.out b.draft b.size) g in
          let sx' = ap (λ (w : Begun). w.state) (begun-good rows x c b.out b.draft b.size g) in
          let sy' =
          ap (λ (w : Begun). w.state) (begun-good rows y c b.out b.draft b.size h)
          ∙ (λ i. entered y c (sym found-same i).place (sym found-same i).serial (mode_of b.draft.command)) in
          let in-it = found_inside x c (taken_by_lem rows x c b.out b.draft b.size g).find in
          subst⁻¹ (λ (w : Exchanges). Alike c w (begun_by y z).state) sx'
          (subst⁻¹ (λ (w : Exchanges). Alike c (entered x c (found x c).place (found x c).serial (mode_of b.draft.command)) w) sy'
          (entered-alike b.out b.draft b.size (found x c).place (found x c).serial (mode_of b.draft.command) (omega (arith, in-it.high, own)))))
          (λ g.
          let h = subst (λ (u : Verdict). is_good u ≡ false) (verdict-same b.out b.draft b.size) g in
          subst⁻¹ (λ (w : Begun). Alike c w.state (begun_by y z).state) (begun-refused rows x c b.out b.draft b.size g)
          (subst⁻¹ (λ (w : Begun). Alike c x w.state) (begun-refused rows y c b.out b.draft b.size h) a))

  -- a reply from the centre
  module _ (l : List ℕ) (s : ℕ) (w : Reply) where
    abbrev told : Replied → Answer
    told z = to_reply z.verdict z.place z.outcome

    fitting-same : fitting_of x c s w ≡ fitting_of y c s w
    unfolding fitting
    fitting-same = first-same (fits_at x.places s w) (fits_at y.places s w) (low_of c) (end_of c - low_of c) (λ k j h. ap (fits s w) (at k j h))

    stepped-alike : (k : ℕ) → low_of c ≤ k → k < end_of c
        → (told (stepped x k w) ≡ told (stepped y k w)) × (Alike c (stepped x k w).state (stepped y k w).state)
    stepped-alike k j h =
        let step : replied x.resends w (place_at x.places k) ≡ replied y.resends w (place_at y.places k) =
        λ i. replied (a.resends i) w (a.places k j h i) in
        let p = (replied x.resends w (place_at x.places k)).place in
        let q = (replied y.resends w (place_at y.places k)).place in (
          λ i. to_reply good k (step i).outcome,
          record {
            timeout = a.timeout;
            resends = a.resends;
            addresses = a.addresses;
            centre = a.centre;
            places = λ m u v.
                by-test (eqb m k)
                (λ t.
                let is = eqb-true m k t in
                ap (place_at (set x.places k p)) is
                ∙ changed x.places k p (omega (arith, sx.long, h, own))
                ∙ ap (λ (z : Step). z.place) step
                ∙ sym (changed y.places k q (omega (arith, sy.long, h, own)))
                ∙ sym (ap (place_at (set y.places k q)) is))
                (λ f.
                let no = eqb-false m k f in
                unchanged x.places k p m no ∙ a.places m u v ∙ sym (unchanged y.places k q m no));
          },
        )

    reply-alike : centre_of x l ≡ c
        → (told (answered x l s w) ≡ told (answered y l s w)) × (Alike c (answered x l s w).state (answered y l s w).state)
    reply-alike e =
        let f : centre_of y l ≡ c = sym (centre-same x y a.addresses l) ∙ e in
        let ox = subst⁻¹ (λ (n : ℕ). n < 2) e own in
        let oy = subst⁻¹ (λ (n : ℕ). n < 2) f own in
        by-test (ltb (fitting_of x c s w) (end_of c))
        (λ t.
        let h = ltb-true (fitting_of x c s w) (end_of c) t in
        let k = fitting_of x c s w in
        let gx : answered x l s w ≡ stepped x k w =
        answered-good x l s w sx.kept ox (subst⁻¹ (λ (n : ℕ). fitting_of x n s w < end_of n) e h) ∙ ap (λ (n : ℕ). stepped x (fitting_of x n s w) w) e in
        let gy : answered y l s w ≡ stepped y k w =
        answered-good y l s w sy.kept oy (subst⁻¹ (λ (n : ℕ). fitting_of y n s w < end_of n) f (subst (λ (n : ℕ). n < end_of c) fitting-same h))
        ∙ ap (λ (n : ℕ). stepped y (fitting_of y n s w) w) f
        ∙ ap (λ (n : ℕ). stepped y n w) (sym fitting-same) in
        let both = stepped-alike k (fitting-low x c s w) h in (
          ap told gx ∙ both.0 ∙ sym (ap told gy),
          subst⁻¹ (λ (z : Replied). Alike c z.state (answered y l s w).state) gx (subst⁻¹ (λ (z : Replied). Alike c (stepped x k w).state z.state) gy both.1),
        ))
        (λ t.
        let h = ltb-false (fitting_of x c s w) (end_of c) t in
        let nx = answered-stray x l s w sx.kept ox (subst⁻¹ (λ (n : ℕ). end_of n ≤ fitting_of x n s w) e h) in
        let ny = answered-stray y l s w sy.kept oy (subst⁻¹ (λ (n : ℕ). end_of n ≤ fitting_of y n s w) f (subst (λ (n : ℕ). end_of c ≤ n) fitting-same h)) in (
          ap told nx ∙ sym (ap told ny),
          subst⁻¹ (λ (z : Replied). Alike c z.state (answered y l s w).state) nx (subst⁻¹ (λ (z : Replied). Alike c x z.state) ny a),
        ))

    -- one from neither centre's address
    stray-alike : 2 ≤ centre_of x l
        → (told (answered x l s w) ≡ told (answered y l s w)) × (Alike c (answered x l s w).state (answered y l s w).state)
    stray-alike h =
        let nx = answered-outside x l s w sx.kept h in
        let ny = answered-outside y l s w sy.kept (subst (λ (n : ℕ). 2 ≤ n) (centre-same x y a.addresses l) h) in (
          ap told nx ∙ sym (ap told ny),
          subst⁻¹ (λ (z : Replied). Alike c z.state (answered y l s w).state) nx (subst⁻¹ (λ (z : Replied). Alike c x z.state) ny a),
        )

  -- a tick
  tick-alike : (answer_to c x tick ≡ answer_to c y tick) × (Alike c (after x tick) (after y tick))
  unfolding answer_to after
  tick-alike =
      let rx = tick-rest x in
      let ry = tick-rest y in (
        (λ i. to_tick (ticking-good x sx.kept i).verdict
            (listed_same (λ (k : ℕ). get_or (ticking x).reports k nothing) (λ (k : ℕ). get_or (ticking y).reports k nothing) (low_of c) 8 reports i))
            ∙ sym (λ i. to_tick (ticking-good y sy.kept i).verdict (eight_of c (λ (k : ℕ). get_or (ticking y).reports k nothing))),
        record {
          timeout = ap (λ (z : Exchanges). z.timeout) rx ∙ a.timeout ∙ sym (ap (λ (z : Exchanges). z.timeout) ry);
          resends = ap (λ (z : Exchanges). z.resends) rx ∙ a.resends ∙ sym (ap (λ (z : Exchanges). z.resends) ry);
          addresses = λ d. ap (λ (z : Exchanges). address_at z d) rx ∙ a.addresses d ∙ sym (ap (λ (z : Exchanges). address_at z d) ry);
          centre = ap (λ (z : Exchanges). centre_at z c) rx ∙ a.centre ∙ sym (ap (λ (z : Exchanges). centre_at z c) ry);
          places = λ k l h.
              tick-each x sx.kept k
              ∙ (λ i. (ticked (a.timeout i) (a.resends i) (a.places k l h i)).place)
              ∙ sym (tick-each y sy.kept k);
        },
      )
    where
      reports : (k : ℕ) → low_of c ≤ k → k < low_of c + 8 → get_or (ticking x).reports k nothing ≡ get_or (ticking y).reports k nothing
      reports k l h =
          tick-tells x sx.kept k
          ∙ (λ i. report (a.timeout i) (a.resends i) (a.places k l h i))
          ∙ sym (tick-tells y sy.kept k)

  -- a beginning for a centre that is none of the two
  outside-alike : (b : Asked) → 2 ≤ b.centre → (answer_to c x (begin b) ≡ answer_to c y (begin b)) × (Alike c (after x (begin b)) (after y (begin b)))
  unfolding answer_to after
  outside-alike b h =
      let nx = begin-outside x sx b h in
      let ny = begin-outside y sy b h in
      let kx = begin-unwritten x b (ap (λ (z : Begun). is_good z.verdict) nx) in
      let ky = begin-unwritten y b (ap (λ (z : Begun). is_good z.verdict) ny) in (
        (λ i. shown b.out b.draft b.size (nx i) (kx i)) ∙ sym (λ i. shown b.out b.draft b.size (ny i) (ky i)),
        subst⁻¹ (λ (z : Begun). Alike c z.state (begun_by y b).state) nx (subst⁻¹ (λ (z : Begun). Alike c x z.state) ny a),
      )

  -- any call that is not the other's
  pub spared-alike : (d : ℕ) → d < 2 → (c ≡ d → ⊥) → (k : Call) → spared d (address_at x d) k ≡ true
      → (answer_to c x k ≡ answer_to c y k) × (Alike c (after x k) (after y k))
  unfolding spared answer_to after
  spared-alike d v other (begin b) e =
      let no = eqb-false b.centre d (not-true _ e) in
      by-test (ltb b.centre 2)
      (λ t. begin-alike b (omega (arith, ltb-true b.centre 2 t, own, v, no, other)))
      (λ f. outside-alike b (ltb-false b.centre 2 f))
  spared-alike d v other (reply l s w) e =
      let no = not-its x sx d v l (not-true _ e) in
      by-test (ltb (centre_of x l) 2)
      (λ t. reply-alike l s w (omega (arith, ltb-true (centre_of x l) 2 t, own, v, no, other)))
      (λ f. stray-alike l s w (ltb-false (centre_of x l) 2 f))
  spared-alike d v other tick e = tick-alike
