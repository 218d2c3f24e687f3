-- What each way out of a call hands back, from what its own calls told on the way there. Assumes nothing.
use Prim.Native.Nat.{ℕ, ◌+◌, ◌<◌}
use native.Mathlib.Omega.{arith}
use mathlib.Core.Bool.{Bool, true, false, cond, false≢true}
use mathlib.Core.List.{List}
use mathlib.Core.Path.{◌≡◌, refl, sym, ap, subst⁻¹, ◌∙◌}
use mir.Syntax.{w64}
use mir.Val.{Fits}
use lib.ListN.{set, replicate}
use Rattle.std.specs.Prelude.{Some, None, Result, Ok, Err, is_some, IfOk, MatchResult, ⊤}
use Rattle.std.specs.Result.{IsErrAnd}
use Rattle.octets.specs.Searches.{first_fit, same}
use Rattle.octets.proofs.Flags.{by-test}
use Rattle.kinds.specs.Table.{rows}
use Rattle.output.specs.Writing.{packet_verdict, written_packet}
use Rattle.output.proofs.Judging.{kept}
use Rattle.packet.specs.declared.Header.{Header}
use Rattle.verdict.specs.declared.Verdict.{Verdict}
use Rattle.verdict.specs.Refusals.{STATE, FULL, STRAY, CENTRE}
use Rattle.verdict.specs.declared.Refused.{Refused}
use Rattle.verdict.specs.declared.Refusal.TheVariants.{Setting}
use Rattle.verdict.specs.Orders.{good, refusal, is_good, told, refused_at}
use Rattle.place.specs.declared.Place.{Place}
use Rattle.place.specs.declared.Reply.{Reply}
use Rattle.place.specs.declared.Step.{Step as OfEnum}
use Rattle.place.specs.Outcomes.{number_of, in_numbers}
use Rattle.place.specs.Rules.{is_open}
use Rattle.place.specs.Steps.{Step, replied}
use Rattle.places.specs.declared.Unfound.{Unfound}
use Rattle.places.specs.declared.Unfound.TheVariants.{Broken, Outside, Nothing}
use Rattle.places.specs.declared.Swept.{Swept}
use Rattle.places.specs.Rows.{place_at, serial_for, low_of, end_of, all_sound, opening, reached, swept}
use Rattle.places.proofs.Sought.{is-broken, is-outside, is-nothing, is_at}
use Rattle.exchange.specs.declared.Exchanges.{Exchanges}
use Rattle.exchange.specs.declared.Draft.{Draft}
use Rattle.exchange.specs.declared.Begun.{Begun}
use Rattle.exchange.specs.declared.Made.{Made}
use Rattle.exchange.specs.declared.Replied.{Replied}
use Rattle.exchange.specs.Begins.{headed_by, mode_of, begun_verdict, unbegun, begun, begun_output}
use Rattle.exchange.specs.Table.{address_at, next_at, centre_of, settled, legal, blank, made, Found, found_as, no_opening, no_fitting, unfound, found, entered, placed, stepped, untold, answered, unticked, ticked_by, ticking}
use Rattle.exchange.proofs.Answers.{made-refused, made-good, found-state, found-outside, found-full, found-good}
use Rattle.exchange.proofs.Answers.{answered-state, answered-outside, answered-stray, answered-good, answered-ways, ticking-state, ticking-by, sweeps}
use Rattle.exchange.proofs.Begins.{draft-judged, find-decides, draft-decides, taken_by_lem, begun-refused, output-kept, opening-at, begun-good, output-written, begun-few}

-- the centre that has an address: a and b are those of the two
module _ (x : Exchanges) (a : List ℕ) where
  pub is-first : (e : Bool) → e ≡ same (address_at x 0) a → e ≡ true → 0 ≡ centre_of x a
  unfolding centre_of first_fit
  is-first e q t = simp (sym q ∙ t)

  module _ (e : Bool) (q : e ≡ same (address_at x 0) a) (n : e ≡ false) where
    pub is-second : (f : Bool) → f ≡ same (address_at x 1) a → f ≡ true → 1 ≡ centre_of x a
    unfolding centre_of first_fit
    is-second f p t = simp (sym q ∙ n, sym p ∙ t)

    pub is-neither : (f : Bool) → f ≡ same (address_at x 1) a → f ≡ false → 2 ≡ centre_of x a
    unfolding centre_of first_fit
    is-neither f p t = simp (sym q ∙ n, sym p ∙ t)

pub ruleset placing = (is-first, is-second, is-neither)

-- what was not found turned into a refusal
abbrev TurnedBy : (Unfound → Refused) → Result (ℕ × ℕ) Unfound → Result (ℕ × ℕ) Refused → Type 0
TurnedBy turn q f = MatchResult q (λ at. f ≡ Ok at) (λ u. IsErrAnd f (λ d. d ≡ turn u))

pub record Turned (turn : Unfound → Refused) (q : Result (ℕ × ℕ) Unfound) (f : Result (ℕ × ℕ) Refused) : Type 0 where
  pub cases : TurnedBy turn q f

-- whether a state keeps its rules: o is whether its settings and addresses do
module _ (x : Exchanges) (o : Bool) (r : o ≡ settled x.timeout x.resends (address_at x 0) (address_at x 1)) where
  unsettled : o ≡ false → legal x ≡ false
  unfolding legal
  unsettled n = simp (sym r ∙ n)

  legal-as : o ≡ true → (b : Bool) → all_sound x.timeout x.resends x.places ≡ b → legal x ≡ b
  unfolding legal
  legal-as n b e = simp (sym r ∙ n) e

  -- finding a place and a serial: q is what the places told, f what is answered
  module _ (c : ℕ) where
    pub find-unset : o ≡ false → unfound STATE ≡ found x c
    find-unset n = sym (found-state x c (unsettled n))

    module _ (n : o ≡ true) (q : Result (ℕ × ℕ) Unfound) (next : ℕ) (its : c < 2 → next ≡ next_at x c) (asked : q ≡ opening x.timeout x.resends x.places c next) where
      find-broken : q ≡ Err Broken → unfound STATE ≡ found x c
      find-broken p = sym (found-state x c (legal-as n false (is-broken x.timeout x.resends x.places c _ _ (sym p ∙ asked))))

      find-outside : q ≡ Err Outside → unfound CENTRE ≡ found x c
      find-outside p =
          let is = is-outside x.timeout x.resends x.places c _ _ (sym p ∙ asked) in
          sym (found-outside x c (legal-as n true is.0) is.1)

      find-full : q ≡ Err Nothing → unfound FULL ≡ found x c
      find-full p =
          let is = is-nothing x.timeout x.resends x.places c _ _ (sym p ∙ asked) in
          sym (found-full x c (legal-as n true is.0) is.1 is.2)

      module _ (k s : ℕ) (p : q ≡ Ok (k, s)) where
        find-good : ◌≡◌ {A = Found} (record { verdict = good; place = k; serial = s }) (found x c)
        find-good =
            let is = is_at x.timeout x.resends x.places c _ _ k s (sym p ∙ asked) in
            let own = is.4 ∙ ap (serial_for x.places (low_of c) (end_of c)) (its is.1) in
            (λ i. record { verdict = good; place = is.3 i; serial = own i }) ∙ sym (found-good x c (legal-as n true is.0) is.1 is.2)

        find-inside : (c < 2) × (k < 16)
        find-inside =
            let is = is_at x.timeout x.resends x.places c _ _ k s (sym p ∙ asked) in
            (is.1, omega (arith, is.1, is.2, is.3))

      find-err : (u : Unfound) → q ≡ Err u → found_as (Err (no_opening u)) ≡ found x c
      find-err Broken = find-broken
      find-err Outside = find-outside
      find-err Nothing = find-full

      pub find-by : (f : Result (ℕ × ℕ) Refused) → Turned no_opening q f → found_as f ≡ found x c
      find-by f t = by_way q f refl t.cases
        where
          by_way : (z : Result (ℕ × ℕ) Unfound) (f : Result (ℕ × ℕ) Refused) → q ≡ z → TurnedBy no_opening z f → found_as f ≡ found x c
          by_way (Ok at) f p e = ap found_as e ∙ find-good at.0 at.1 p
          by_way (Err u) (Err d) p e = ap (λ (y : Refused). found_as (Err y)) e ∙ find-err u p
          by_way (Err u) (Ok at) p e = absurd e

      pub find-inside-by : (f : Result (ℕ × ℕ) Refused) → Turned no_opening q f → IfOk f (λ at. (c < 2) × (at.0 < 16))
      find-inside-by f t = by_way q f refl t.cases
        where
          by_way : (z : Result (ℕ × ℕ) Unfound) (f : Result (ℕ × ℕ) Refused) → q ≡ z → TurnedBy no_opening z f → IfOk f (λ at. (c < 2) × (at.0 < 16))
          by_way (Ok at) f p e = subst⁻¹ (λ (y : Result (ℕ × ℕ) Refused). IfOk y (λ at. (c < 2) × (at.0 < 16))) e (find-inside at.0 at.1 p)
          by_way (Err u) (Err d) p e = tt
          by_way (Err u) (Ok at) p e = absurd e

  -- a reply before its step: f is what the places told, c the centre that has its address
  module _ (a : List ℕ) (s : ℕ) (w : Reply) where
    abbrev whole : Replied
    whole = answered x a s w

    pub reach-unset : o ≡ false → untold x (refusal STATE 0) ≡ whole
    reach-unset n = sym (answered-state x a s w (unsettled n))

    module _ (n : o ≡ true) (f : Result (ℕ × ℕ) Unfound) (c : ℕ) (its : c ≡ centre_of x a) (asked : f ≡ reached x.timeout x.resends x.places c s w) where
      own : f ≡ reached x.timeout x.resends x.places (centre_of x a) s w
      own = asked ∙ ap (λ (d : ℕ). reached x.timeout x.resends x.places d s w) its

      reach-broken : f ≡ Err Broken → untold x (refusal STATE 0) ≡ whole
      reach-broken q = sym (answered-state x a s w (legal-as n false (is-broken x.timeout x.resends x.places (centre_of x a) _ _ (sym q ∙ own))))

      reach-outside : f ≡ Err Outside → untold x (refusal STRAY 0) ≡ whole
      reach-outside q =
          let is = is-outside x.timeout x.resends x.places (centre_of x a) _ _ (sym q ∙ own) in
          sym (answered-outside x a s w (legal-as n true is.0) is.1)

      reach-stray : f ≡ Err Nothing → untold x (refusal STRAY 0) ≡ whole
      reach-stray q =
          let is = is-nothing x.timeout x.resends x.places (centre_of x a) _ _ (sym q ∙ own) in
          sym (answered-stray x a s w (legal-as n true is.0) is.1 is.2)

      pub reach-err : (u : Unfound) → f ≡ Err u → untold x (told {A = ℕ × ℕ} (Err (no_fitting u))) ≡ whole
      reach-err Broken = reach-broken
      reach-err Outside = reach-outside
      reach-err Nothing = reach-stray

      pub reach-ok : (k z : ℕ) → f ≡ Ok (k, z) → (k < 16) × (stepped x k w ≡ whole)
      reach-ok k z q =
          let at = is_at x.timeout x.resends x.places (centre_of x a) _ _ k z (sym q ∙ own) in (
            omega (arith, at.1, at.2, at.3),
            ap (λ (j : ℕ). stepped x j w) at.3 ∙ sym (answered-good x a s w (legal-as n true at.0) at.1 at.2),
          )

  -- the tick: all is what the places told
  pub tick-unset : o ≡ false → unticked x (refusal STATE 0) ≡ ticking x
  tick-unset n = sym (ticking-state x (unsettled n))

  -- b is whether the places keep the rules, s what was swept
  module _ (n : o ≡ true) (b : Bool) (s : Swept) (asked : swept x.timeout x.resends x.places ≡ cond b (Some s) None) where
    sound_as : (g : Bool) → b ≡ g → all_sound x.timeout x.resends x.places ≡ g
    sound_as g e =
        by-test (all_sound x.timeout x.resends x.places)
        (λ t. t ∙ ap is_some (sym (sweeps x true t) ∙ asked) ∙ has b ∙ e)
        (λ t. t ∙ ap is_some (sym (sweeps x false t) ∙ asked) ∙ has b ∙ e)
      where
        has : (g : Bool) → is_some (cond g (Some s) None) ≡ g
        has true = refl
        has false = refl

    pub tick-broken : b ≡ false → unticked x (refusal STATE 0) ≡ ticking x
    tick-broken e = sym (ticking-state x (legal-as n false (sound_as false e)))

    pub tick-good : b ≡ true → ticked_by x good (Some s) ≡ ticking x
    tick-good e =
        ap (ticked_by x good) (sym (asked ∙ ap (λ (g : Bool). cond g (Some s) None) e)) ∙ sym (ticking-by x (legal-as n true (sound_as true e)))

-- a reply by what was told before its step
module _ (x : Exchanges) (a : List ℕ) (s : ℕ) (w : Reply) where
  reply-made : (v : Verdict) (k o r : ℕ) (step : OfEnum) (ps : List Place) → v ≡ good → v ≡ (answered x a s w).verdict → k ≡ (answered x a s w).place
      → in_numbers step ≡ replied r w (place_at x.places k) → r ≡ x.resends → ps ≡ set x.places k step.place → o ≡ number_of step.outcome
      → ◌≡◌ {A = Replied} (record { verdict = v; place = k; outcome = o; state = placed x ps }) (answered x a s w)
  reply-made v k o r step ps g e here d most q told =
      let is = d ∙ ap (λ (n : ℕ). replied n w (place_at x.places k)) most in
      (λ i. record {
        verdict = g i;
        place = k;
        outcome = (told ∙ ap (λ (z : Step). z.outcome) is) i;
        state = placed x ((q ∙ ap (λ (z : Step). set x.places k z.place) is) i);
      })
      ∙ ap (λ (j : ℕ). stepped x j w) here
      ∙ answered-ways x a s w (λ y. is_good y.verdict ≡ true → stepped x y.place w ≡ y) (λ b. absurd (false≢true b)) (λ b. absurd (false≢true b)) (λ k h b. refl)
      (ap is_good (sym e ∙ g))

  -- n is the number of its refusal, k its place
  module _ (n k : ℕ) (e : n ≡ (answered x a s w).verdict.number) (here : k ≡ (answered x a s w).place) where
    abbrev its : Verdict
    its = record { number = n; place = 0 }

    its-verdict : its ≡ (answered x a s w).verdict
    its-verdict =
        ap (λ (m : ℕ). record { number = m; place = 0 }) e
        ∙ answered-ways x a s w (λ y. ◌≡◌ {A = Verdict} (record { number = y.verdict.number; place = 0 }) y.verdict) refl refl (λ j h. refl)

    pub reply-refused : (n ≡ 0 → ⊥) → ◌≡◌ {A = Replied} (record { verdict = its; place = k; outcome = 0; state = placed x x.places }) (answered x a s w)
    reply-refused m =
        (λ i. record { verdict = its-verdict i; place = here i; outcome = 0; state = x })
        ∙ answered-ways x a s w
        (λ y. (y.verdict.number ≡ 0 → ⊥) → ◌≡◌ {A = Replied} (record { verdict = y.verdict; place = y.place; outcome = 0; state = x }) y)
        (λ b. refl) (λ b. refl) (λ j h b. absurd (b refl))
        (λ z. m (e ∙ z))

    pub reply-stepped : n ≡ 0 → (o : ℕ) (step : OfEnum) (ps : List Place) → in_numbers step ≡ replied x.resends w (place_at x.places k)
        → ps ≡ set x.places k step.place → o ≡ number_of step.outcome
        → ◌≡◌ {A = Replied} (record { verdict = its; place = k; outcome = o; state = placed x ps }) (answered x a s w)
    reply-stepped z o step ps d q told =
        reply-made its k o x.resends step ps (ap (λ (m : ℕ). record { number = m; place = 0 }) z) its-verdict here d refl q told

-- the command that the packet writer is handed, m being the number of the mode that the draft's opens
module _ (c m n : ℕ) (o : Bool) (mode : m ≡ mode_of c) (its : n ≡ m) (open_now : o ≡ is_open n) where
  pub its_own : o ≡ true → c ≡ cond (is_open (mode_of c)) c 0
  its_own e = simp (ap is_open (sym mode) ∙ ap is_open (sym its) ∙ sym open_now ∙ e)

  pub none-of-it : o ≡ false → 0 ≡ cond (is_open (mode_of c)) c 0
  none-of-it e = simp (ap is_open (sym mode) ∙ ap is_open (sym its) ∙ sym open_now ∙ e)

-- beginning and writing: f is what was found, b what is handed back where it is refused
module _ (x : Exchanges) (n : ℕ) (out : List ℕ) (d : Draft) (l : ℕ) (f : Found) (told : f ≡ found x n) where
  is : (b : Bool) → is_good f.verdict ≡ b → is_good (found x n).verdict ≡ b
  is b e = ap (λ (y : Found). is_good y.verdict) (sym told) ∙ e

  module _ (u : is_good f.verdict ≡ false) where
    decided : f.verdict ≡ begun_verdict rows x n out d l
    decided = ap (λ (y : Found). y.verdict) told ∙ find-decides rows x n out d l (is false u)

    none_found : is_good (begun_verdict rows x n out d l) ≡ false
    none_found = ap is_good (sym decided) ∙ u

    pub begin-unfound : (b : Begun) → b ≡ unbegun x f.verdict → b ≡ begun rows x n out d l
    begin-unfound b e = e ∙ ap (unbegun x) decided ∙ sym (begun-refused rows x n out d l none_found)

    pub begin-unfound-output : out ≡ begun_output rows x n out d l
    begin-unfound-output = sym (output-kept rows x n out d l none_found)

  module _ (u : is_good f.verdict ≡ true) where
    -- h is the header that the packet writer was handed, w what it said, which is no matter of the serial and the destination, and q what it left in the output
    module _ (c s : ℕ) (to : List ℕ) (h : Header) (w : Verdict) (opened : c ≡ cond (is_open (mode_of d.command)) d.command 0) (header : h ≡ headed_by d to s c)
        (says : w ≡ packet_verdict rows out h l) where
      written : w ≡ begun_verdict rows x n out d l
      unfolding packet_verdict
      written =
          says
          ∙ ap (λ (y : Header). packet_verdict rows out y l) header
          ∙ draft-judged rows out d l (address_at x n) (found x n).serial c opened
          ∙ draft-decides rows x n out d l (is true u)

      unwritten : is_good w ≡ false → is_good (begun_verdict rows x n out d l) ≡ false
      unwritten m = ap is_good (sym written) ∙ m

      pub begin-unwritten : (b : Begun) → is_good w ≡ false → b ≡ unbegun x w → b ≡ begun rows x n out d l
      begin-unwritten b m e = e ∙ ap (unbegun x) written ∙ sym (begun-refused rows x n out d l (unwritten m))

      pub begin-unwritten-output : (q : List ℕ) → is_good w ≡ false → q ≡ written_packet rows out h l → q ≡ begun_output rows x n out d l
      begin-unwritten-output q m e =
          e ∙ sym (kept rows out h l (ap is_good (sym says) ∙ m)) ∙ sym (output-kept rows x n out d l (unwritten m))

      module _ (m : is_good w ≡ true) where
        taken : is_good (begun_verdict rows x n out d l) ≡ true
        taken = ap is_good (sym written) ∙ m

        pub begin-few : Fits w64 (30 + l)
        begin-few = omega (arith, begun-few rows x n out d l taken)

        pub begin-written : (mode : ℕ) (y : Exchanges) → mode ≡ mode_of d.command → y ≡ entered x n f.place f.serial mode
            → ◌≡◌ {A = Begun} (record { verdict = w; place = f.place; length = 30 + l; serial = f.serial; state = y }) (begun rows x n out d l)
        begin-written mode y q e =
            ap (λ (z : Exchanges). record { verdict = w; place = f.place; length = 30 + l; serial = f.serial; state = z })
            (e ∙ ap (entered x n f.place f.serial) q)
            ∙ (λ i. opening-at rows x n out d l (written i) (told i))
            ∙ sym (begun-good rows x n out d l taken)

        pub begin-written-output : (q : List ℕ) → s ≡ f.serial → to ≡ address_at x n → q ≡ written_packet rows out h l → q ≡ begun_output rows x n out d l
        begin-written-output q same its_own e =
            let own : c ≡ d.command = opened ∙ ap (λ (b : Bool). cond b d.command 0) (taken_by_lem rows x n out d l taken).opens in
            let its = same ∙ ap (λ (y : Found). y.serial) told in
            e
            ∙ ap (λ (y : Header). written_packet rows out y l) (header ∙ λ i. headed_by d (its_own i) (its i) (own i))
            ∙ sym (output-written rows x n out d l taken)

-- a fresh table: e is what its settings and addresses were told, v its verdict
module _ (t m : ℕ) (a b : List ℕ) (o : Bool) (its : o ≡ settled t m a b) (e : Result ⊤ Refused) (asked : e ≡ cond o (Ok tt) (Err (refused_at Setting 0))) (v : Verdict)
    (so : v ≡ told e) (x : Exchanges) where
  pub fresh-refused : o ≡ false → (u w : ℕ) → x ≡ blank u w (replicate 6 0) (replicate 6 0) → u ≡ 0 → w ≡ 0
      → ◌≡◌ {A = Made} (record { verdict = v; state = x }) (made t m a b)
  fresh-refused n u w q zero nought =
      (λ i. record {
        verdict = (so ∙ ap told asked ∙ ap (λ (g : Bool). told {A = ⊤} (cond g (Ok tt) (Err (refused_at Setting 0)))) n) i;
        state = (q ∙ λ j. blank (zero j) (nought j) (replicate 6 0) (replicate 6 0)) i;
      })
      ∙ sym (made-refused t m a b (sym its ∙ n))

  pub fresh-good : o ≡ true → x ≡ blank t m a b → ◌≡◌ {A = Made} (record { verdict = v; state = x }) (made t m a b)
  fresh-good n q =
      (λ i. record { verdict = (so ∙ ap told asked ∙ ap (λ (g : Bool). told {A = ⊤} (cond g (Ok tt) (Err (refused_at Setting 0)))) n) i; state = q i })
      ∙ sym (made-good t m a b (sym its ∙ n))

-- whether a test was passed, and by what it was refused
pub ensured : (b : Bool) (e r : Refused) → ◌≡◌ {A = Result ⊤ Refused} (Err e) (cond b (Ok tt) (Err r)) → (b ≡ false) × (e ≡ r)
ensured false e r h = (refl, cc)
ensured true e r h = let z : ◌≡◌ {A = ℕ} 0 1 = cc in absurd (omega arith)

pub passed : (b : Bool) (y : ⊤) (r : Refused) → ◌≡◌ {A = Result ⊤ Refused} (Ok y) (cond b (Ok tt) (Err r)) → b ≡ true
passed true y r h = refl
passed false y r h = let z : ◌≡◌ {A = ℕ} 0 1 = cc in absurd (omega arith)

-- the address at a number that is a centre's
pub address-of : (x : Exchanges) (c d : ℕ) → c ≡ d → address_at x c ≡ address_at x d
address-of x c d e = ap (address_at x) e
