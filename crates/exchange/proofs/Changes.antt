-- What each call changes and what it leaves: a refused call nothing, a beginning and a reply one place, a tick each place by the rule for one, and none
-- the settings. By the calls' definitions. Assumes nothing.
use Prim.Native.Nat.{ℕ, ◌+◌, ◌-◌, ◌≤◌, ◌<◌}
use native.Mathlib.Omega.{arith}
use mathlib.Core.Bool.{Bool, true, false, cond, true≢false}
use mathlib.Core.List.{List, [], ◌∷◌}
use mathlib.Core.Path.{◌≡◌, refl, sym, ap, subst, subst⁻¹, ◌∙◌}
use borrow.Author.Tests.{not-true, not-false, eqb-true, eqb-false}
use lib.Dec.{eqb}
use lib.ListN.{length, get_or}
use lib.Seq.{get_or-set_same, get_or-set_other}
use Rattle.octets.specs.Searches.{first_fit}
use Rattle.octets.proofs.Flags.{by-test}
use Rattle.octets.proofs.Searches.{first_fits, first-none}
use Rattle.kinds.specs.Table.{rows}
use Rattle.verdict.specs.Orders.{good, is_good, in_order}
use Rattle.place.specs.declared.Reply.{Reply}
use Rattle.place.specs.Rules.{opened, is_open}
use Rattle.place.specs.Steps.{ticked, replied}
use Rattle.exchange.specs.declared.Centre.{Centre}
use Rattle.exchange.specs.declared.Exchanges.{Exchanges}
use Rattle.exchange.specs.declared.Begun.{Begun}
use Rattle.exchange.specs.declared.Replied.{Replied}
use Rattle.exchange.specs.declared.Ticked.{Ticked}
use Rattle.places.specs.Rows.{place_at, free_at, lowest_free, is_open_as, upward, unopened, serial_for, low_of, end_of, owner_of, report, nothing}
use Rattle.exchange.specs.Begins.{mode_of, begun_verdict, unbegun, begun_output}
use Rattle.exchange.specs.Table.{centre, centre_at, address_at, next_at, centre_of, legal, blank, made, lowest_of, serial_of}
use Rattle.exchange.specs.Table.{found, placed, entered, fitting_of, reply_tests, stepped, untold, answered, unticked, ticking}
use Rattle.exchange.specs.Calls.{Asked, begun_by, Call, begin, reply, tick, verdict_of, after, run, Sound}
use Rattle.places.proofs.Serials.{serial-unopened, serial-first}
use Rattle.places.proofs.Rules.{unchanged}
use Rattle.exchange.proofs.Answers.{Inside, found_inside, found-lowest, found-serial, ticking-state, ticking-good}
use Rattle.exchange.proofs.Begins.{Taken, taken_by_lem, begun-refused, output-kept, opening-at, begun-good, begun_verdict_lem}
use Rattle.exchange.proofs.Kept.{aged-at, told_at, run_sound, made-sound}

-- a reply's answer by whether its verdict is good, c being the centre that has its address
abbrev by-verdict : Exchanges → ℕ → ℕ → Reply → Bool → Replied
by-verdict x c s w b = cond b (stepped x (fitting_of x c s w) w) (untold x (in_order (reply_tests x c s w) good))

-- "A refusal returns its number and place .., zero or nothing for all else, .. gives the state back as it came"
module _ (x : Exchanges) where
  -- of a beginning the output too
  module _ (a : Asked) (e : is_good (begun_by x a).verdict ≡ false) where
    told : (begun_by x a).verdict ≡ begun_verdict rows x a.centre a.out a.draft a.size
    told = begun_verdict_lem rows x a.centre a.out a.draft a.size

    pub begin-refused : begun_by x a ≡ unbegun x (begun_by x a).verdict
    begin-refused = begun-refused rows x a.centre a.out a.draft a.size (ap is_good (sym told) ∙ e) ∙ ap (unbegun x) (sym told)

    pub begin-unwritten : begun_output rows x a.centre a.out a.draft a.size ≡ a.out
    begin-unwritten = output-kept rows x a.centre a.out a.draft a.size (ap is_good (sym told) ∙ e)

  pub reply-refused : (a : List ℕ) (s : ℕ) (w : Reply) → is_good (answered x a s w).verdict ≡ false → answered x a s w ≡ untold x (answered x a s w).verdict
  unfolding answered
  reply-refused a s w = by-test (is_good (in_order (reply_tests x (centre_of x a) s w) good))
    where
      c : ℕ
      c = centre_of x a

      by-test : (b : Bool) → is_good (by-verdict x c s w b).verdict ≡ false → by-verdict x c s w b ≡ untold x (by-verdict x c s w b).verdict
      by-test true e = absurd (true≢false e)
      by-test false e = refl

  pub tick-refused : is_good (ticking x).verdict ≡ false → ticking x ≡ unticked x (ticking x).verdict
  tick-refused e =
      by-test (legal x)
      (λ l. absurd (true≢false (sym (ap (λ (y : Ticked). is_good y.verdict) (ticking-good x l)) ∙ e)))
      (λ l. ticking-state x l ∙ ap (λ (y : Ticked). unticked x y.verdict) (sym (ticking-state x l)))

-- so a refused call changes nothing
pub refused-same : (x : Exchanges) (c : Call) → is_good (verdict_of x c) ≡ false → after x c ≡ x
unfolding verdict_of after
refused-same x (begin a) e = ap (λ (y : Begun). y.state) (begin-refused x a e)
refused-same x (reply a s w) e = ap (λ (y : Replied). y.state) (reply-refused x a s w e)
refused-same x tick e = ap (λ (y : Ticked). y.state) (tick-refused x e)

-- a beginning that is not refused
module _ (x : Exchanges) (a : Asked) (e : is_good (begun_by x a).verdict ≡ true) where
  abbrev c : ℕ
  c = a.centre

  pub good-verdict : is_good (begun_verdict rows x a.centre a.out a.draft a.size) ≡ true
  good-verdict = ap is_good (sym (begun_verdict_lem rows x a.centre a.out a.draft a.size)) ∙ e

  pub taken-so : Taken rows x a.centre a.out a.draft a.size
  taken-so = taken_by_lem rows x a.centre a.out a.draft a.size good-verdict

  is : begun_by x a ≡ opening-at rows x a.centre a.out a.draft a.size (begun_verdict rows x a.centre a.out a.draft a.size) (found x c)
  is = begun-good rows x a.centre a.out a.draft a.size good-verdict

  begun-place : (begun_by x a).place ≡ lowest_of x c
  begun-place = ap (λ (y : Begun). y.place) is ∙ found-lowest x c taken-so.find

  pub begun-found : (begun_by x a).serial ≡ (found x c).serial
  begun-found = ap (λ (y : Begun). y.serial) is

  begun-serial : (begun_by x a).serial ≡ serial_of x c
  begun-serial = begun-found ∙ found-serial x c taken-so.find

  pub begun-state : (begun_by x a).state ≡ entered x c (begun_by x a).place (begun_by x a).serial (mode_of a.draft.command)
  begun-state =
      ap (λ (y : Begun). y.state) is ∙ (λ i. entered x c (sym is i).place (sym is i).serial (mode_of a.draft.command))

  -- the packet has 30+L bytes
  pub begun-length : (begun_by x a).length ≡ 30 + a.size
  begun-length = ap (λ (y : Begun). y.length) is

  -- the serial given is not open within the centre, whatever the table
  pub given-unopened : is_open_as x.places (low_of c) (end_of c) (begun_by x a).serial ≡ false
  given-unopened =
      subst⁻¹ (λ (s : ℕ). is_open_as x.places (low_of c) (end_of c) s ≡ false) begun-serial
      (serial-unopened x.places (low_of c) (end_of c) (next_at x c) (omega arith))

  -- it is the first such from the centre's next one upward
  pub given-first : (n : ℕ) × (((begun_by x a).serial ≡ upward (next_at x c) n)
      × ((j : ℕ) → j < n → is_open_as x.places (low_of c) (end_of c) (upward (next_at x c) j) ≡ true))
  unfolding serial_for
  given-first = (
    first_fit (unopened x.places (low_of c) (end_of c) (next_at x c)) 0 (end_of c - low_of c),
    (begun-serial, serial-first x.places (low_of c) (end_of c) (next_at x c)),
  )

  -- the place taken is one of the centre's, it was free, and all of the centre's below it are open
  found_in : Inside x c
  found_in = found_inside x c taken-so.find

  pub begun-named : c < 2
  begun-named = found_in.centre

  pub begun-low : low_of c ≤ (begun_by x a).place
  begun-low = subst⁻¹ (λ (y : Begun). low_of c ≤ y.place) is found_in.low

  pub begun-high : (begun_by x a).place < end_of c
  begun-high = subst⁻¹ (λ (y : Begun). y.place < end_of c) is found_in.high

  pub begun-inside : (begun_by x a).place < 16
  begun-inside = omega (arith, begun-named, begun-high)

  pub begun-owner : owner_of (begun_by x a).place ≡ c
  begun-owner = omega (arith, begun-low, begun-high)

  pub taken_free : is_open (place_at x.places (begun_by x a).place).mode ≡ false
  unfolding lowest_free
  taken_free =
      subst⁻¹ (λ (k : ℕ). is_open (place_at x.places k).mode ≡ false) begun-place
      (not-true (is_open (place_at x.places (lowest_of x c)).mode)
      (first_fits (free_at x.places) (low_of c) (end_of c - low_of c) (let h = subst (λ (k : ℕ). k < end_of c) begun-place begun-high in omega (arith, h))))

  pub taken-lowest : (k : ℕ) → low_of c ≤ k → k < (begun_by x a).place → is_open (place_at x.places k).mode ≡ true
  unfolding lowest_free
  taken-lowest k l h =
      not-false (is_open (place_at x.places k).mode)
      (first-none (free_at x.places) (low_of c) (end_of c - low_of c) k l (subst (λ (n : ℕ). k < n) begun-place h))

  -- no other place changes
  pub begin-others : (k : ℕ) → (k ≡ (begun_by x a).place → ⊥) → place_at (begun_by x a).state.places k ≡ place_at x.places k
  begin-others k h =
      ap (λ (y : Exchanges). place_at y.places k) begun-state
      ∙ unchanged x.places (begun_by x a).place (opened (begun_by x a).serial (mode_of a.draft.command)) k h

  -- nor does the other centre
  pub begin-other-centre : (d : ℕ) → (d ≡ c → ⊥) → centre_at (begun_by x a).state d ≡ centre_at x d
  begin-other-centre d h =
      ap (λ (y : Exchanges). centre_at y d) begun-state
      ∙ get_or-set_other x.centres c d (centre (address_at x c) (upward (begun_by x a).serial 1)) (centre [] 0) h

  -- the serial after the one given is then the centre's next, and its address stays
  pub given-next : length x.centres ≡ 2 → centre_at (begun_by x a).state c ≡ centre (address_at x c) (upward (begun_by x a).serial 1)
  given-next two =
      ap (λ (y : Exchanges). centre_at y c) begun-state
      ∙ get_or-set_same x.centres c (centre (address_at x c) (upward (begun_by x a).serial 1)) (centre [] 0) (omega (arith, two, begun-named))

-- a reply changes one place at most, and nothing beside the places
module _ (x : Exchanges) (a : List ℕ) (s : ℕ) (w : Reply) where
  abbrev by : ℕ
  by = centre_of x a

  pub reply-others : (k : ℕ) → (k ≡ (answered x a s w).place → ⊥) → place_at (answered x a s w).state.places k ≡ place_at x.places k
  unfolding answered
  reply-others k = by_flag (is_good (in_order (reply_tests x by s w) good))
    where
      by_flag : (b : Bool) → (k ≡ (by-verdict x by s w b).place → ⊥) → place_at (by-verdict x by s w b).state.places k ≡ place_at x.places k
      by_flag true h =
          let n = fitting_of x by s w in
          unchanged x.places n (replied x.resends w (place_at x.places n)).place k h
      by_flag false h = refl

  pub reply-rest : (answered x a s w).state ≡ placed x (answered x a s w).state.places
  unfolding answered
  reply-rest = by_flag (is_good (in_order (reply_tests x by s w) good))
    where
      by_flag : (b : Bool) → (by-verdict x by s w b).state ≡ placed x (by-verdict x by s w b).state.places
      by_flag true = refl
      by_flag false = refl

-- a tick too
pub tick-rest : (x : Exchanges) → (ticking x).state ≡ placed x (ticking x).state.places
tick-rest x =
    by-test (legal x)
    (λ l. let is = ap (λ (y : Ticked). y.state) (ticking-good x l) in is ∙ ap (λ (y : Exchanges). placed x y.places) (sym is))
    (λ l. let is = ap (λ (y : Ticked). y.state) (ticking-state x l) in is ∙ ap (λ (y : Exchanges). placed x y.places) (sym is))

-- no call changes T or R
abbrev pub Settings : Exchanges → ℕ → ℕ → Type 0
Settings x t r = (x.timeout ≡ t) × (x.resends ≡ r)

begin-set : (x : Exchanges) (a : Asked) → Settings (begun_by x a).state x.timeout x.resends
begin-set x a =
    by-test (is_good (begun_by x a).verdict)
    (λ e. subst⁻¹ (λ (y : Exchanges). Settings y x.timeout x.resends) (begun-state x a e) (refl, refl))
    (λ e. subst⁻¹ (λ (y : Begun). Settings y.state x.timeout x.resends) (begin-refused x a e) (refl, refl))

pub settings-stay : (x : Exchanges) (c : Call) → Settings (after x c) x.timeout x.resends
unfolding after
settings-stay x (begin a) = begin-set x a
settings-stay x (reply a s w) = (ap (λ (y : Exchanges). y.timeout) (reply-rest x a s w), ap (λ (y : Exchanges). y.resends) (reply-rest x a s w))
settings-stay x tick = (ap (λ (y : Exchanges). y.timeout) (tick-rest x), ap (λ (y : Exchanges). y.resends) (tick-rest x))

settings-run : (x : Exchanges) (cs : List Call) → Settings (run x cs) x.timeout x.resends
unfolding run
settings-run x [] = (refl, refl)
settings-run x (c ∷ cs) =
    let rest = settings-run (after x c) cs in
    let one = settings-stay x c in
    (rest.0 ∙ one.0, rest.1 ∙ one.1)

-- nor an address: a beginning alone changes a centre, and only its next serial
begin-address : (x : Exchanges) → Sound x → (a : Asked) (d : ℕ) → address_at (begun_by x a).state d ≡ address_at x d
begin-address x sound a d =
    by-test (is_good (begun_by x a).verdict)
    (λ e.
    by-test (eqb d a.centre)
    (λ q.
    let is = eqb-true d a.centre q in
    ap (address_at (begun_by x a).state) is
    ∙ ap (λ (y : Centre). y.address.bytes) (given-next x a e sound.two)
    ∙ ap (address_at x) (sym is))
    (λ q. ap (λ (y : Centre). y.address.bytes) (begin-other-centre x a e d (eqb-false d a.centre q))))
    (λ e. ap (λ (y : Begun). address_at y.state d) (begin-refused x a e))

pub address_stays : (x : Exchanges) → Sound x → (c : Call) (d : ℕ) → address_at (after x c) d ≡ address_at x d
unfolding after
address_stays x sound (begin a) d = begin-address x sound a d
address_stays x sound (reply a s w) d = ap (λ (y : Exchanges). address_at y d) (reply-rest x a s w)
address_stays x sound tick d = ap (λ (y : Exchanges). address_at y d) (tick-rest x)

-- so they stay those with which the table was made
pub settings-made : (t r : ℕ) (a b : List ℕ) → is_good (made t r a b).verdict ≡ true → (cs : List Call)
    → ((run (made t r a b).state cs).timeout ≡ t) × ((run (made t r a b).state cs).resends ≡ r)
unfolding made
settings-made t r a b g cs =
    let start : (made t r a b).state ≡ blank t r a b = simp g in
    let rest = settings-run (made t r a b).state cs in
    (rest.0 ∙ ap (λ (y : Exchanges). y.timeout) start, rest.1 ∙ ap (λ (y : Exchanges). y.resends) start)

address-run : (x : Exchanges) → Sound x → (cs : List Call) (d : ℕ) → address_at (run x cs) d ≡ address_at x d
unfolding run
address-run x sound [] d = refl
address-run x sound (c ∷ cs) d = address-run (after x c) (run_sound x sound (c ∷ [])) cs d ∙ address_stays x sound c d

pub address-made : (t r : ℕ) (a b : List ℕ) → is_good (made t r a b).verdict ≡ true → (cs : List Call) (d : ℕ)
    → address_at (run (made t r a b).state cs) d ≡ address_at (blank t r a b) d
unfolding made
address-made t r a b g cs d =
    let start : (made t r a b).state ≡ blank t r a b = simp g in
    address-run (made t r a b).state (made-sound t r a b g) cs d ∙ ap (λ (y : Exchanges). address_at y d) start

-- a tick makes of each place, and tells of it, what the rule for one place says
module _ (x : Exchanges) (e : legal x ≡ true) (k : ℕ) where
  pub tick-each : place_at (ticking x).state.places k ≡ (ticked x.timeout x.resends (place_at x.places k)).place
  tick-each = ap (λ (y : Ticked). place_at y.state.places k) (ticking-good x e) ∙ aged-at x.timeout x.resends x.places k

  pub tick-tells : get_or (ticking x).reports k nothing ≡ report x.timeout x.resends (place_at x.places k)
  tick-tells = ap (λ (y : Ticked). get_or y.reports k nothing) (ticking-good x e) ∙ told_at x.timeout x.resends x.places k
