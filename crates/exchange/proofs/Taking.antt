-- When a call is taken and when it is refused: STATE on a table that breaks the rules, on one that keeps them CENTRE, FULL or STRAY. Assumes nothing.
use Prim.Native.Nat.{ℕ, ◌+◌, ◌-◌, ◌≤◌, ◌<◌}
use native.Mathlib.Omega.{arith}
use mathlib.Core.Bool.{Bool, true, false, not, cond, and-eq-true_iff, true≢false}
use mathlib.Core.List.{List}
use mathlib.Core.Path.{◌≡◌, refl, sym, ap, ◌∙◌}
use borrow.Author.Tests.{ltb-true, ltb-false, eqb-true, eq-eqb}
use lib.Dec.{ltb, eqb}
use Rattle.octets.specs.Searches.{same}
use Rattle.octets.proofs.Alike.{same_self}
use Rattle.octets.proofs.Flags.{by-test}
use Rattle.octets.proofs.Searches.{first-none, first_absent, first-is}
use Rattle.kinds.specs.Table.{rows}
use Rattle.verdict.specs.Refusals.{STATE, FULL, STRAY, CENTRE}
use Rattle.verdict.specs.Orders.{good, refusal, is_good}
use Rattle.place.specs.declared.Place.{Place}
use Rattle.place.specs.declared.Reply.{Reply}
use Rattle.place.specs.Steps.{Step}
use Rattle.place.specs.Rules.{is_open}
use Rattle.place.specs.Steps.{NOTHING, becomes, replied}
use Rattle.place.proofs.Lives.{replied-speaks}
use Rattle.places.specs.Rows.{place_at, free_at, lowest_free, fits_at, fitting, low_of, end_of, owner_of}
use Rattle.exchange.specs.declared.Exchanges.{Exchanges}
use Rattle.exchange.specs.Table.{Found}
use Rattle.exchange.specs.declared.Replied.{Replied}
use Rattle.exchange.specs.declared.Ticked.{Ticked}
use Rattle.exchange.specs.Begins.{draft_verdict, unbegun}
use Rattle.exchange.specs.Table.{address_at, centre_of, legal, lowest_of, unfound, found, fitting_of, untold, answered, ticking}
use Rattle.exchange.specs.Calls.{Asked, begun_by, Call, begin, reply, tick, verdict_of, Sound}
use Rattle.exchange.specs.Logs.{line_of, begins, answers}
use Rattle.exchange.specs.Steps.{fits_from, step_by}
use Rattle.exchange.proofs.Answers.{found-state, found-outside, found-full, found-good, answered-state, answered-outside, answered-stray, answered-good, ticking-state, ticking-good}
use Rattle.exchange.proofs.Begins.{find-decides, draft-decides, begun-refused, begun_verdict_lem}
use Rattle.exchange.proofs.Kept.{rules-of}
use Rattle.exchange.proofs.Steps.{fitting-is, each_step}

module _ (x : Exchanges) (sound : Sound x) where
  -- a beginning, for one of the two centres where any of its places is free and where none is, and for another
  module _ (a : Asked) where
    abbrev c : ℕ
    c = a.centre

    -- what was found decides
    found-decides : (n : ℕ) → is_good (refusal n 0) ≡ false → found x c ≡ unfound n → begun_by x a ≡ unbegun x (refusal n 0)
    found-decides n b e =
        let no = ap (λ (f : Found). f.verdict) e in
        let is = sym (find-decides rows x a.centre a.out a.draft a.size (ap is_good no ∙ b)) ∙ no in
        begun-refused rows x a.centre a.out a.draft a.size (ap is_good is ∙ b) ∙ ap (unbegun x) is

    pub begin-free : c < 2 → (k : ℕ) → low_of c ≤ k → k < end_of c → is_open (place_at x.places k).mode ≡ false
        → (begun_by x a).verdict ≡ draft_verdict rows x a.centre a.out a.draft a.size
    unfolding lowest_free
    begin-free o k l h e =
        begun_verdict_lem rows x a.centre a.out a.draft a.size
        ∙ sym
        (draft-decides rows x a.centre a.out a.draft a.size
        (ap (λ (f : Found). is_good f.verdict) (found-good x c sound.kept o (by_flag (ltb (lowest_of x c) (end_of c)) refl))))
      where
        by_flag : (b : Bool) → ltb (lowest_of x c) (end_of c) ≡ b → lowest_of x c < end_of c
        by_flag true q = ltb-true (lowest_of x c) (end_of c) q
        by_flag false q =
            let past = ltb-false (lowest_of x c) (end_of c) q in
            let no : free_at x.places k ≡ false = first-none (free_at x.places) (low_of c) (end_of c - low_of c) k l (omega (arith, past, h)) in
            absurd (true≢false (simp e at no))

    pub begin-full : c < 2 → ((k : ℕ) → low_of c ≤ k → k < end_of c → is_open (place_at x.places k).mode ≡ true) → begun_by x a ≡ unbegun x (refusal FULL 0)
    unfolding lowest_free
    begin-full o all =
        let end : lowest_of x c ≡ low_of c + (end_of c - low_of c) =
        first_absent (free_at x.places) (low_of c) (end_of c - low_of c) (λ k l u. simp (all k l (omega arith))) in
        found-decides FULL refl (found-full x c sound.kept o (omega (arith, end)))

    -- "30 CENTRE, after STATE, for a centre other than the two"
    pub begin-outside : 2 ≤ c → begun_by x a ≡ unbegun x (refusal CENTRE 0)
    begin-outside h = found-decides CENTRE refl (found-outside x c sound.kept h)

  -- a reply, where it fits a place and where it fits none
  module _ (a : List ℕ) (s : ℕ) (w : Reply) where
    pub reply-taken : (k : ℕ) → k < 16 → fits_from x a s w k ≡ true → ((answered x a s w).verdict ≡ good) × ((answered x a s w).place ≡ k)
    reply-taken k h e =
        let both = (and-eq-true_iff (eqb (centre_of x a) (owner_of k)) (fits_at x.places s w k)).0 e in
        let own : centre_of x a ≡ owner_of k = eqb-true (centre_of x a) (owner_of k) both.0 in
        let is : fitting_of x (centre_of x a) s w ≡ k = ap (λ (d : ℕ). fitting_of x d s w) own ∙ fitting-is x sound k h s w both.1 in
        let y = answered-good x a s w sound.kept (omega (arith, own, h)) (omega (arith, is, own)) in
        (ap (λ (z : Replied). z.verdict) y, ap (λ (z : Replied). z.place) y ∙ is)

    pub reply-stray : ((k : ℕ) → k < 16 → fits_from x a s w k ≡ false) → answered x a s w ≡ untold x (refusal STRAY 0)
    unfolding fitting
    reply-stray none =
        by-test (ltb (centre_of x a) 2)
        (λ o.
        let c = centre_of x a in
        let own = ltb-true c 2 o in
        let end : fitting_of x c s w ≡ low_of c + (end_of c - low_of c) =
        first_absent (fits_at x.places s w) (low_of c) (end_of c - low_of c)
        (λ k l u.
        let mine : c ≡ owner_of k = omega (arith, l, u) in
        simp (eq-eqb c (owner_of k) mine) at (none k (omega (arith, own, u)))) in
        answered-stray x a s w sound.kept own (omega (arith, end)))
        (λ o. answered-outside x a s w sound.kept (ltb-false (centre_of x a) 2 o))

    -- so its line tells something of a place exactly where it fits it
    pub answers-fitting : (k : ℕ) → k < 16 → answers k (line_of x (reply a s w)) ≡ fits_from x a s w k
    unfolding answers line_of begins step_by
    answers-fitting k h = ap (λ (y : Step). not (eqb y.outcome NOTHING)) (each_step x sound k h (reply a s w) refl) ∙ by-fit (fits_from x a s w k)
      where
        p : Place
        p = place_at x.places k

        by-fit : (b : Bool) → not (eqb (cond b (replied x.resends w p) (becomes p NOTHING)).outcome NOTHING) ≡ b
        by-fit true = ap not (replied-speaks x.resends p w)
        by-fit false = refl

    -- an address of neither centre
    pub reply-from-neither : 2 ≤ centre_of x a → answered x a s w ≡ untold x (refusal STRAY 0)
    reply-from-neither h = answered-outside x a s w sound.kept h

  -- the centre that has an address is the one of the two whose address it is
  pub centre-of-own : (c : ℕ) → c < 2 → centre_of x (address_at x c) ≡ c
  unfolding centre_of
  centre-of-own c h =
      first-is (λ (d : ℕ). same (address_at x d) (address_at x c)) 0 2 c (omega arith) h (same_self (address_at x c))
      (λ d l u.
      let first : d ≡ 0 = omega arith in
      let second : c ≡ 1 = omega arith in
      (λ i. same (address_at x (first i)) (address_at x (second i))) ∙ (rules-of x sound.kept).differ)

  -- a tick, always
  pub tick-taken : (ticking x).verdict ≡ good
  tick-taken = ap (λ (y : Ticked). y.verdict) (ticking-good x sound.kept)

-- any call on a table that breaks the rules
pub broken-refused : (x : Exchanges) → legal x ≡ false → (c : Call) → verdict_of x c ≡ refusal STATE 0
unfolding verdict_of
broken-refused x e (begin a) =
    let state = ap (λ (f : Found). f.verdict) (found-state x a.centre e) in
    begun_verdict_lem rows x a.centre a.out a.draft a.size
    ∙ sym (find-decides rows x a.centre a.out a.draft a.size (ap is_good state))
    ∙ state
broken-refused x e (reply a s w) = ap (λ (y : Replied). y.verdict) (answered-state x a s w e)
broken-refused x e tick = ap (λ (y : Ticked). y.verdict) (ticking-state x e)
