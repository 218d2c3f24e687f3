-- Beginning and writing as one: what its verdict tells, its answer and its output by that verdict, and that the packet writer says of the header
-- it is handed what the order says. Assumes nothing.
use Prim.Native.Nat.{ℕ, ◌+◌, ◌≤◌}
use mathlib.Core.Bool.{Bool, true, false, ◌||◌, cond, false≢true}
use mathlib.Core.List.{List, [], ◌∷◌}
use mathlib.Core.Path.{◌≡◌, refl, sym, ap, ◌∙◌}
use borrow.Author.Tests.{eq-eqb, ne_eqb, eqb-true}
use lib.Dec.{eqb, leb, ltb}
use lib.ListN.{length}
use Rattle.octets.proofs.Flags.{by-test}
use Rattle.kinds.specs.declared.Row.{Row}
use Rattle.label.specs.Times.{judged, allowed}
use Rattle.octets.specs.Parts.{part}
use Rattle.output.specs.Writing.{room_tests, packet_verdict, written_packet}
use Rattle.output.proofs.Judging.{packet-roomy}
use Rattle.packet.specs.declared.Header.{Header}
use Rattle.place.specs.Rules.{FREE, SEND, REQUEST, is_open}
use Rattle.places.specs.Rows.{end_of}
use Rattle.unit.specs.Units.{is_command, judged_under}
use Rattle.verdict.specs.declared.Verdict.{Verdict}
use Rattle.verdict.specs.Orders.{Test, ◌or_else◌, good, refusal, is_good, in_order}
use Rattle.verdict.specs.Refusals.{STATE, ROOM, LENGTH, COMMAND, TIME, FULL, CENTRE}
use Rattle.verdict.proofs.Order.{passed, failed, joined, good-held, held-good, stays, goes_on}
use Rattle.exchange.specs.declared.Begun.{Begun}
use Rattle.exchange.specs.declared.Draft.{Draft}
use Rattle.exchange.specs.declared.Exchanges.{Exchanges}
use Rattle.exchange.specs.Table.{Found}
use Rattle.exchange.specs.Begins.{headed_by, headed, mode_of, opening_tests, draft_verdict, begun_verdict, unbegun, begun, begun_output}
use Rattle.exchange.specs.Table.{address_at, legal, lowest_of, begin_tests, found, entered}

-- the mode that a command opens
module _ (c : ℕ) where
  pub by-control : c ≡ 1 → SEND ≡ mode_of c
  unfolding mode_of
  by-control e = simp (eq-eqb c 1 e)

  pub by-send : (c ≡ 1 → ⊥) → c ≡ 2 → SEND ≡ mode_of c
  unfolding mode_of
  by-send n e = simp (ne_eqb c 1 n, eq-eqb c 2 e)

  pub by-request : (c ≡ 1 → ⊥) → (c ≡ 2 → ⊥) → c ≡ 4 → REQUEST ≡ mode_of c
  unfolding mode_of
  by-request n m e = simp (ne_eqb c 1 n, ne_eqb c 2 m, eq-eqb c 4 e)

  pub by-none : (c ≡ 1 → ⊥) → (c ≡ 2 → ⊥) → (c ≡ 4 → ⊥) → FREE ≡ mode_of c
  unfolding mode_of
  by-none n m k = simp (ne_eqb c 1 n, ne_eqb c 2 m, ne_eqb c 4 k)

pub ruleset opening = (by-control, by-send, by-request, by-none)

-- what the packet writer says of a draft: of one whose command opens an exchange its own verdict, of any other LENGTH, ROOM or COMMAND
module _ (rs : List Row) (out : List ℕ) (d : Draft) (l : ℕ) (to : List ℕ) (s : ℕ) where
  abbrev rest : Header → Verdict
  rest h = packet_verdict rs out h l

  abbrev own : Header
  own = headed_by d to s d.command

  abbrev command : Test
  command = is_open (mode_of d.command) or_else COMMAND

  pub opens-so : is_open (mode_of d.command) ≡ true → in_order (opening_tests out d l) (rest own) ≡ rest own
  unfolding packet_verdict in_order
  opens-so o =
      joined (room_tests out l 30) (command ∷ []) (rest own)
      ∙ ap (in_order (room_tests out l 30)) (passed command [] (rest own) o)
      ∙ by-test (is_good (in_order (room_tests out l 30) good))
      (λ g. goes_on (room_tests out l 30) (rest own) refl g)
      (λ b. stays (room_tests out l 30) (rest own) b ∙ sym (stays (room_tests out l 30) _ b))

  refused-so : is_open (mode_of d.command) ≡ false → in_order (opening_tests out d l) (rest own) ≡ rest (headed_by d to s 0)
  unfolding packet_verdict in_order
  refused-so o =
      joined (room_tests out l 30) (command ∷ []) (rest own)
      ∙ ap (in_order (room_tests out l 30)) (failed command [] (rest own) o)

  pub draft-judged : (c : ℕ) → c ≡ cond (is_open (mode_of d.command)) d.command 0
      → packet_verdict rs out (headed_by d to s c) l ≡ in_order (opening_tests out d l) (packet_verdict rs out own l)
  draft-judged c e =
      by-test (is_open (mode_of d.command))
      (λ o. ap (λ (k : ℕ). rest (headed_by d to s k)) (e ∙ simp o) ∙ sym (opens-so o))
      (λ o. ap (λ (k : ℕ). rest (headed_by d to s k)) (e ∙ simp o) ∙ sym (refused-so o))

-- a command that opens an exchange is one of the six
opens-command : (c : ℕ) → is_open (mode_of c) ≡ true → is_command c ≡ true
unfolding mode_of is_open
opens-command c = by_tests (eqb c 1) refl (eqb c 2) refl (eqb c 4) refl
  where
    by_tests : (a : Bool) → eqb c 1 ≡ a → (b : Bool) → eqb c 2 ≡ b → (d : Bool) → eqb c 4 ≡ d → is_open (cond (a || b) SEND (cond d REQUEST FREE)) ≡ true
        → is_command c ≡ true
    by_tests true e b f d g o = ap is_command (eqb-true c 1 e)
    by_tests false e true f d g o = ap is_command (eqb-true c 2 f)
    by_tests false e false f true g o = ap is_command (eqb-true c 4 g)
    by_tests false e false f false g o = absurd (false≢true o)

-- the whole order as one table, then the unit under its command: "STATE, FULL, then the packet writer's; COMMAND also for 3, 5, 6", with CENTRE after STATE
abbrev pub order_tests : Exchanges → ℕ → List ℕ → Draft → ℕ → List Test
order_tests x c out d l =
    (legal x or_else STATE)
    ∷ (ltb c 2 or_else CENTRE)
    ∷ (ltb (lowest_of x c) (end_of c) or_else FULL)
    ∷ (leb l 1024 or_else LENGTH)
    ∷ (leb (30 + l) (length out) or_else ROOM)
    ∷ (is_open (mode_of d.command) or_else COMMAND)
    ∷ (allowed (judged d.label) or_else TIME)
    ∷ []

pub in-one-order : (rs : List Row) (x : Exchanges) (c : ℕ) (out : List ℕ) (d : Draft) (l : ℕ)
    → begun_verdict rs x c out d l ≡ in_order (order_tests x c out d l) (judged_under rs d.command (part out 27 (27 + l)))
unfolding begun_verdict packet_verdict in_order
in-one-order rs x c out d l =
    ap
    (λ (v : Verdict). cond (legal x) (cond (ltb c 2) (cond (ltb (lowest_of x c) (end_of c)) v (refusal FULL 0)) (refusal CENTRE 0)) (refusal STATE 0))
    (by_tests (leb l 1024) (leb (30 + l) (length out)) (is_open (mode_of d.command)) refl (is_command d.command) refl)
  where
    timed : Verdict
    timed = in_order ((allowed (judged d.label) or_else TIME) ∷ []) (judged_under rs d.command (part out 27 (27 + l)))

    roomed : Bool → Bool → Verdict → Verdict
    roomed a b v = cond a (cond b v (refusal ROOM 0)) (refusal LENGTH 0)

    by_tests : (a b o : Bool) → is_open (mode_of d.command) ≡ o → (k : Bool) → is_command d.command ≡ k
        → roomed a b (cond o (roomed a b (cond k timed (refusal COMMAND 0))) (refusal COMMAND 0)) ≡ roomed a b (cond o timed (refusal COMMAND 0))
    by_tests false b o p k q = refl
    by_tests true false o p k q = refl
    by_tests true true false p k q = refl
    by_tests true true true p true q = refl
    by_tests true true true p false q = absurd (false≢true (sym q ∙ opens-command d.command p))

module _ (rs : List Row) (x : Exchanges) (c : ℕ) (out : List ℕ) (d : Draft) (l : ℕ) where
  -- the order by its two halves
  pub find-decides : is_good (found x c).verdict ≡ false → (found x c).verdict ≡ begun_verdict rs x c out d l
  unfolding begun_verdict found
  find-decides e = sym (stays (begin_tests x c) (draft_verdict rs x c out d l) e)

  pub draft-decides : is_good (found x c).verdict ≡ true → draft_verdict rs x c out d l ≡ begun_verdict rs x c out d l
  unfolding begun_verdict found
  draft-decides g = sym (goes_on (begin_tests x c) (draft_verdict rs x c out d l) refl g)

  -- what a good verdict tells: a place is free, the command opens an exchange, and the packet writer takes the packet
  pub record Taken : Type 0 where
    pub find : is_good (found x c).verdict ≡ true
    pub opens : is_open (mode_of d.command) ≡ true
    pub writes : is_good (packet_verdict rs out (headed x c d (found x c).serial) l) ≡ true

  pub taken_by_lem : is_good (begun_verdict rs x c out d l) ≡ true → Taken
  unfolding begun_verdict found
  taken_by_lem g =
      let a = good-held (begin_tests x c) (draft_verdict rs x c out d l) refl g in
      let b = good-held (opening_tests out d l) (packet_verdict rs out (headed x c d (found x c).serial) l) refl a.1 in
      record { find = held-good (begin_tests x c) a.0; opens = b.0.1.1.0; writes = b.1 }

  pub taken-good : Taken → begun_verdict rs x c out d l ≡ packet_verdict rs out (headed x c d (found x c).serial) l
  taken-good t = sym (draft-decides t.find) ∙ opens-so rs out d l (address_at x c) (found x c).serial t.opens

  -- the answer and the output
  pub begun-refused : is_good (begun_verdict rs x c out d l) ≡ false → begun rs x c out d l ≡ unbegun x (begun_verdict rs x c out d l)
  unfolding begun
  begun-refused e = simp e

  pub output-kept : is_good (begun_verdict rs x c out d l) ≡ false → begun_output rs x c out d l ≡ out
  unfolding begun_output
  output-kept e = simp e

  abbrev pub opening-at : Verdict → Found → Begun
  opening-at v f =
      record { verdict = v; place = f.place; length = 30 + l; serial = f.serial; state = entered x c f.place f.serial (mode_of d.command) }

  pub begun-good : is_good (begun_verdict rs x c out d l) ≡ true → begun rs x c out d l ≡ opening-at (begun_verdict rs x c out d l) (found x c)
  unfolding begun
  begun-good g = simp g

  pub output-written : is_good (begun_verdict rs x c out d l) ≡ true → begun_output rs x c out d l ≡ written_packet rs out (headed x c d (found x c).serial) l
  unfolding begun_output
  output-written g = simp g

  pub begun_verdict_lem : (begun rs x c out d l).verdict ≡ begun_verdict rs x c out d l
  begun_verdict_lem =
      by-test (is_good (begun_verdict rs x c out d l))
      (λ g. ap (λ (y : Begun). y.verdict) (begun-good g))
      (λ e. ap (λ (y : Begun). y.verdict) (begun-refused e))

  pub begun-few : is_good (begun_verdict rs x c out d l) ≡ true → l ≤ 1024
  begun-few g = (packet-roomy rs out (headed x c d (found x c).serial) l (taken_by_lem g).writes).0
