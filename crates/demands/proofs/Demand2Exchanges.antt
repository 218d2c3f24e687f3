-- Demand 2 of the tender, the exchanges: "Serial numbers, resends and the end of an exchange follow the standard's retransmission rules", as
-- document 01 states them. Every table that arises from a fresh one keeps the state's rules; of each call on such a table, what it takes, what
-- becomes of each place and what is told of it. Assumes nothing.
use Prim.Native.Nat.{ℕ, ◌+◌, ◌≤◌, ◌<◌}
use mathlib.Core.Bool.{true, false, ◌&&◌}
use mathlib.Core.List.{List, reverse}
use mathlib.Core.Logic.{◌↔◌}
use mathlib.Core.Path.{◌≡◌, refl, sym, ap, subst⁻¹, ◌∙◌}
use denote.Laws.{Is}
use denote.MutBor.{MutBor}
use mir.Val.{Val}
use borrow.Author.Tests.{le-leb}
use lib.Dec.{eqb}
use lib.ListN.{length, get_or, take, drop, replicate}
use Rattle.octets.specs.Searches.{same}
use Rattle.octets.proofs.Alike.{same-is, same_self}
use Rattle.exchange.specs.declared.Address.{Address}
use Rattle.exchange.specs.declared.Begun.{Begun}
use Rattle.exchange.specs.declared.Centre.{Centre}
use Rattle.exchange.specs.declared.Draft.{Draft}
use Rattle.exchange.specs.declared.Exchanges.{Exchanges}
use Rattle.exchange.specs.Before.{Left, in_two}
use Rattle.exchange.specs.Begins.{headed, mode_of, draft_verdict, begun_verdict, unbegun, begun_output}
use Rattle.exchange.specs.Calls.{Asked, begun_by, Call, tick, reply, verdict_of, after, run, Sound}
use Rattle.exchange.specs.Logs.{Line, line_of, logged, is_tick, begins, tells, resends, sends, count, up_to}
use Rattle.exchange.specs.Steps.{fits_from, step_by, denies}
use Rattle.exchange.specs.Table.{centre_at, address_at, next_at, centre_of, settled, legal, blank, made, lowest_of, serial_of, found, placed, entered, fitting_of, untold, answered, ticking}
use Rattle.exchange.specs.contracts.Address.{the_row as address-row}
use Rattle.exchange.specs.contracts.Draft.{the_row}
use Rattle.exchange.proofs.Answers.{made-refused, made-good}
use Rattle.exchange.proofs.Before.{others-refused, same-verdict, same-output, same-written, same-unfound, refused-differs}
use Rattle.exchange.proofs.Begins.{order_tests, in-one-order, begun_verdict_lem}
use Rattle.exchange.proofs.Changes.{refused-same, taken-so, begun-found, given-unopened, given-first, given-next}
use Rattle.exchange.proofs.Changes.{begun-named, begun-low, begun-high, taken_free, taken-lowest, begin-others, begin-other-centre}
use Rattle.exchange.proofs.Changes.{reply-rest, tick-rest, tick-tells, settings-made, address-made}
use Rattle.exchange.proofs.Denials.{resent-when, failed-when, resent-place, failed-place, tick-silent}
use Rattle.exchange.proofs.Histories.{accounted}
use Rattle.exchange.proofs.Kept.{run_sound, never-broken, never-STATE}
use Rattle.exchange.proofs.OneCentre.{rules-as-before, serial-as-before, place-as-before, ninth-before, reply-as-before, stray-as-before}
use Rattle.exchange.proofs.Steps.{each_step, reply-fits, reply-passes, taken-opened}
use Rattle.exchange.proofs.Written.{Addressed, draft-addressed, address-handed, table-addressed, begun-judged, begun-header, begun-size, begun-unit, begun-beyond}
use Rattle.exchange.proofs.Taking.{broken-refused, begin-free, begin-full, begin-outside, reply-taken, reply-stray, reply-from-neither, centre-of-own, tick-taken}
use Rattle.kinds.specs.Table.{rows}
use Rattle.octets.specs.Parts.{part}
use Rattle.packet.specs.Frames.{command_of, unit_of, judged_packet}
use Rattle.packet.specs.Headers.{header_of, opened_packet}
use Rattle.place.specs.declared.Place.{Place}
use Rattle.place.specs.declared.Reply.{Reply}
use Rattle.place.specs.Steps.{Step}
use Rattle.place.specs.declared.Reply.TheVariants.{Confirm, Answer, Deny, BadAnswer}
use Rattle.place.specs.Rules.{free, opened, is_open}
use Rattle.place.specs.Steps.{NOTHING, CONFIRMED, ANSWERED, RESENT, FAILED, becomes, counted, ticked, replied}
use Rattle.places.specs.declared.Report.{Report}
use Rattle.places.specs.Rows.{place_at, lowest_free, is_open_as, upward, serial_for, fitting, are_sound, low_of, end_of, nothing}
use Rattle.taking.specs.Takes.{role_of, taken}
use Rattle.taking.proofs.Promises.{late_refused, is_reply, taken-confirm, taken-answer, taken-deny, taken-bad-answer, taken-other, taken_refused, calls_as, taken-run}
use Rattle.verdict.specs.declared.Verdict.{Verdict}
use Rattle.trawnosz.proofs.trawnosz_begin_and_write.Reads as begin-and-write
use Rattle.unit.specs.Units.{judged_under}
use Rattle.verdict.specs.Orders.{good, refusal, is_good, in_order}
use Rattle.verdict.specs.Refusals.{STATE, SETTING, FULL, STRAY, CENTRE}

-- "Timeout T is 1 to 10 ticks, resends R 0 to 9.", "A fresh table starts at serial 0": it is made with any such T and R and any two addresses that
-- differ, and with no others
pub fresh-in-range : (t r : ℕ) (a b : List ℕ) → 1 ≤ t → t ≤ 10 → r ≤ 9 → same a b ≡ false → made t r a b ≡ record { verdict = good; state = blank t r a b }
fresh-in-range t r a b k l m n = made-good t r a b (simp (le-leb 1 t k, le-leb t 10 l, le-leb r 9 m, n))

pub fresh-refused : (t r : ℕ) (a b : List ℕ) → settled t r a b ≡ false
    → made t r a b ≡ record { verdict = refusal SETTING 0; state = blank 0 0 (replicate 6 0) (replicate 6 0) }
fresh-refused = made-refused

-- two addresses are the same where each byte is
pub addresses-equal : (a b : List ℕ) → (same a b ≡ true) ↔ (a ≡ b)
addresses-equal a b = (same-is a b, λ e. ap (same a) (sym e) ∙ same_self a)

-- over any sequence of calls from a fresh table that was not refused T, R and the addresses stay, and the state's rules are kept, so that STATE never comes
module _ (t r : ℕ) (a b : List ℕ) (fresh : is_good (made t r a b).verdict ≡ true) (cs : List Call) where
  pub exchange-settings : ((run (made t r a b).state cs).timeout ≡ t) × ((run (made t r a b).state cs).resends ≡ r)
  exchange-settings = settings-made t r a b fresh cs

  pub exchange-addresses : (d : ℕ) → address_at (run (made t r a b).state cs) d ≡ address_at (blank t r a b) d
  exchange-addresses = address-made t r a b fresh cs

  pub exchange-kept : Sound (run (made t r a b).state cs)
  exchange-kept = never-broken t r a b fresh cs

  pub exchange-sound : (c : Call) → (verdict_of (run (made t r a b).state cs) c).number ≡ STATE → ⊥
  exchange-sound = never-STATE t r a b fresh cs

-- a table that breaks them, as no call hands one back, is refused by every call
pub exchange-broken : (x : Exchanges) → legal x ≡ false → (c : Call) → verdict_of x c ≡ refusal STATE 0
exchange-broken = broken-refused

-- a refused call, of any kind, uses up nothing: the next beginning for a centre that is good gives the serial that it would have given in its place
pub serial-not-used-up : (x : Exchanges) (c : Call) → is_good (verdict_of x c) ≡ false → (a : Asked) → is_good (begun_by (after x c) a).verdict ≡ true
    → (begun_by (after x c) a).serial ≡ (found x a.centre).serial
serial-not-used-up x c e a g = begun-found (after x c) a g ∙ ap (λ (y : Exchanges). (found y a.centre).serial) (refused-same x c e)

-- SERIAL NUMBERS: it "takes the lowest free place and the first serial, from the next one upward and past 65,535 to 0, that is not open; the one
-- after it is then next." Document 02, Q-8: "it writes the packet with the serial it would give, and only then opens the place."; Q-11: all of this
-- among the places, the serials and the next serial of the centre that it names
module _ (x : Exchanges) (sound : Sound x) (a : Asked) where
  abbrev c : ℕ
  c = a.centre

  -- "Refusals: STATE, FULL, then the packet writer's; COMMAND also for 3, 5, 6", "CENTRE, after STATE", in one order
  pub begin-in-order : (begun_by x a).verdict
      ≡ in_order (order_tests x a.centre a.out a.draft a.size) (judged_under rows a.draft.command (part a.out 27 (27 + a.size)))
  begin-in-order = begun_verdict_lem rows x a.centre a.out a.draft a.size ∙ in-one-order rows x a.centre a.out a.draft a.size

  -- where a place of the centre is free the packet writer decides, with COMMAND for all but 1, 2 and 4; it is refused where its eight are open, and for a
  -- centre other than the two
  pub begin-where-free : c < 2 → (k : ℕ) → low_of c ≤ k → k < end_of c → is_open (place_at x.places k).mode ≡ false
      → (begun_by x a).verdict ≡ draft_verdict rows x a.centre a.out a.draft a.size
  begin-where-free = begin-free x sound a

  pub begin-where-full : c < 2 → ((k : ℕ) → low_of c ≤ k → k < end_of c → is_open (place_at x.places k).mode ≡ true) → begun_by x a ≡ unbegun x (refusal FULL 0)
  begin-where-full = begin-full x sound a

  pub begin-where-no-centre : 2 ≤ c → begun_by x a ≡ unbegun x (refusal CENTRE 0)
  begin-where-no-centre = begin-outside x sound a

  module _ (taken : is_good (begun_by x a).verdict ≡ true) where
    pub serial-not-open : is_open_as x.places (low_of c) (end_of c) (begun_by x a).serial ≡ false
    serial-not-open = given-unopened x a taken

    -- all from the centre's next one up to it are open
    pub serial-is-first : (n : ℕ) × (((begun_by x a).serial ≡ upward (next_at x c) n)
        × ((j : ℕ) → j < n → is_open_as x.places (low_of c) (end_of c) (upward (next_at x c) j) ≡ true))
    serial-is-first = given-first x a taken

    pub serial-then-next : next_at (begun_by x a).state c ≡ upward (begun_by x a).serial 1
    serial-then-next = ap (λ (y : Centre). y.next) (given-next x a taken sound.two)

    pub place-is-the-centres : (c < 2) × (low_of c ≤ (begun_by x a).place) × ((begun_by x a).place < end_of c)
    place-is-the-centres = (begun-named x a taken, begun-low x a taken, begun-high x a taken)

    pub place-was-free : is_open (place_at x.places (begun_by x a).place).mode ≡ false
    place-was-free = taken_free x a taken

    pub place-is-lowest : (k : ℕ) → low_of c ≤ k → k < (begun_by x a).place → is_open (place_at x.places k).mode ≡ true
    place-is-lowest = taken-lowest x a taken

    -- "Commands 1 and 2 open a send, 4 a request."
    pub place-is-opened : place_at (begun_by x a).state.places (begun_by x a).place ≡ opened (begun_by x a).serial (mode_of a.draft.command)
    place-is-opened = taken-opened x sound a taken

    pub command-opens : is_open (mode_of a.draft.command) ≡ true
    command-opens = (taken-so x a taken).opens

    pub begin-leaves-others : (k : ℕ) → (k ≡ (begun_by x a).place → ⊥) → place_at (begun_by x a).state.places k ≡ place_at x.places k
    begin-leaves-others = begin-others x a taken

    pub begin-leaves-other-centre : (d : ℕ) → (d ≡ c → ⊥) → centre_at (begun_by x a).state d ≡ centre_at x d
    begin-leaves-other-centre = begin-other-centre x a taken

-- what a beginning that is good left: r is its answer, q the output, of which the front is a packet that is judged good and reads back with the serial that is
-- entered, the centre's address as destination, the command and the fields, around the unit that stood there, and the rest is as it was
pub record SentBack (x : Exchanges) (a : Asked) (r : Begun) (q : List ℕ) : Type 0 where
  pub good : is_good (judged_packet rows (take r.length q)) ≡ true
  pub header : (opened_packet rows (take r.length q)).header ≡ headed x a.centre a.draft r.serial
  pub size : (opened_packet rows (take r.length q)).length ≡ a.size
  pub unit : unit_of (take r.length q) ≡ part a.out 27 (27 + a.size)
  pub rest : drop r.length q ≡ drop r.length a.out

-- of the call that C links, whatever meets its contract
pub begun-read-back : (κs : _) (x : Exchanges) (n : ℕ) (out o : MutBor (List ℕ)) (d : Draft) (l : ℕ) (r : Begun)
    → begin-and-write.Post κs (x, (n, (out, (d, (l, tt))))) r (x, (n, (o, (d, (l, tt))))) → Addressed x n d → is_good r.verdict ≡ true
    → SentBack x (record { centre = n; out = out.now; draft = d; size = l }) r o.now
begun-read-back κs x n out o d l r p six g =
    let a : Asked = record { centre = n; out = out.now; draft = d; size = l } in
    let taken : is_good (begun_by x a).verdict ≡ true = ap (λ (b : Begun). is_good b.verdict) (sym p.0) ∙ g in
    subst⁻¹ (λ (b : Begun). SentBack x a b o.now) p.0
    (subst⁻¹ (SentBack x a (begun_by x a)) p.1
    (record {
      good = begun-judged x a six taken;
      header = begun-header x a six taken;
      size = begun-size x a six taken;
      unit = begun-unit x a six taken;
      rest = begun-beyond x a six taken;
    }))

-- `Addressed` asks for addresses of six bytes: every draft that a caller can hand over has such a source, and every table that arises from a fresh one, made
-- with any addresses that a caller can hand over, has such centres
pub draft-handed : (d : Draft) (vs : List Val) → Is the_row d vs → length d.source ≡ 6
draft-handed = draft-addressed

pub address-of-six : (a : Address) (vs : List Val) → Is address-row a vs → length a.bytes ≡ 6
address-of-six = address-handed

pub centres-of-six : (t r : ℕ) (a b : List ℕ) → is_good (made t r a b).verdict ≡ true → length a ≡ 6 → length b ≡ 6 → (cs : List Call) (n : ℕ) → n < 2
    → length (address_at (run (made t r a b).state cs) n) ≡ 6
centres-of-six = table-addressed

-- WHAT DIFFERS FROM RELEASE 1.0, where begin and the packet writer were two calls: of a command that opens an exchange the verdict and the output
-- are those of the two, and so is the table but where a place was found and the packet was refused; any other command is refused
module _ (x : Exchanges) (a : Asked) where
  abbrev before : Left
  before = in_two rows x a.centre (mode_of a.draft.command) a.out a.draft a.size

  abbrev verdict : Verdict
  verdict = begun_verdict rows x a.centre a.out a.draft a.size

  pub other-commands-refused : is_open (mode_of a.draft.command) ≡ false → is_good verdict ≡ false
  other-commands-refused = others-refused rows x a.centre a.out a.draft a.size

  module _ (opens : is_open (mode_of a.draft.command) ≡ true) where
    pub verdict-as-before : verdict ≡ before.verdict
    verdict-as-before = same-verdict rows x a.centre a.out a.draft a.size opens

    pub output-as-before : begun_output rows x a.centre a.out a.draft a.size ≡ before.out
    output-as-before = same-output rows x a.centre a.out a.draft a.size opens

    pub table-as-before : (is_good verdict ≡ true → (begun_by x a).state ≡ before.state) × (is_good (found x a.centre).verdict ≡ false → (begun_by x a).state ≡ before.state)
    table-as-before = (same-written rows x a.centre a.out a.draft a.size opens, same-unfound rows x a.centre a.out a.draft a.size opens)

    pub table-differs : is_good (found x a.centre).verdict ≡ true → is_good verdict ≡ false
        → (before.state ≡ entered x a.centre (found x a.centre).place (found x a.centre).serial (mode_of a.draft.command)) × ((begun_by x a).state ≡ x)
    table-differs = refused-differs rows x a.centre a.out a.draft a.size opens

-- WHAT DIFFERS FROM RELEASE 1.2, where one centre had all sixteen places, from 0 up to 16, and no address was looked at: with no exchange of the second
-- centre open the rules, the serial and place of a beginning for the first, and the place that a reply from its address fits, are those of 1.2; but with its
-- eight open 1.2 took place 8, which is now FULL, and a reply from another address, which 1.2 took by its serial, is STRAY
module _ (x : Exchanges) (sound : Sound x) (none : (k : ℕ) → 8 ≤ k → k < 16 → place_at x.places k ≡ free) where
  pub rules-as-in-1-2 : are_sound x.timeout x.resends x.places 0 16 ≡ true
  rules-as-in-1-2 = rules-as-before x sound none

  pub serial-as-in-1-2 : serial_of x 0 ≡ serial_for x.places 0 16 (next_at x 0)
  serial-as-in-1-2 = sym (serial-as-before x sound none)

  pub place-as-in-1-2 : lowest_of x 0 < 8 → lowest_of x 0 ≡ lowest_free x.places 0 16
  place-as-in-1-2 h = sym (place-as-before x sound none h)

  pub ninth-in-1-2 : 8 ≤ lowest_of x 0 → lowest_free x.places 0 16 ≡ 8
  ninth-in-1-2 = ninth-before x sound none

  pub reply-as-in-1-2 : (s : ℕ) (w : Reply) → fitting_of x 0 s w < 8 → fitting_of x 0 s w ≡ fitting x.places 0 16 s w
  reply-as-in-1-2 s w h = sym (reply-as-before x sound none s w h)

  pub stray-as-in-1-2 : (s : ℕ) (w : Reply) → 8 ≤ fitting_of x 0 s w → fitting x.places 0 16 s w ≡ 16
  stray-as-in-1-2 = stray-as-before x sound none

-- THE END OF AN EXCHANGE: "Confirm fits a send of its serial, answer a request; the place is freed."; Q-11: "a reply fits only when its source address is
-- that centre's"
module _ (x : Exchanges) (sound : Sound x) (a : List ℕ) (s : ℕ) (w : Reply) where
  -- a reply that fits a place answers that one, and "no open exchange fits the reply" otherwise
  pub reply-where-fits : (k : ℕ) → k < 16 → fits_from x a s w k ≡ true → ((answered x a s w).verdict ≡ good) × ((answered x a s w).place ≡ k)
  reply-where-fits = reply-taken x sound a s w

  pub reply-where-stray : ((k : ℕ) → k < 16 → fits_from x a s w k ≡ false) → answered x a s w ≡ untold x (refusal STRAY 0)
  reply-where-stray = reply-stray x sound a s w

  -- "an address of neither is STRAY"
  pub reply-of-neither : 2 ≤ centre_of x a → answered x a s w ≡ untold x (refusal STRAY 0)
  reply-of-neither = reply-from-neither x sound a s w

  -- and nothing beside the places changes
  pub reply-leaves-rest : (answered x a s w).state ≡ placed x (answered x a s w).state.places
  reply-leaves-rest = reply-rest x a s w

-- whose an address is
pub centre-by-address : (x : Exchanges) → Sound x → (c : ℕ) → c < 2 → centre_of x (address_at x c) ≡ c
centre-by-address = centre-of-own

module _ (x : Exchanges) (sound : Sound x) (k : ℕ) (here : k < 16) where
  -- the place at k, with what a call tells of it
  abbrev afterwards : Call → Step
  afterwards c = becomes (place_at (after x c).places k) (tells k (line_of x c))

  abbrev p : Place
  p = place_at x.places k

  pub confirm-ends : (a : List ℕ) (s : ℕ) → fits_from x a s Confirm k ≡ true → afterwards (reply a s Confirm) ≡ becomes free CONFIRMED
  unfolding after replied
  confirm-ends a s e = reply-fits x sound k here a s Confirm e

  pub answer-ends : (a : List ℕ) (s : ℕ) → fits_from x a s Answer k ≡ true → afterwards (reply a s Answer) ≡ becomes free ANSWERED
  unfolding after replied
  answer-ends a s e = reply-fits x sound k here a s Answer e

  -- a reply that does not fit leaves the place as it was and tells nothing of it
  pub reply-leaves : (a : List ℕ) (s : ℕ) (w : Reply) → fits_from x a s w k ≡ false → afterwards (reply a s w) ≡ becomes p NOTHING
  unfolding after
  reply-leaves a s w e = reply-passes x sound k here a s w e

  -- "A tick adds 1 to each age; reaching T acts as deny. The tick answers all sixteen places.": it is always taken, and each place takes its step
  pub tick-each-place : ((ticking x).verdict ≡ good) × (afterwards tick ≡ ticked x.timeout x.resends p)
  unfolding begins line_of step_by
  tick-each-place = (tick-taken x sound, each_step x sound k here tick refl)

  -- with its serial, since a failed place is freed
  pub tick-tells-serial : (get_or (ticking x).reports k nothing).serial ≡ p.serial
  tick-tells-serial = ap (λ (y : Report). y.serial) (tick-tells x sound.kept k)

  pub tick-leaves-rest : (ticking x).state ≡ placed x (ticking x).state.places
  tick-leaves-rest = tick-rest x

  -- RESENDS: "with fewer than R resends it is resent, one resend more and age 0, else it has failed and is freed": exactly when a denial or a bad
  -- answer that fits the place, or the tick that brings its age to T, comes
  pub resent-exactly : (c : Call) → (tells k (line_of x c) ≡ RESENT) ↔ ((denies x k c ≡ true) × (p.resends < x.resends))
  resent-exactly = resent-when x sound k here

  pub failed-exactly : (c : Call) → (tells k (line_of x c) ≡ FAILED) ↔ ((denies x k c ≡ true) × (p.resends ≡ x.resends))
  failed-exactly = failed-when x sound k here

  pub resent-becomes : (c : Call) → tells k (line_of x c) ≡ RESENT → place_at (after x c).places k ≡ counted (p.resends + 1) 0 p
  resent-becomes = resent-place x sound k here

  pub failed-becomes : (c : Call) → tells k (line_of x c) ≡ FAILED → place_at (after x c).places k ≡ free
  failed-becomes = failed-place x sound k here

  -- any other tick is silent, and an open place is one tick older
  pub tick-else-ages : is_open p.mode ≡ true → denies x k tick ≡ false → afterwards tick ≡ becomes (counted p.resends (p.age + 1) p) NOTHING
  tick-else-ages = tick-silent x sound k here

-- AGE AND RESENDS, over any sequence of calls from a fresh table that was not refused, refused calls among them: a place that is open was begun, its
-- age is the number of ticks since its last sending (its beginning, or the last resend told of it), and its resends are those told since it was begun
module _ (t r : ℕ) (a b : List ℕ) (fresh : is_good (made t r a b).verdict ≡ true) (cs : List Call) (k : ℕ) (here : k < 16) where
  abbrev left : Place
  left = place_at (run (made t r a b).state cs).places k

  -- what the calls answered, the latest first
  abbrev latest : List Line
  latest = reverse (logged (made t r a b).state cs)

  module _ (open_left : is_open left.mode ≡ true) where
    pub open-was-begun : 1 ≤ count (begins k) latest
    open-was-begun = (accounted k here t r a b fresh cs open_left).begun

    pub age-is-ticks : left.age ≡ count is_tick (up_to (sends k) latest)
    age-is-ticks = (accounted k here t r a b fresh cs open_left).aged

    pub resends-are-told : left.resends ≡ count (resends k) (up_to (begins k) latest)
    resends-are-told = (accounted k here t r a b fresh cs open_left).resent

-- A PACKET GIVEN AS ITS BYTES: "A reply is given as its serial and one of confirm, answer, deny, bad answer". The call that takes the table and a packet
-- is the table's own call for that reply under the source address and the serial that stand in the bytes, whatever the table; of any other packet the table comes back as it was
module _ (x : Exchanges) (p : List ℕ) where
  pub take-confirm : is_good (judged_packet rows p) ≡ true → command_of p ≡ 3 → taken rows x p ≡ answered x (header_of p).source (header_of p).serial Confirm
  take-confirm = taken-confirm rows x p

  pub take-answer : is_good (judged_packet rows p) ≡ true → command_of p ≡ 5 → taken rows x p ≡ answered x (header_of p).source (header_of p).serial Answer
  take-answer = taken-answer rows x p

  pub take-deny : is_good (judged_packet rows p) ≡ true → command_of p ≡ 6 → taken rows x p ≡ answered x (header_of p).source (header_of p).serial Deny
  take-deny = taken-deny rows x p

  -- "a bad answer (command 5, refused at VERSION or later)", by the order: no frame test fails, and one behind them does
  pub take-bad-answer : late_refused rows p ≡ true → command_of p ≡ 5 → taken rows x p ≡ answered x (header_of p).source (header_of p).serial BadAnswer
  take-bad-answer = taken-bad-answer rows x p

  pub take-no-reply : is_good (judged_packet rows p) ≡ true → is_reply (command_of p) ≡ false → taken rows x p ≡ untold x good
  take-no-reply = taken-other rows x p

  pub take-refused : is_good (judged_packet rows p) ≡ false → late_refused rows p && eqb (command_of p) 5 ≡ false → taken rows x p ≡ untold x (judged_packet rows p)
  take-refused = taken_refused rows x p

  -- so the table after it is one that the table's own calls hand back, and keeps the rules where they were kept
  pub take-keeps : Sound x → Sound (taken rows x p).state
  take-keeps sound =
      subst⁻¹ Sound (taken-run rows x p) (run_sound x sound (calls_as (role_of rows p) (header_of p).source (header_of p).serial))
