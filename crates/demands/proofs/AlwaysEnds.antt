-- "An exchange always ends" (document 02, Q-10): over any sequence of calls from a fresh table that was not refused, refused calls among them. It is
-- stated over what the calls answer, line by line, and over no table in between, so that a box's own log can be held against it. Assumes nothing.
use Prim.Native.Nat.{ℕ, zero, suc, ◌+◌, ◌*◌, ◌<◌}
use native.Mathlib.Omega.{arith}
use mathlib.Core.Bool.{Bool, true, false, cond}
use mathlib.Core.List.{List, [], ◌∷◌, map}
use mathlib.Core.Path.{◌≡◌, refl, sym, ap, subst⁻¹, ◌∙◌}
use lib.ListN.{replicate}
use Rattle.demands.proofs.BoxLogs.{Written, log-of-calls}
use Rattle.exchange.specs.declared.Address.{Address}
use Rattle.exchange.specs.declared.Exchanges.{Exchanges}
use Rattle.exchange.specs.declared.Made.{Made}
use Rattle.exchange.specs.Begins.{mode_of, draft_verdict}
use Rattle.exchange.specs.Calls.{Asked, begun_by, begin, reply, tick, after, Sound}
use Rattle.exchange.specs.Lives.{Exchange, ends, life, Failed, Lived}
use Rattle.exchange.specs.Logs.{Line, line_of, logged_by, is_tick, answers, count}
use Rattle.exchange.specs.Steps.{fits_from}
use Rattle.exchange.specs.Table.{made}
use Rattle.exchange.proofs.Examples.{asked}
use Rattle.exchange.proofs.Histories.{none_open}
use Rattle.exchange.proofs.Kept.{made-sound}
use Rattle.exchange.proofs.Courses.{Log}
use Rattle.exchange.proofs.Lives.{each-lives}
use Rattle.exchange.proofs.Taking.{begin-free, answers-fitting}
use Rattle.frame.specs.Frame.{unit_length}
use Rattle.kinds.specs.Table.{table, rows_of, rows, find_row}
use Rattle.label.specs.Times.{judged, in_ranges}
use Rattle.octets.specs.Numbers.{low_first}
use Rattle.octets.specs.Parts.{part}
use Rattle.octets.specs.Searches.{first_fit}
use Rattle.output.specs.Writing.{packet_verdict}
use Rattle.packet.specs.Frames.{unit_of}
use Rattle.packet.proofs.Examples.{B}
use Rattle.place.specs.declared.Place.{Place}
use Rattle.place.specs.declared.Reply.{Reply}
use Rattle.place.specs.Rules.{is_open}
use Rattle.taking.specs.Boxes.{BoxCall, own, box_line, box_after, box_log, calls_tick}
use Rattle.taking.proofs.Boxes.{box_log_lem, ticks-as-called}
use Rattle.trawnosz.proofs.trawnosz_exchanges_fresh.Reads as c-fresh
use Rattle.unit.specs.Objects.{text_size, end_of, walk, timely}
use Rattle.unit.specs.Units.{judged_unit, judged_under}
use Rattle.verdict.specs.Orders.{is_good, in_order}

-- the calls are begin-and-write, replies, packets given as their bytes, and ticks; each exchange begun is known by the line of its beginning
pub always-ends : (t r : ℕ) (a b : List ℕ) → is_good (made t r a b).verdict ≡ true → (cs : List BoxCall) (e : Exchange (box_log (made t r a b).state cs))
    → Lived t r e.place e.serial e.after
always-ends t r a b fresh cs e = each-lives t r a b fresh (box_log_lem (made t r a b).state (made-sound t r a b fresh) cs) e

-- of the calls that C links, whatever meets their contracts
pub c-always-ends : (κs : _) (t r : ℕ) (a b : Address) (m : Made) → c-fresh.Post κs (t, (r, (a, (b, tt)))) m (t, (r, (a, (b, tt)))) → is_good m.verdict ≡ true
    → (log : List Line) → Written m.state log → (e : Exchange log) → Lived t r e.place e.serial e.after
c-always-ends κs t r a b m p good log w e =
    let start = made t r a.bytes b.bytes in
    let fresh : is_good start.verdict ≡ true = ap (λ (y : Made). is_good y.verdict) (sym p) ∙ good in
    let cs = log-of-calls w in
    let same : log ≡ box_log start.state cs.0 = cs.1 ∙ ap (λ (y : Made). box_log y.state cs.0) p in
    each-lives t r a.bytes b.bytes fresh
    (subst⁻¹ (Log start.state) same (box_log_lem start.state (made-sound t r a.bytes b.bytes fresh) cs.0)) e

-- the ticks of a log are the calls that are ticks, one by one
pub ticks-counted : (t r : ℕ) (a b : List ℕ) (cs : List BoxCall) → map is_tick (box_log (made t r a b).state cs) ≡ map calls_tick cs
ticks-counted t r a b cs = ticks-as-called (made t r a b).state cs

-- and a reply's line tells something of a place exactly where the reply fits it
pub fits-is-told : (x : Exchanges) → Sound x → (a : List ℕ) (s : ℕ) (w : Reply) (k : ℕ) → k < 16 → answers k (line_of x (reply a s w)) ≡ fits_from x a s w k
fits-is-told = answers-fitting

-- for every T and R, and for each centre, the bounds are reached: by document 01's packet B, begun, and then ticks alone
module _ (t r : ℕ) (a b : List ℕ) (fresh : is_good (made t r a b).verdict ≡ true) (c : ℕ) (own-centre : c < 2) where
  abbrev x : Exchanges
  x = (made t r a b).state

  abbrev send : Asked
  send = asked c 2 (unit_of B)

  written : is_good (draft_verdict rows x c send.out send.draft send.size) ≡ true
  unfolding mode_of is_open in_order packet_verdict judged_under judged_unit rows_of table find_row text_size end_of walk timely judged in_ranges first_fit low_first part unit_length
  written = refl

  taken : is_good (begun_by x send).verdict ≡ true
  unfolding is_open
  taken =
      let none = ap (λ (p : Place). is_open p.mode) (none_open (c * 8) (omega (arith, own-centre)) t r a b) in
      ap is_good (begin-free x (made-sound t r a b fresh) send own-centre (c * 8) (omega arith) (omega arith) none) ∙ written

  -- the log of so many ticks
  abbrev ticks : Exchanges → ℕ → List Line
  ticks y n = box_log y (replicate n (own tick))

  pub first_of : (n : ℕ) → Exchange (box_log x (own (begin send) ∷ replicate n (own tick)))
  unfolding logged_by box_line box_after line_of after
  first_of n =
      record {
        before = [];
        verdict = (begun_by x send).verdict;
        place = (begun_by x send).place;
        serial = (begun_by x send).serial;
        after = ticks (begun_by x send).state n;
        written = refl;
        taken = taken;
      }

  all-ticks : (n : ℕ) (y : Exchanges) → count is_tick (ticks y n) ≡ n
  unfolding logged_by box_line line_of is_tick count
  all-ticks zero y = refl
  all-ticks (suc n) y = omega (arith, all-ticks n (box_after y (own tick)))

  no-replies : (k n : ℕ) (y : Exchanges) → count (answers k) (life k (ticks y n)) ≡ 0
  unfolding logged_by box_line line_of answers count life
  no-replies k zero y = refl
  no-replies k (suc n) y = by_end (ends k (line_of y tick)) (life k (ticks (box_after y (own tick)) n)) (no-replies k n (box_after y (own tick)))
    where
      by_end : (b : Bool) (rest : List Line) → count (answers k) rest ≡ 0 → 0 + count (answers k) (cond b [] rest) ≡ 0
      by_end true rest e = refl
      by_end false rest e = omega (arith, e)

  pub bounds-reached : Failed ((r + 1) * t) r (first_of ((r + 1) * t)).place (first_of ((r + 1) * t)).after
  unfolding first_of
  bounds-reached =
      let n = (r + 1) * t in
      let y = (begun_by x send).state in
      let lived = always-ends t r a b fresh (own (begin send) ∷ replicate n (own tick)) (first_of n) in
      lived.fails_at_last (omega (arith, all-ticks n y)) (no-replies (begun_by x send).place n y)
