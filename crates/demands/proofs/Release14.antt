-- What release 1.5 changed, exactly (document 02, Q-2): a confirm or a deny that carries something, judged, read, written or taken. What 1.4 said follows from what 1.5 says.
-- Assumes nothing.
use Prim.Native.Nat.{ℕ, ◌+◌, ◌≤◌}
use native.Mathlib.Omega.{arith}
use mathlib.Core.Bool.{Bool, true, false, ◌&&◌, cond, false≢true, and-eq-true_iff}
use mathlib.Core.List.{List, []}
use mathlib.Core.Path.{◌≡◌, refl, sym, ap, ◌∙◌}
use borrow.Author.Tests.{leb-true, leb-false, le-leb, lt-leb}
use lib.Dec.{leb}
use lib.ListN.{length}
use Rattle.exchange.specs.declared.Draft.{Draft}
use Rattle.exchange.specs.declared.Exchanges.{Exchanges}
use Rattle.exchange.specs.Begins.{headed, mode_of, opening_tests, begun_as}
use Rattle.exchange.specs.Table.{begin_tests, found, untold}
use Rattle.frame.specs.Frame.{unit_length, frame_tests}
use Rattle.kinds.specs.Table.{rows}
use Rattle.label.specs.declared.Label.{Label}
use Rattle.label.specs.Times.{judged, allowed}
use Rattle.octets.specs.Parts.{part}
use Rattle.octets.proofs.Flags.{by-test, of_either}
use Rattle.output.specs.Writing.{room_tests, field_tests, written_as}
use Rattle.output.proofs.Carried.{output-long}
use Rattle.packet.specs.declared.Header.{Header}
use Rattle.packet.specs.Frames.{command_of, unit_of, header_tests}
use Rattle.packet.specs.Headers.{header_of, read_as}
use Rattle.packet.proofs.Carried.{unit-long}
use Rattle.place.specs.Rules.{is_open}
use Rattle.reply.specs.Dues.{Due, Nothing}
use Rattle.reply.specs.Replies.{due_as, answer_as, written_reply_as}
use Rattle.reply.proofs.Promises.{none-to-kept}
use Rattle.taking.specs.Roles.{Role}
use Rattle.taking.specs.Roles.Role.{Other}
use Rattle.taking.specs.Takes.{role_in, taken_as}
use Rattle.unit.specs.Units.{is_kept, empty_tests}
use Rattle.unit.proofs.Under.{by-kept, kept-command, kept-good}
use Rattle.verdict.specs.declared.Verdict.{Verdict}
use Rattle.verdict.specs.Orders.{Test, ◌or_else◌, in_order, refusal, good, is_good, refusing, no_part, part_by}
use Rattle.verdict.specs.Refusals.{UNIT, TIME}
use Rattle.verdict.proofs.Order.{passed, failed, good-held, held-good, stays, goes_on, exchanged}
use Rattle.demands.specs.Rules.{in14, in15, in16, under_by, content_by, packet_by, writer_by, begun_by, due_by, reply_by, taken_by}
use Rattle.demands.specs.Rules.{place_as, begun_output_as, reply_as, take_as}
use Rattle.demands.specs.Release13.{WithoutTime}
use Rattle.demands.specs.Release14.{carries_some, newly_good, said_in14, is_new}
use Rattle.demands.proofs.Release13.{packet-spares-zeros}
use Rattle.demands.proofs.ThisRelease.{under-now}

-- where 1.4 says the same: of what is refused, and under every other command
module _ (c l : ℕ) where
  said-refused : (v : Verdict) → is_good v ≡ false → said_in14 c l v ≡ v
  said-refused v e = ap (λ (b : Bool). cond (carries_some c l && b) (refusal UNIT 0) v) e ∙ go (carries_some c l)
    where
      go : (b : Bool) → cond (b && false) (refusal UNIT 0) v ≡ v
      go true = refl
      go false = refl

  said-other : (v : Verdict) → is_kept c ≡ false → said_in14 c l v ≡ v
  said-other v e = simp e

  -- what an order makes of it, w being what 1.4 says behind the tests where they are passed
  said-over : (ts : List Test) (w v : Verdict) → refusing ts ≡ true → (is_good (in_order ts good) ≡ true → w ≡ said_in14 c l v) → in_order ts w ≡ said_in14 c l (in_order ts v)
  said-over ts w v n e =
      by-test (is_good (in_order ts good)) (λ g. goes_on ts w n g ∙ e g ∙ ap (said_in14 c l) (sym (goes_on ts v n g)))
      (λ g. stays ts w g ∙ sym (said-refused (in_order ts good) g) ∙ ap (said_in14 c l) (sym (stays ts v g)))

module _ (c : ℕ) (u : List ℕ) where
  empty-under : is_kept c ≡ true → under_by in14 rows c u ≡ in_order (empty_tests u) good
  unfolding in_order
  empty-under e = simp (kept-command c e, e)

  empty-none : length u ≤ 0 → in_order (empty_tests u) good ≡ good
  unfolding in_order
  empty-none h = passed (leb (length u) 0 or_else UNIT) [] good (le-leb (length u) 0 h)

  -- what is kept is good, of at most 1,024 bytes
  kept-in-1-5 : is_kept c ≡ true → length u ≤ 1024 → under_by in15 rows c u ≡ good
  kept-in-1-5 e h = same e ∙ under-now rows c u ∙ kept-good rows c u e h
    where
      same : is_kept c ≡ true → under_by in15 rows c u ≡ under_by in16 rows c u
      same e = simp e

  -- DEMAND 2 and the tender's "going back is also a release": under 3 and 6 release 1.4 says UNIT of whatever is carried, and of every other unit what 1.5 says
  pub unit-under-as-in-1-4 : under_by in14 rows c u ≡ cond (carries_some c (length u)) (refusal UNIT 0) (under_by in15 rows c u)
  unit-under-as-in-1-4 =
      by-test (is_kept c)
      (λ e. by-test (leb 1 (length u))
      (λ t. empty-under e ∙ failed (leb (length u) 0 or_else UNIT) [] good (lt-leb (length u) 0 (leb-true 1 (length u) t)) ∙ simp (e, t))
      (λ t.
      let short : length u ≤ 0 = omega (arith, leb-false 1 (length u) t) in
      empty-under e ∙ empty-none short ∙ sym (kept-in-1-5 e (omega (arith, short))) ∙ simp (e, t)))
      (λ e. same e ∙ simp e)
    where
      same : is_kept c ≡ false → under_by in14 rows c u ≡ under_by in15 rows c u
      same e = simp e

-- so does what a packet of at most 1,024 bytes carries
under_said : (c l : ℕ) (u : List ℕ) → length u ≡ l → l ≤ 1024 → under_by in14 rows c u ≡ said_in14 c l (under_by in15 rows c u)
under_said c l u long few =
    unit-under-as-in-1-4 c u ∙ ap (λ (n : ℕ). cond (carries_some c n) (refusal UNIT 0) (under_by in15 rows c u)) long
    ∙ by-test (is_kept c)
    (λ e.
    let is : under_by in15 rows c u ≡ good = kept-in-1-5 c u e (omega (arith, long)) in
    ap (λ (v : Verdict). cond (carries_some c l) (refusal UNIT 0) v) is ∙ good-one (carries_some c l) ∙ ap (said_in14 c l) (sym is))
    (λ e. ap (λ (b : Bool). cond (b && leb 1 l) (refusal UNIT 0) (under_by in15 rows c u)) e ∙ sym (said-other c l (under_by in15 rows c u) e))
  where
    good-one : (b : Bool) → cond b (refusal UNIT 0) good ≡ cond (b && true) (refusal UNIT 0) good
    good-one true = refl
    good-one false = refl

content-said : (p : List ℕ) → is_good (in_order (frame_tests 1024 p) good) ≡ true → content_by in14 rows p ≡ said_in14 (command_of p) (unit_length p) (content_by in15 rows p)
content-said p g =
    let fits = unit-long p g in
    said-over (command_of p) (unit_length p) (header_tests p) _ _ refl (λ t. under_said (command_of p) (unit_length p) (unit_of p) fits.0 fits.1)

-- a packet: release 1.4 refuses with UNIT every confirm and every deny that carries something and is good in 1.5, and says of all others what 1.5 says
pub packet-as-in-1-4 : (p : List ℕ) → packet_by in14 rows p ≡ said_in14 (command_of p) (unit_length p) (packet_by in15 rows p)
packet-as-in-1-4 p = said-over (command_of p) (unit_length p) (frame_tests 1024 p) _ _ refl (content-said p)

-- so with the packet writer, which then writes nothing
module _ (out : List ℕ) (h : Header) (l : ℕ) where
  writer-said : writer_by in14 rows out h l ≡ said_in14 h.command l (writer_by in15 rows out h l)
  writer-said =
      said-over h.command l (room_tests out l 30) _ _ refl
      (λ g.
      let fits = output-long out l g in
      said-over h.command l (field_tests h) _ _ refl (λ t. under_said h.command l (part out 27 (27 + l)) fits.0 fits.1))

  pub write-packet-as-in-1-4 : (writer_by in14 rows out h l ≡ said_in14 h.command l (writer_by in15 rows out h l))
      × (written_as out h l (writer_by in14 rows out h l) ≡ cond (newly_good h.command l (writer_by in15 rows out h l)) out (written_as out h l (writer_by in15 rows out h l)))
  write-packet-as-in-1-4 = (
    writer-said,
    ap (written_as out h l) writer-said ∙ of_either (written_as out h l) (newly_good h.command l (writer_by in15 rows out h l)) (refusal UNIT 0) (writer_by in15 rows out h l),
  )

-- a beginning is never under 3 or 6, so it is as it was: verdict, place, serial, table and every byte of the output
opens-none : (c : ℕ) → is_open (mode_of c) ≡ true → is_kept c ≡ false
unfolding is_open mode_of
opens-none c o =
    by-test (is_kept c) (λ e. absurd (by-kept (λ (k : ℕ). is_open (mode_of k) ≡ true → ⊥) c e (λ q. false≢true q) (λ q. false≢true q) o)) (λ e. e)

module _ (x : Exchanges) (c : ℕ) (out : List ℕ) (d : Draft) (l : ℕ) where
  abbrev head : Header
  head = headed x c d (found x c).serial

  writer-same : is_good (in_order (opening_tests out d l) good) ≡ true → writer_by in14 rows out head l ≡ writer_by in15 rows out head l
  writer-same g =
      let begins = (good-held (opening_tests out d l) good refl g).0.1.1.0 in
      writer-said out head l ∙ said-other d.command l (writer_by in15 rows out head l) (opens-none d.command begins)

  begun-same : begun_by in14 rows x c out d l ≡ begun_by in15 rows x c out d l
  begun-same = ap (in_order (begin_tests x c)) (exchanged (opening_tests out d l) _ _ refl writer-same)

  -- where it is good the writer was asked, so that it wrote the same
  output-same : begun_output_as x c out d l (begun_by in14 rows x c out d l) (writer_by in14 rows out head l)
      ≡ begun_output_as x c out d l (begun_by in15 rows x c out d l) (writer_by in15 rows out head l)
  output-same =
      ap (λ (v : Verdict). begun_output_as x c out d l v (writer_by in14 rows out head l)) begun-same
      ∙ by-test (is_good (begun_by in15 rows x c out d l))
      (λ g. ap (begun_output_as x c out d l (begun_by in15 rows x c out d l)) (writer-same (asked g)))
      (λ g. simp g)
    where
      asked : is_good (begun_by in15 rows x c out d l) ≡ true → is_good (in_order (opening_tests out d l) good) ≡ true
      asked g =
          let behind = (good-held (begin_tests x c) _ refl g).1 in
          held-good (opening_tests out d l) (good-held (opening_tests out d l) (writer_by in15 rows out head l) refl behind).0

  pub begin-as-in-1-4 : (begun_by in14 rows x c out d l ≡ begun_by in15 rows x c out d l)
      × (begun_as x c d l (begun_by in14 rows x c out d l) ≡ begun_as x c d l (begun_by in15 rows x c out d l))
      × (begun_output_as x c out d l (begun_by in14 rows x c out d l) (writer_by in14 rows out head l)
      ≡ begun_output_as x c out d l (begun_by in15 rows x c out d l) (writer_by in15 rows out head l))
  begin-as-in-1-4 = (begun-same, ap (begun_as x c d l) begun-same, output-same)

-- what is read of a packet and where its unit stands follow from the judge's word
pub read-as-in-1-4 : (p : List ℕ)
    → (read_as p (packet_by in14 rows p) ≡ cond (is_new rows p) (read_as p (refusal UNIT 0)) (read_as p (packet_by in15 rows p)))
    × (place_as p (packet_by in14 rows p) ≡ cond (is_new rows p) (no_part (refusal UNIT 0)) (place_as p (packet_by in15 rows p)))
unfolding part_by
read-as-in-1-4 p = (
  ap (read_as p) (packet-as-in-1-4 p) ∙ of_either (read_as p) (is_new rows p) (refusal UNIT 0) (packet_by in15 rows p),
  ap (place_as p) (packet-as-in-1-4 p) ∙ of_either (place_as p) (is_new rows p) (refusal UNIT 0) (packet_by in15 rows p),
)

-- the reply is the same to every packet: what is due, the answer and every byte of the output
pub reply-as-in-1-4 : (p : List ℕ) (t : Label) (out : List ℕ)
    → (due_by in14 rows p ≡ due_by in15 rows p)
    × (answer_as (reply_by in14 rows p t out) (due_by in14 rows p) ≡ answer_as (reply_by in15 rows p t out) (due_by in15 rows p))
    × (written_reply_as p t out (reply_by in14 rows p t out) (due_by in14 rows p) ≡ written_reply_as p t out (reply_by in15 rows p t out) (due_by in15 rows p))
reply-as-in-1-4 p t out = (
  due,
  ap (λ (d : Due). answer_as (reply_as p out (allowed (judged t)) d) d) due,
  ap (λ (d : Due). written_reply_as p t out (reply_as p out (allowed (judged t)) d) d) due,
)
  where
    none : is_kept (command_of p) ≡ true → (v : Verdict) → due_as p v ≡ Nothing
    none e v = none-to-kept (command_of p) (is_good v) e

    due : due_by in14 rows p ≡ due_by in15 rows p
    due = by-test (is_kept (command_of p)) (λ e. none e (content_by in14 rows p) ∙ sym (none e (content_by in15 rows p))) (λ e. simp e)

-- to the exchange table release 1.4 takes a good confirm or deny that carries something for a refused packet, and every other packet as 1.5 does
module _ (x : Exchanges) (p : List ℕ) where
  -- a packet that is kept as bytes and refused is no reply
  no-role : is_kept (command_of p) ≡ true → role_in false (command_of p) ≡ Other
  unfolding role_in
  no-role e = by-kept (λ (k : ℕ). role_in false k ≡ Other) (command_of p) e refl refl

  take-refused : is_kept (command_of p) ≡ true → is_good (in_order (frame_tests 1024 p) good) ≡ true → content_by in14 rows p ≡ refusal UNIT 0
      → packet_by in14 rows p ≡ refusal UNIT 0 → taken_by in14 rows x p ≡ untold x (refusal UNIT 0)
  unfolding taken_as
  take-refused e g content told =
      (λ i. take_as x p (g i) (content i) (told i)) ∙ ap (λ (r : Role). taken_as r x (header_of p).source (header_of p).serial (refusal UNIT 0)) (no-role e)

  take_same : packet_by in14 rows p ≡ packet_by in15 rows p → taken_by in14 rows x p ≡ taken_by in15 rows x p
  take_same same =
      by-test (is_good (in_order (frame_tests 1024 p) good))
      (λ g.
      let content : content_by in14 rows p ≡ content_by in15 rows p = sym (goes_on (frame_tests 1024 p) _ refl g) ∙ same ∙ goes_on (frame_tests 1024 p) _ refl g in
      λ i. take_as x p (is_good (in_order (frame_tests 1024 p) good)) (content i) (same i))
      (λ g. (λ i. take_as x p (g i) (content_by in14 rows p) (same i)) ∙ sym (λ i. take_as x p (g i) (content_by in15 rows p) (packet_by in15 rows p)))

  pub take-as-in-1-4 : taken_by in14 rows x p ≡ cond (is_new rows p) (untold x (refusal UNIT 0)) (taken_by in15 rows x p)
  take-as-in-1-4 = by-test (is_new rows p) some (λ e. take_same (packet-as-in-1-4 p ∙ simp e) ∙ simp e)
    where
      some : is_new rows p ≡ true → taken_by in14 rows x p ≡ cond (is_new rows p) (untold x (refusal UNIT 0)) (taken_by in15 rows x p)
      some e =
          let both = (and-eq-true_iff (carries_some (command_of p) (unit_length p)) (is_good (packet_by in15 rows p))).0 e in
          let kept = ((and-eq-true_iff (is_kept (command_of p)) (leb 1 (unit_length p))).0 both.0).0 in
          let framed = held-good (frame_tests 1024 p) (good-held (frame_tests 1024 p) (content_by in15 rows p) refl both.1).0 in
          let told : packet_by in14 rows p ≡ refusal UNIT 0 = packet-as-in-1-4 p ∙ simp e in
          take-refused kept framed (sym (goes_on (frame_tests 1024 p) _ refl framed) ∙ told) told ∙ simp e

-- and what 1.4 changed stands: TIME is told of no label of six zeros
pub packet-spares-zeros-in-1-5 : (p : List ℕ) (i : ℕ) → WithoutTime (header_of p).label rows (unit_of p) i → packet_by in15 rows p ≡ refusal TIME i → ⊥
packet-spares-zeros-in-1-5 p i w e = packet-spares-zeros p i w (packet-as-in-1-4 p ∙ said-refused (command_of p) (unit_length p) (packet_by in15 rows p) (ap is_good e) ∙ e)
