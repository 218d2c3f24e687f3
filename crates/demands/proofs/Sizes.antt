-- Document 02, Q-4, too little or too much: of which units SHORT and LONG are told, exactly, and that both are "VERSION or later". Assumes nothing.
use Prim.Native.Nat.{ℕ, ◌+◌, ◌≤◌, ◌<◌}
use mathlib.Core.Bool.{true, false, false≢true}
use mathlib.Core.List.{List, [], ◌∷◌, ◌++◌}
use mathlib.Core.Logic.{◌↔◌}
use mathlib.Core.Path.{◌≡◌, refl, sym, ap, subst, ◌∙◌}
use lib.ListN.{length, take}
use Rattle.std.specs.Prelude.{Some}
use Rattle.exchange.specs.declared.Exchanges.{Exchanges}
use Rattle.exchange.specs.Table.{answered}
use Rattle.frame.specs.Frame.{frame_tests}
use Rattle.kinds.specs.Table.{NONE, rows}
use Rattle.octets.proofs.Flags.{by-test}
use Rattle.packet.specs.Frames.{command_of, judged_content, judged_packet}
use Rattle.packet.specs.Headers.{header_of}
use Rattle.place.specs.declared.Reply.TheVariants.{BadAnswer}
use Rattle.reply.specs.Replies.{to_refused, due_to}
use Rattle.taking.specs.Takes.{taken}
use Rattle.taking.proofs.Promises.{late_refused, taken-bad-answer}
use Rattle.unit.specs.Objects.{count_of, object_at, timely}
use Rattle.unit.specs.Units.{Carrier, row_of, count_tests, shape_tests, one_size, is_kept, is_command, judged_unit, judged_under, of_size}
use Rattle.unit.proofs.Cuts as cuts
use Rattle.unit.proofs.Cuts.{CutAt}
use Rattle.unit.proofs.Ends.{ShortAt, cut_short, appended-long}
use Rattle.unit.proofs.Good.{shape-good, unit-good}
use Rattle.unit.proofs.Sizes.{of-size-refused, of-size-other}
use Rattle.unit.proofs.Split.{split-exactly}
use Rattle.unit.proofs.Under.{judged_under_lem}
use Rattle.verdict.specs.declared.Verdict.{Verdict}
use Rattle.verdict.specs.Orders.{◌or_else◌, Held, in_order, refusal, good, is_good}
use Rattle.verdict.specs.Refusals.{COMMAND, SHORT, LONG}
use Rattle.verdict.proofs.Order.{good-held, stays, goes_on}
use Rattle.demands.specs.Rules.{in15, timely_by, unit_by}

-- "14 SHORT where the unit ends before its last object does .. SHORT's place is the first object not whole, from 0": of a unit that passes UNIT, TYPE and COUNT,
-- at the object that ends behind the unit where those before it do not, and of no other
pub short-exactly : (by : Carrier) (u : List ℕ) (k : ℕ)
    → (judged_unit rows by u ≡ refusal SHORT k) ↔ (Held (count_tests rows by u) × (k < count_of u) × CutAt (row_of rows u) u (length u) k)
short-exactly = cuts.short-exactly rows

-- "28 LONG where bytes follow it .. LONG's is 0": of a unit that passes them and goes on behind its last object, and of no other
pub long-exactly : (by : Carrier) (u : List ℕ)
    → (judged_unit rows by u ≡ refusal LONG 0) ↔ (Held (count_tests rows by u) × (object_at (row_of rows u) u (count_of u) < length u))
long-exactly = cuts.long-exactly rows

-- "A type 26 unit without its K is SHORT at object 0": any type with a text
pub short-without-k : (by : Carrier) (u : List ℕ) → Held (count_tests rows by u) → ((row_of rows u).text ≡ NONE → ⊥) → length u ≤ 2 + (row_of rows u).text
    → judged_unit rows by u ≡ refusal SHORT 0
short-without-k = cuts.without-k

-- "Both stand where SIZE stood": a unit is refused SHORT or LONG exactly where release 1.5, by document 01's one test, said SIZE
pub split-where-it-stood : (by : Carrier) (u : List ℕ) → (of_size (judged_unit rows by u) ≡ true) ↔ (unit_by in15 rows by u ≡ one_size)
unfolding timely_by timely
split-where-it-stood = split-exactly rows

-- a unit in shape, as a good one is, cut anywhere after its second byte is SHORT, at the object of the first byte that is missing; with bytes appended it is LONG
module _ (by : Carrier) (u : List ℕ) (g : is_good (in_order (shape_tests rows by u) good) ≡ true) where
  pub cut-is-short : (m : ℕ) → 2 ≤ m → m < length u → ShortAt (judged_unit rows by (take m u)) u m
  cut-is-short m = cut_short by u m (shape-good rows by u g)

  pub padded-is-long : (x : List ℕ) → 1 ≤ length x → judged_unit rows by (u ++ x) ≡ refusal LONG 0
  padded-is-long x = appended-long by u x (shape-good rows by u g)

-- so is a good one under a command that carries units
module _ (c : ℕ) (unit : is_kept c ≡ false) (u : List ℕ) (g : is_good (judged_under rows c u) ≡ true) where
  command : is_command c ≡ true
  unfolding judged_under
  command = (good-held ((is_command c or_else COMMAND) ∷ []) _ refl g).0.0

  good-by : is_good (judged_unit rows (Some c) u) ≡ true
  good-by = ap is_good (sym (judged_under_lem rows c u command unit)) ∙ g

  pub cut-under : (m : ℕ) → 2 ≤ m → m < length u → ShortAt (judged_under rows c (take m u)) u m
  cut-under m low high =
      subst (λ (v : Verdict). ShortAt v u m) (sym (judged_under_lem rows c (take m u) command unit)) (cut_short (Some c) u m (unit-good rows (Some c) u good-by) low high)

  pub padded-under : (x : List ℕ) → 1 ≤ length x → judged_under rows c (u ++ x) ≡ refusal LONG 0
  padded-under x some = judged_under_lem rows c (u ++ x) command unit ∙ appended-long (Some c) u x (unit-good rows (Some c) u good-by) some

-- "VERSION or later" is by the order: the frame of a packet that is SHORT or LONG is good, the reply of a refused one is due to it, and an answer is a bad one
module _ (p : List ℕ) (e : of_size (judged_packet rows p) ≡ true) where
  framed : is_good (in_order (frame_tests 1024 p) good) ≡ true
  unfolding judged_packet
  framed =
      by-test (is_good (in_order (frame_tests 1024 p) good)) (λ g. g)
      (λ f. absurd (false≢true (sym (of-size-other (frame_tests 1024 p) refl refl) ∙ ap of_size (sym (stays (frame_tests 1024 p) (judged_content rows p) f)) ∙ e)))

  content-refused : is_good (judged_content rows p) ≡ false
  unfolding judged_packet
  content-refused = of-size-refused (judged_content rows p) (ap of_size (sym (goes_on (frame_tests 1024 p) (judged_content rows p) refl framed)) ∙ e)

  late : late_refused rows p ≡ true
  late = simp (framed, content-refused)

  pub later-by-order : (late_refused rows p ≡ true)
      × (due_to rows p ≡ to_refused (command_of p))
      × ((x : Exchanges) → command_of p ≡ 5 → taken rows x p ≡ answered x (header_of p).source (header_of p).serial BadAnswer)
  unfolding due_to
  later-by-order = (late, simp content-refused, λ x c. taken-bad-answer rows x p late c)
