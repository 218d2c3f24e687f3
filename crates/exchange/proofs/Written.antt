-- What a beginning writes is judged good, and reads back with the serial that is entered, the command and the fields, around the unit that stood there.
-- By the packet writer's promises, under the header of the draft. Assumes nothing.
use Prim.Native.Nat.{ℕ, ◌+◌, ◌<◌}
use native.Mathlib.Omega.{arith}
use mathlib.Core.Bool.{true}
use mathlib.Core.List.{List}
use mathlib.Core.Path.{◌≡◌, sym, ap, subst⁻¹, ◌∙◌}
use borrow.Author.Rules.{rules}
use borrow.Author.Tests.{eqb-true, eqb-false}
use denote.Laws.{Is}
use lib.Dec.{eqb}
use lib.ListN.{length, take, drop}
use mir.Val.{Val}
use Rattle.kinds.specs.Table.{rows}
use Rattle.octets.proofs.Flags.{by-test}
use Rattle.octets.specs.Parts.{part}
use Rattle.output.specs.Packets.{packet_bytes}
use Rattle.output.specs.Writing.{packet_verdict}
use Rattle.output.proofs.Promises.{sent-there, sent-good, sent-opened, sent-unit, sent-beyond}
use Rattle.output.proofs.Sent.{Fitting}
use Rattle.packet.specs.declared.Header.{Header}
use Rattle.packet.specs.declared.Opened.{Opened}
use Rattle.packet.specs.Frames.{unit_of, judged_packet}
use Rattle.packet.specs.Headers.{showing, opened_packet}
use Rattle.places.specs.Rows.{serial_for}
use Rattle.verdict.specs.Orders.{is_good}
use Rattle.exchange.specs.declared.Address.{Address}
use Rattle.exchange.specs.declared.Draft.{Draft}
use Rattle.exchange.specs.declared.Exchanges.{Exchanges}
use Rattle.exchange.specs.Begins.{headed, begun_output}
use Rattle.exchange.specs.Calls.{Asked, begun_by, Call, run}
use Rattle.exchange.specs.Table.{address_at, blank, made, found}
use Rattle.exchange.specs.contracts.Draft.{the_row}
use Rattle.exchange.specs.contracts.Address.{the_row as address-row}
use Rattle.exchange.proofs.Answers.{found-serial}
use Rattle.exchange.proofs.Begins.{output-written}
use Rattle.exchange.proofs.Changes.{good-verdict, taken-so, begun-found, begun-length, address-made}

-- the addresses of a draft and of a table's centre have six bytes each, as those of every draft and table that can be handed over
pub record Addressed (x : Exchanges) (c : ℕ) (d : Draft) : Type 0 where
  pub source : length d.source ≡ 6
  pub destination : length (address_at x c) ≡ 6

pub draft-addressed : (d : Draft) (vs : List Val) → Is the_row d vs → length d.source ≡ 6
draft-addressed d vs is = search rules

-- a table that arises from a fresh one has the addresses with which it was made, of which every one that can be handed over has six bytes
pub address-handed : (a : Address) (vs : List Val) → Is address-row a vs → length a.bytes ≡ 6
address-handed a vs is = search rules

pub table-addressed : (t r : ℕ) (a b : List ℕ) → is_good (made t r a b).verdict ≡ true → length a ≡ 6 → length b ≡ 6 → (cs : List Call) (c : ℕ) → c < 2
    → length (address_at (run (made t r a b).state cs) c) ≡ 6
table-addressed t r a b g la lb cs c h =
    ap length (address-made t r a b g cs c) ∙ by-test (eqb c 0)
    (λ e. ap (λ (d : ℕ). length (address_at (blank t r a b) d)) (eqb-true c 0 e) ∙ la)
    (λ e. let one : c ≡ 1 = omega (arith, eqb-false c 0 e, h) in ap (λ (d : ℕ). length (address_at (blank t r a b) d)) one ∙ lb)

module _ (x : Exchanges) (a : Asked) (six : Addressed x a.centre a.draft) (g : is_good (begun_by x a).verdict ≡ true) where
  s : ℕ
  s = (found x a.centre).serial

  -- the header that is written, and the packet
  abbrev heads : Header
  heads = headed x a.centre a.draft s

  abbrev sent : List ℕ
  sent = packet_bytes heads (part a.out 27 (27 + a.size))

  fits : Fitting heads
  unfolding s serial_for
  fits =
      record {
        serial = subst⁻¹ (λ (n : ℕ). n < 65536) (found-serial x a.centre (taken-so x a g).find) (omega arith);
        source = six.source;
        destination = six.destination;
      }

  writes : is_good (packet_verdict rows a.out heads a.size) ≡ true
  unfolding s
  writes = (taken-so x a g).writes

  -- the output, and the packet at its front
  abbrev pub left : List ℕ
  left = begun_output rows x a.centre a.out a.draft a.size

  abbrev pub packet : List ℕ
  packet = take (begun_by x a).length left

  there : packet ≡ sent
  unfolding s
  there =
      (λ i. take (begun-length x a g i) (output-written rows x a.centre a.out a.draft a.size (good-verdict x a g) i))
      ∙ sent-there rows a.out (headed x a.centre a.draft (found x a.centre).serial) a.size fits writes

  pub begun-judged : is_good (judged_packet rows packet) ≡ true
  begun-judged = ap (λ (p : List ℕ). is_good (judged_packet rows p)) there ∙ sent-good rows a.out heads a.size fits writes

  opened : opened_packet rows packet ≡ showing (judged_packet rows sent) heads a.size
  opened = ap (opened_packet rows) there ∙ sent-opened rows a.out heads a.size fits writes

  pub begun-header : (opened_packet rows packet).header ≡ headed x a.centre a.draft (begun_by x a).serial
  unfolding s
  begun-header = ap (λ (o : Opened). o.header) opened ∙ ap (headed x a.centre a.draft) (sym (begun-found x a g))

  pub begun-size : (opened_packet rows packet).length ≡ a.size
  begun-size = ap (λ (o : Opened). o.length) opened

  pub begun-unit : unit_of packet ≡ part a.out 27 (27 + a.size)
  begun-unit = ap unit_of there ∙ sent-unit rows a.out heads a.size fits writes

  pub begun-beyond : drop (begun_by x a).length left ≡ drop (begun_by x a).length a.out
  unfolding s
  begun-beyond =
      (λ i. drop (begun-length x a g i) (output-written rows x a.centre a.out a.draft a.size (good-verdict x a g) i))
      ∙ sent-beyond rows a.out (headed x a.centre a.draft (found x a.centre).serial) a.size fits writes
      ∙ ap (λ (n : ℕ). drop n a.out) (sym (begun-length x a g))
