-- What differs from release 1.0, where beginning and writing were two calls: nothing where a place is found and the packet is written, and nothing
-- where no place is found; where one is found and the packet is refused, the table, which now comes back as it came. Assumes nothing.
use Prim.Native.Nat.{ℕ}
use mathlib.Core.Bool.{true, false, true≢false}
use mathlib.Core.List.{List}
use mathlib.Core.Path.{◌≡◌, sym, ap, ◌∙◌}
use Rattle.octets.proofs.Flags.{by-test}
use Rattle.kinds.specs.declared.Row.{Row}
use Rattle.output.specs.Writing.{packet_verdict, written_packet}
use Rattle.output.proofs.Judging.{kept}
use Rattle.place.specs.Rules.{is_open}
use Rattle.verdict.specs.Orders.{is_good}
use Rattle.exchange.specs.declared.Begun.{Begun}
use Rattle.exchange.specs.declared.Draft.{Draft}
use Rattle.exchange.specs.declared.Exchanges.{Exchanges}
use Rattle.exchange.specs.Before.{Left, in_two}
use Rattle.exchange.specs.Begins.{headed, mode_of, begun_verdict, begun, begun_output}
use Rattle.exchange.specs.Table.{address_at, found, entered}
use Rattle.exchange.proofs.Begins.{find-decides, opens-so, draft-decides, taken_by_lem, begun-refused, begun-good, output-kept, output-written}

module _ (rs : List Row) (x : Exchanges) (c : ℕ) (out : List ℕ) (d : Draft) (l : ℕ) where
  -- the two calls, told what the command opens
  abbrev two : Left
  two = in_two rs x c (mode_of d.command) out d l

  none : is_good (found x c).verdict ≡ false → two ≡ record { verdict = (found x c).verdict; state = x; out = out }
  unfolding in_two
  none e = simp e

  abbrev second : Left
  second =
      record {
        verdict = packet_verdict rs out (headed x c d (found x c).serial) l;
        state = entered x c (found x c).place (found x c).serial (mode_of d.command);
        out = written_packet rs out (headed x c d (found x c).serial) l;
      }

  one : is_good (found x c).verdict ≡ true → two ≡ second
  unfolding in_two
  one g = simp g

  -- a command that opens nothing is always refused
  pub others-refused : is_open (mode_of d.command) ≡ false → is_good (begun_verdict rs x c out d l) ≡ false
  others-refused o =
      by-test (is_good (begun_verdict rs x c out d l)) (λ g. absurd (true≢false (sym (taken_by_lem rs x c out d l g).opens ∙ o))) (λ e. e)

  module _ (o : is_open (mode_of d.command) ≡ true) where
    writer-decides : is_good (found x c).verdict ≡ true → packet_verdict rs out (headed x c d (found x c).serial) l ≡ begun_verdict rs x c out d l
    writer-decides g = sym (opens-so rs out d l (address_at x c) (found x c).serial o) ∙ draft-decides rs x c out d l g

    -- the verdict is the same
    pub same-verdict : begun_verdict rs x c out d l ≡ two.verdict
    same-verdict =
        by-test (is_good (found x c).verdict)
        (λ g. sym (ap (λ (y : Left). y.verdict) (one g) ∙ writer-decides g))
        (λ e. sym (ap (λ (y : Left). y.verdict) (none e) ∙ find-decides rs x c out d l e))

    -- and so is the output
    pub same-output : begun_output rs x c out d l ≡ two.out
    same-output =
        by-test (is_good (found x c).verdict)
        (λ g.
        by-test (is_good (begun_verdict rs x c out d l))
        (λ t. output-written rs x c out d l t ∙ sym (ap (λ (y : Left). y.out) (one g)))
        (λ e.
        output-kept rs x c out d l e
        ∙ kept rs out (headed x c d (found x c).serial) l (ap is_good (writer-decides g) ∙ e)
        ∙ sym (ap (λ (y : Left). y.out) (one g))))
        (λ e. output-kept rs x c out d l (ap is_good (sym (find-decides rs x c out d l e)) ∙ e) ∙ sym (ap (λ (y : Left). y.out) (none e)))

    -- the table is the same where the packet was written, and where no place was found
    pub same-written : is_good (begun_verdict rs x c out d l) ≡ true → (begun rs x c out d l).state ≡ two.state
    same-written t =
        ap (λ (y : Begun). y.state) (begun-good rs x c out d l t) ∙ sym (ap (λ (y : Left). y.state) (one (taken_by_lem rs x c out d l t).find))

    pub same-unfound : is_good (found x c).verdict ≡ false → (begun rs x c out d l).state ≡ two.state
    same-unfound e =
        ap (λ (y : Begun). y.state) (begun-refused rs x c out d l (ap is_good (sym (find-decides rs x c out d l e)) ∙ e))
        ∙ sym (ap (λ (y : Left). y.state) (none e))

    -- and where one was found and the packet refused, it left the place open, and now the table is as it came
    pub refused-differs : is_good (found x c).verdict ≡ true → is_good (begun_verdict rs x c out d l) ≡ false
        → (two.state ≡ entered x c (found x c).place (found x c).serial (mode_of d.command)) × ((begun rs x c out d l).state ≡ x)
    refused-differs g e = (ap (λ (y : Left). y.state) (one g), ap (λ (y : Begun). y.state) (begun-refused rs x c out d l e))
