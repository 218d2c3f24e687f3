-- One law for each answer of the header's reading and the unit's place. Assumes nothing.
use Prim.Native.Nat.{ℕ, ◌+◌, ◌≤◌}
use mathlib.Core.Bool.{true, false≢true}
use mathlib.Core.List.{List}
use mathlib.Core.Path.{◌≡◌, refl, sym, ap, ◌∙◌}
use Rattle.std.specs.Prelude.{Result, Ok, Err, IsErr}
use Rattle.std.specs.declared.ops.Range.{Range}
use Rattle.frame.specs.Frame.{unit_length, frame_tests}
use Rattle.frame.proofs.Framed.{held-framed}
use Rattle.kinds.specs.declared.Row.{Row}
use Rattle.label.specs.Times.{judged, allowed, time_of, shown_as}
use Rattle.label.proofs.Judging.{may-stand}
use Rattle.unit.specs.Units.{judged_under}
use Rattle.verdict.specs.declared.Part.{Part}
use Rattle.verdict.specs.declared.Refused.{Refused}
use Rattle.verdict.specs.Orders.{in_order, good, is_good, no_part, part_by, told, placed}
use Rattle.verdict.proofs.Order.{good-held}
use Rattle.verdict.proofs.Told.{not-good}
use Rattle.packet.specs.declared.Header.{Header}
use Rattle.packet.specs.declared.Opened.{Opened}
use Rattle.packet.specs.Frames.{command_of, unit_of, header_tests, judged_content, judged_packet, unit_place}
use Rattle.packet.specs.Headers.{header_of, opened_packet}

-- a good packet's label may stand
pub good-label : (rs : List Row) (p : List ℕ) → is_good (judged_packet rs p) ≡ true → allowed (judged (header_of p).label) ≡ true
unfolding judged_packet judged_content
good-label rs p g =
    let f = good-held (frame_tests 1024 p) (in_order (header_tests p) (judged_under rs (command_of p) (unit_of p))) refl g in
    (good-held (header_tests p) (judged_under rs (command_of p) (unit_of p)) refl f.1).0.1.1.0

module _ (rs : List Row) (p : List ℕ) where
  -- the label of a packet that is good is one that may stand, so that what the code tells of it is its judgement
  pub opened : (h : Header) (s l : ℕ) → good ≡ judged_packet rs p → h ≡ header_of p → s ≡ shown_as (time_of h.label) → l ≡ unit_length p
      → ◌≡◌ {A = Opened} (record { verdict = good; header = h; shown = s; length = l }) (opened_packet rs p)
  unfolding opened_packet
  opened h s l e a t b =
      let passes = ap is_good (sym e) in
      let shows = t ∙ ap (λ (x : Header). shown_as (time_of x.label)) a ∙ ap shown_as (sym (may-stand (header_of p).label (good-label rs p passes))) in
      (λ i. record { verdict = e i; header = a i; shown = shows i; length = b i }) ∙ simp passes

  pub no-unit : (x : Result (Range ℕ) Refused) → IsErr x → told x ≡ judged_packet rs p → placed x ≡ unit_place rs p
  unfolding unit_place part_by
  no-unit (Ok l) h e = absurd (false≢true h)
  no-unit (Err f) h e = ap no_part e ∙ simp (ap is_good (sym e) ∙ not-good f.refusal f.place)

  pub unit-there : (l : ℕ) → good ≡ judged_packet rs p → l ≡ unit_length p → ◌≡◌ {A = Part} (record { verdict = good; from = 27; to = 27 + l }) (unit_place rs p)
  unfolding unit_place part_by
  unit-there l e b =
      let q : ◌≡◌ {A = Part} (record { verdict = good; from = 27; to = 27 + l }) (record { verdict = judged_packet rs p; from = 27; to = 27 + unit_length p }) =
      λ i. record { verdict = e i; from = 27; to = 27 + b i } in
      q ∙ simp (ap is_good (sym e))

  -- a good packet's unit is short
  pub unit-few : good ≡ judged_packet rs p → unit_length p ≤ 1024
  unfolding judged_packet
  unit-few e = (held-framed 1024 p (good-held (frame_tests 1024 p) (judged_content rs p) refl (ap is_good (sym e))).0).few

pub ruleset standing = (no-unit, unit-there, unit-few)
