-- "Objects are written into the part of the output that begins at byte 28": what the object writers do to a unit is done there, and nothing else changes. Assumes nothing.
use Prim.Native.Nat.{ℕ, ◌+◌, ◌-◌, ◌≤◌}
use native.Mathlib.Omega.{arith}
use mathlib.Core.Bool.{true}
use mathlib.Core.List.{List}
use mathlib.Core.Logic.{◌↔◌}
use mathlib.Core.Path.{◌≡◌, refl, sym, ap, ◌∙◌}
use borrow.Author.Tests.{leb-true, le-leb}
use lib.ListN.{length, take, drop, length-drop}
use lib.Seq.{take_at, drop_at, length-take-le, drop-drop}
use Rattle.fields.specs.declared.Fields.{Fields}
use Rattle.kinds.specs.Table.{table, rows}
use Rattle.objects.specs.Writing.{write_verdict, written_unit}
use Rattle.objects.specs.Texts.{text_unit, text_verdict, written_text}
use Rattle.objects.proofs.Reread as objects
use Rattle.objects.proofs.Series.{written-long}
use Rattle.octets.specs.Parts.{part, put_at}
use Rattle.octets.proofs.Parts.{length_part, put-part, put-before, put-after}
use Rattle.verdict.specs.Orders.{good, is_good}
use Rattle.verdict.proofs.Order.{good-held, all-passed}
use Rattle.output.specs.Writing.{room_tests}
use Rattle.output.specs.Objects.{object_verdict, written_object, output_text_verdict, written_output_text}

module _ (out : List ℕ) (l k : ℕ) (f : Fields) (d : List ℕ) where
  abbrev u : List ℕ
  u = part out 27 (27 + l)

  pub object-good-when : (is_good (object_verdict rows out l k f d) ≡ true)
      ↔ ((l ≤ 1024) × (27 + l ≤ length out) × (is_good (write_verdict rows (part out 27 (27 + l)) k f d) ≡ true))
  unfolding object_verdict
  object-good-when = (
    λ g.
        let h = good-held (room_tests out l 27) (write_verdict rows u k f d) refl g in
        (leb-true l 1024 h.0.0, leb-true (27 + l) (length out) h.0.1.0, h.1),
    λ h. ap is_good (all-passed (room_tests out l 27) (write_verdict rows u k f d) (le-leb l 1024 h.0, (le-leb (27 + l) (length out) h.1, tt))) ∙ h.2,
  )

  module _ (g : is_good (object_verdict rows out l k f d) ≡ true) where
    few : l ≤ 1024
    few = (object-good-when.0 g).0

    room : 27 + l ≤ length out
    room = (object-good-when.0 g).1

    new : List ℕ
    new = written_unit table u k f d

    new-long : length new ≡ l
    unfolding new
    new-long =
        let n : 27 + l - 27 ≡ l = omega arith in
        written-long u k f d (object-good-when.0 g).2 ∙ length_part out 27 (27 + l) (omega arith) room ∙ n

    put : written_object table out l k f d ≡ put_at out 27 new
    unfolding written_object new
    put = simp (ap is_good (all-passed (room_tests out l 27) good (le-leb l 1024 few, (le-leb (27 + l) (length out) room, tt))))

    fits : 27 + length new ≤ length out
    fits = omega (arith, new-long, room)

    pub unit-written : part (written_object table out l k f d) 27 (27 + l) ≡ written_unit table (part out 27 (27 + l)) k f d
    unfolding new
    unit-written =
        ap (λ (x : List ℕ). part x 27 (27 + l)) put
        ∙ ap (λ (n : ℕ). part (put_at out 27 new) 27 (27 + n)) (sym new-long)
        ∙ put-part out 27 new fits

    pub head-kept : take 27 (written_object table out l k f d) ≡ take 27 out
    head-kept = ap (take 27) put ∙ put-before out 27 new fits

    pub rest-kept : drop (27 + l) (written_object table out l k f d) ≡ drop (27 + l) out
    rest-kept =
        let end : 27 + l ≡ 27 + length new = ap (λ (n : ℕ). 27 + n) (sym new-long) in
        ap (drop (27 + l)) put ∙ ap (λ (n : ℕ). drop n (put_at out 27 new)) end ∙ put-after out 27 new fits ∙ ap (λ (n : ℕ). drop n out) (sym end)

-- the type 26 writer
module _ (out t : List ℕ) where
  pub text-good-when : (is_good (output_text_verdict out t) ≡ true) ↔ ((length t ≤ 255) × (30 + length t ≤ length out))
  text-good-when = (
    λ g. let h = objects-when.0 g in (h.0, omega (arith, h.1, length-drop 27 out)),
    λ h. objects-when.1 (h.0, omega (arith, h.1, length-drop 27 out)),
  )
    where
      objects-when : (is_good (text_verdict (drop 27 out) t) ≡ true) ↔ ((length t ≤ 255) × (3 + length t ≤ length (drop 27 out)))
      objects-when = objects.text-good-when (drop 27 out) t

  module _ (g : is_good (output_text_verdict out t) ≡ true) where
    text-room : 30 + length t ≤ length out
    text-room = (text-good-when.0 g).1

    head-long : length (take 27 out) ≡ 27
    head-long = length-take-le 27 out (omega (arith, text-room))

    pub text-head-kept : take 27 (written_output_text out t) ≡ take 27 out
    unfolding written_output_text
    text-head-kept = take_at (take 27 out) (written_text (drop 27 out) t) 27 head-long

    behind : drop 27 (written_output_text out t) ≡ written_text (drop 27 out) t
    unfolding written_output_text
    behind = drop_at (take 27 out) (written_text (drop 27 out) t) 27 head-long

    pub text-written : take (3 + length t) (drop 27 (written_output_text out t)) ≡ text_unit t
    text-written = ap (take (3 + length t)) behind ∙ objects.text-there (drop 27 out) t g

    pub text-rest-kept : drop (30 + length t) (written_output_text out t) ≡ drop (30 + length t) out
    text-rest-kept =
        let n : 30 + length t ≡ 27 + (3 + length t) = omega arith in
        ap (λ (k : ℕ). drop k (written_output_text out t)) n
        ∙ sym (drop-drop (3 + length t) 27 (written_output_text out t))
        ∙ ap (drop (3 + length t)) behind
        ∙ objects.text-beyond (drop 27 out) t g
        ∙ drop-drop (3 + length t) 27 out
        ∙ ap (λ (k : ℕ). drop k out) (sym n)
