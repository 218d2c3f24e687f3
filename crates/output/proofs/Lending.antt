-- A part of the output that is lent comes home as bytes put where it stands. Assumes nothing.
use Prim.Native.Nat.{ℕ, ◌+◌, ◌-◌, ◌≤◌, ◌<◌}
use native.Mathlib.Omega.{arith}
use mathlib.Core.Bool.{Bool, true, false, cond, false≢true}
use mathlib.Core.List.{List, ◌++◌, append_assoc, append-nil}
use mathlib.Core.Path.{◌≡◌, refl, sym, ap, ◌∙◌}
use borrow.Author.Tests.{eqb-true, eqb-false}
use lib.Dec.{eqb}
use lib.ListN.{length, take, drop, length-drop, drop_of_length-le}
use lib.Seq.{take_all, drop-drop}
use Rattle.std.specs.Prelude.{Result, Ok, Err, IsErr}
use Rattle.fields.specs.declared.Fields.{Fields}
use Rattle.fields.specs.Layouts.{object_bytes}
use Rattle.kinds.specs.Table.{Entry, rows_of, entry_of}
use Rattle.objects.specs.Writing.{write_verdict, written_unit}
use Rattle.objects.specs.Texts.{text_unit, text_verdict, written_text}
use Rattle.octets.specs.Parts.{part, put_at}
use Rattle.octets.proofs.Flags.{by-test}
use Rattle.octets.proofs.Parts.{part-is, length_part, put_is, length-put, rest-is}
use Rattle.unit.specs.Objects.{type_of, object_at}
use Rattle.unit.specs.Units.{row_of}
use Rattle.verdict.specs.declared.Refused.{Refused}
use Rattle.verdict.specs.declared.Verdict.{Verdict}
use Rattle.verdict.specs.Orders.{in_order, good, is_good, told}
use Rattle.verdict.proofs.Order.{stays, goes_on}
use Rattle.verdict.proofs.Told.{not-good}
use Rattle.output.specs.Writing.{room_tests}
use Rattle.output.specs.Objects.{object_verdict, written_object, written_output_text}
use Rattle.output.proofs.Judging.{roomy, room-there}

home : (o : List ℕ) (at n : ℕ) (v : List ℕ) → at + n ≤ length o → length v ≡ n → take at o ++ (v ++ drop n (drop at o)) ≡ put_at o at v
home o at n v fits e =
    ap (λ (x : List ℕ). take at o ++ (v ++ x)) (drop-drop n at o ∙ ap (λ (k : ℕ). drop (at + k) o) (sym e))
    ∙ sym (append_assoc (take at o) v (drop (at + length v) o))
    ∙ sym (put_is o at v (omega arith))

-- a written unit and a written text are as long as what was lent
length-unit : (es : List Entry) (u : List ℕ) (k : ℕ) (f : Fields) (d : List ℕ) → length (written_unit es u k f d) ≡ length u
unfolding written_unit
length-unit es u k f d = by-test (is_good (write_verdict (rows_of es) u k f d))
  where
    at : ℕ
    at = object_at (row_of (rows_of es) u) u k

    by-test : (b : Bool) → length (cond b (put_at u at (object_bytes (entry_of es (type_of u)) f d)) u) ≡ length u
    by-test true = length-put u at (object_bytes (entry_of es (type_of u)) f d)
    by-test false = refl

length-text : (out t : List ℕ) → length (written_text out t) ≡ length out
unfolding written_text
length-text out t = by-test (is_good (text_verdict out t))
  where
    by-test : (b : Bool) → length (cond b (put_at out 0 (text_unit t)) out) ≡ length out
    by-test true = length-put out 0 (text_unit t)
    by-test false = refl

-- what `write_object` answers and leaves where the room refuses
module _ (es : List Entry) (o : List ℕ) (l k : ℕ) (f : Fields) (d : List ℕ) where
  pub object-refused : {A : Type 0} (x : Result A Refused) → IsErr x → told x ≡ in_order (room_tests o l 27) good → told x ≡ object_verdict (rows_of es) o l k f d
  unfolding object_verdict
  object-refused (Ok a) b e = absurd (false≢true b)
  object-refused (Err g) b e = e ∙ sym (stays (room_tests o l 27) (write_verdict (rows_of es) (part o 27 (27 + l)) k f d) (ap is_good (sym e) ∙ not-good g.refusal g.place))

  pub object-kept : {A : Type 0} (x : Result A Refused) → IsErr x → told x ≡ in_order (room_tests o l 27) good → o ≡ written_object es o l k f d
  unfolding written_object
  object-kept (Ok a) b e = absurd (false≢true b)
  object-kept (Err g) b e = simp (ap is_good (sym e) ∙ not-good g.refusal g.place)

  -- and where it does not
  module _ (e : good ≡ in_order (room_tests o l 27) good) where
    passed : is_good (in_order (room_tests o l 27) good) ≡ true
    passed = ap is_good (sym e)

    fits : 27 + l ≤ length o
    fits = (roomy o l 27 passed).1

    lent : take (27 + l - 27) (drop 27 o) ≡ part o 27 (27 + l)
    lent = sym (part-is o 27 (27 + l) (omega arith) fits)

    long : length (part o 27 (27 + l)) ≡ 27 + l - 27
    long = length_part o 27 (27 + l) (omega arith) fits

    pub object_verdict_lem : (v : Verdict) → v ≡ write_verdict (rows_of es) (take (27 + l - 27) (drop 27 o)) k f d → v ≡ object_verdict (rows_of es) o l k f d
    unfolding object_verdict
    object_verdict_lem v q =
        q
        ∙ ap (λ (u : List ℕ). write_verdict (rows_of es) u k f d) lent
        ∙ sym (goes_on (room_tests o l 27) (write_verdict (rows_of es) (part o 27 (27 + l)) k f d) refl passed)

    pub object-home : (x : List ℕ) → x ≡ written_unit es (take (27 + l - 27) (drop 27 o)) k f d
        → take 27 o ++ (x ++ drop (27 + l - 27) (drop 27 o)) ≡ written_object es o l k f d
    unfolding written_object
    object-home x q =
        let u : List ℕ = part o 27 (27 + l) in
        let there : x ≡ written_unit es u k f d = q ∙ ap (λ (y : List ℕ). written_unit es y k f d) lent in
        home o 27 (27 + l - 27) x (omega (arith, fits)) (ap length there ∙ length-unit es u k f d ∙ long)
        ∙ ap (put_at o 27) there
        ∙ simp passed

-- the text of a packet's output goes to what lies from byte 28 on, or to nothing, where the output ends before it
module _ (o t : List ℕ) (b : ℕ) (few : b ≤ 27) (inside : b ≤ length o) (ends : b < 27 → length o ≤ b) where
  front : take b o ≡ take 27 o
  front =
      by-test (eqb b 27) (λ e. ap (λ (n : ℕ). take n o) (eqb-true b 27 e))
      (λ f. let short : b ≡ 27 → ⊥ = eqb-false b 27 f in take_all b o (omega arith) ∙ sym (take_all 27 o (omega arith)))

  behind : drop b o ≡ drop 27 o
  behind =
      by-test (eqb b 27) (λ e. ap (λ (n : ℕ). drop n o) (eqb-true b 27 e))
      (λ f.
      let short : b ≡ 27 → ⊥ = eqb-false b 27 f in
      let here : length o ≤ b = omega arith in
      let there : length o ≤ 27 = omega arith in
      drop_of_length-le o here ∙ sym (drop_of_length-le o there))

  reached : take (length o - b) (drop b o) ≡ drop 27 o
  reached = rest-is o b ∙ behind

  pub text_verdict_lem : (v : Verdict) → v ≡ text_verdict (take (length o - b) (drop b o)) t → v ≡ text_verdict (drop 27 o) t
  text_verdict_lem v e = e ∙ ap (λ (x : List ℕ). text_verdict x t) reached

  pub text-home : (w : List ℕ) → w ≡ written_text (take (length o - b) (drop b o)) t → take b o ++ (w ++ drop (length o - b) (drop b o)) ≡ written_output_text o t
  unfolding written_output_text
  text-home w e =
      let past : length (drop b o) ≤ length o - b = omega (arith, length-drop b o) in
      ap (λ (x : List ℕ). take b o ++ (w ++ x)) (drop_of_length-le (drop b o) past)
      ∙ ap (λ (x : List ℕ). take b o ++ x) (append-nil w)
      ∙ ap (λ (x : List ℕ). x ++ w) front
      ∙ ap (λ (x : List ℕ). take 27 o ++ x) (e ∙ ap (λ (x : List ℕ). written_text x t) reached)

pub ruleset object_lent = (room-there, object-refused, object-kept, object_verdict_lem, object-home)

pub ruleset text_lent = (text_verdict_lem, text-home)
