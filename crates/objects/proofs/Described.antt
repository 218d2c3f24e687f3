-- The length of what is to be written tells whether its type has a description; and description and label lie inside the object.
-- Assumes nothing.
use Prim.Native.Nat.{ℕ, ◌+◌, ◌≤◌}
use native.Mathlib.Omega.{arith}
use mathlib.Core.Bool.{Bool, true, false}
use mathlib.Core.List.{List}
use mathlib.Core.Path.{◌≡◌, refl, ap, ◌∙◌}
use borrow.Author.Tests.{eq-eqb, eqb-true}
use lib.Dec.{eqb}
use lib.ListN.{length, drop, length-drop}
use Rattle.std.proofs.Common.{length-take}
use Rattle.fields.specs.declared.Fields.{Fields}
use Rattle.fields.specs.Layouts.{object_bytes}
use Rattle.fields.proofs.Columns.{Object, object-fills, description-column, label-column}
use Rattle.kinds.specs.declared.Row.{Row}
use Rattle.kinds.specs.Table.{Entry, NONE, description_size}

module _ (r : Row) (d : List ℕ) (told : length d ≡ description_size r) where
  pub has-one : length d ≡ 31 → r.description ≡ NONE → ⊥
  has-one long none = let no : description_size r ≡ 0 = simp (eq-eqb r.description NONE none) in omega (arith, long, told, no)

  pub has-none : (length d ≡ 31 → ⊥) → r.description ≡ NONE
  has-none other = by-test (eqb r.description NONE) refl
    where
      by-test : (b : Bool) → eqb r.description NONE ≡ b → r.description ≡ NONE
      by-test true e = eqb-true r.description NONE e
      by-test false e = absurd (other (told ∙ simp e))

module _ {e : Entry} {r : Row} {f : Fields} {d o : List ℕ} (x : Object e r f d o) (at : ℕ) where
  -- a description lies inside
  pub description-fits : length d ≡ 31 → at ≡ r.description → at + 31 ≤ length o
  description-fits long column =
      omega (
        arith,
        column,
        long,
        ap length (description-column x (has-one r d x.described long)),
        length-take 31 (drop r.description (object_bytes e f d)),
        length-drop r.description (object_bytes e f d),
        object-fills x,
      )

  -- and so does a label
  pub label-fits : (r.label ≡ NONE → ⊥) → at ≡ r.label → at + 6 ≤ length o
  label-fits has column =
      omega (arith, column, ap length (label-column x has), length-drop r.label (object_bytes e f d), object-fills x)
