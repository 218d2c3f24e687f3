-- "Objects are written into the part of the output that begins at byte 28" (document 01, "Units").
-- Assumes nothing.
use Rattle.std.specs.Prelude.{ℕ, ◌+◌, cond, List, ◌++◌, take, drop}
use Rattle.fields.specs.declared.Fields.{Fields}
use Rattle.kinds.specs.declared.Row.{Row}
use Rattle.kinds.specs.Table.{Entry}
use Rattle.objects.specs.Writing.{write_verdict, written_unit}
use Rattle.objects.specs.Texts.{text_verdict, written_text}
use Rattle.octets.specs.Parts.{part, put_at}
use Rattle.verdict.specs.declared.Verdict.{Verdict}
use Rattle.verdict.specs.Orders.{in_order, good, is_good}
use Rattle.output.specs.Writing.{room_tests}

-- LENGTH, ROOM by what is written there, then the object writer's own
unfoldable pub object_verdict : List Row → List ℕ → ℕ → ℕ → Fields → List ℕ → Verdict
object_verdict rs out l k f d = in_order (room_tests out l 27) (write_verdict rs (part out 27 (27 + l)) k f d)

-- the unit w put where it stands, if length and room allow
abbrev pub unit_put : List ℕ → ℕ → List ℕ → List ℕ
unit_put out l w = cond (is_good (in_order (room_tests out l 27) good)) (put_at out 27 w) out

unfoldable pub written_object : List Entry → List ℕ → ℕ → ℕ → Fields → List ℕ → List ℕ
written_object es out l k f d = unit_put out l (written_unit es (part out 27 (27 + l)) k f d)

-- the type 26 writer has all from byte 28 on
abbrev pub output_text_verdict : List ℕ → List ℕ → Verdict
output_text_verdict out t = text_verdict (drop 27 out) t

unfoldable pub written_output_text : List ℕ → List ℕ → List ℕ
written_output_text out t = take 27 out ++ written_text (drop 27 out) t
