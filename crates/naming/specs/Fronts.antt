-- A text written to the front of a lent row: its bytes are `put_at` of octets, by which what does not fit changes nothing.
-- Assumes nothing.
use Rattle.std.specs.Prelude.{ℕ, List, [], ◌∷◌, leb, length}
use Rattle.verdict.specs.declared.Part.{Part}
use Rattle.verdict.specs.Orders.{◌or_else◌, in_order, good, part_by}
use Rattle.verdict.specs.Refusals.{ROOM}

-- ROOM: "other output shorter than what is written"
unfoldable pub front_part : List ℕ → List ℕ → Part
front_part t out = part_by (in_order ((leb (length t) (length out) or_else ROOM) ∷ []) good) 0 (length t)
