-- What differs from release 1.7, exactly (document 02, Q-7): it read 1,024 parts. A table that comes to the number of its parts, and has more, it refused as MANY at place 0, whatever this release
-- says of it; of every other it said, found and printed what this release does. Assumes nothing.
use Prim.Native.Nat.{ℕ}
use native.Mathlib.Omega.{arith}
use mathlib.Core.Bool.{cond}
use mathlib.Core.List.{List}
use mathlib.Core.Path.{◌≡◌}
use Rattle.devices.specs.Tables.{of_systems, of_parts, earlier_parts, is_larger, judged as judged_table, refused_by, judgement, found_place}
use Rattle.devices.proofs.Limits.{as-limited, judgement-limited, found-limited}
use Rattle.lines.specs.Tables.{table_said, parts_many, file_line, table_line}
use Rattle.lines.proofs.Limits.{line-limited}
use Rattle.verdict.specs.Orders.{refusal, no_part}
use Rattle.verdict.specs.Refusals.{MANY}

-- the tender's "going back is also a release": a table, with its counts
pub table-as-in-1-7 : (t : List ℕ) → judged_table of_systems earlier_parts t ≡ cond (is_larger of_systems 1024 t) (refusal MANY 0) (judged_table of_systems of_parts t)
table-as-in-1-7 t = as-limited of_systems of_parts t 1024 1600 (omega arith)

pub judgement-as-in-1-7 : (t : List ℕ)
    → judgement of_systems earlier_parts t ≡ cond (is_larger of_systems 1024 t) (refused_by (refusal MANY 0)) (judgement of_systems of_parts t)
judgement-as-in-1-7 t = judgement-limited of_systems of_parts t 1024 1600 (omega arith)

-- where a part's description stands
pub find-as-in-1-7 : (t x : List ℕ)
    → found_place of_systems earlier_parts t x ≡ cond (is_larger of_systems 1024 t) (no_part (refusal MANY 0)) (found_place of_systems of_parts t x)
find-as-in-1-7 t x = found-limited of_systems of_parts t 1024 1600 (omega arith) x

-- the line of `tables`, which said nothing of an earlier program
pub line-as-in-1-7 : (name t : List ℕ)
    → file_line name (table_said of_systems earlier_parts t)
    ≡ cond (is_larger of_systems 1024 t) (file_line name (parts_many of_systems t 1024)) (table_line of_systems of_parts earlier_parts name t)
line-as-in-1-7 name t = line-limited of_systems of_parts t 1024 1600 (omega arith) name
