-- Document 01, "Orders": a list of tests, each with its refusal; the first that fails decides.
-- Assumes nothing.
use Rattle.std.specs.Prelude.{ℕ, Bool, true, not, ◌&&◌, cond, ◌≡◌, List, [], ◌∷◌, eqb, Result, Ok, Err}
use Rattle.std.specs.declared.ops.Range.{Range}
use Rattle.octets.specs.Parts.{part, part_place}
use Rattle.verdict.specs.declared.Verdict.{Verdict}
use Rattle.verdict.specs.declared.Part.{Part}
use Rattle.verdict.specs.declared.Refusal.{Refusal}
use Rattle.verdict.specs.declared.Refused.{Refused}
use Rattle.verdict.specs.Refusals.{number_of}

-- "A refusal returns its number and place (0 where none is named)"
abbrev pub refusal : ℕ → ℕ → Verdict
refusal n p = record { number = n; place = p }

abbrev pub good : Verdict
good = refusal 0 0

abbrev pub is_good : Verdict → Bool
is_good v = eqb v.number 0

-- "an empty part where a part is due"
abbrev pub no_part : Verdict → Part
no_part v = record { verdict = v; from = 0; to = 0 }

abbrev pub refused_at : Refusal → ℕ → Refused
refused_at r p = record { refusal = r; place = p }

-- an answer as this paper's number and place: good, or its refusal's
abbrev pub told : {A : Type 0} → Result A Refused → Verdict
told (Ok x) = good
told (Err e) = refusal (number_of e.refusal) e.place

-- and the same of an answer that is a part
abbrev pub placed : Result (Range ℕ) Refused → Part
placed (Ok r) = record { verdict = good; from = r.start; to = r.end }
placed (Err e) = no_part (refusal (number_of e.refusal) e.place)

-- a part that stands from one place to another, unless it is refused
unfoldable pub part_by : Verdict → ℕ → ℕ → Part
part_by v from to = cond (is_good v) (record { verdict = v; from = from; to = to }) (no_part v)

-- "handed back as that part of the caller's own bytes": its bytes, and its place in memory
abbrev pub part_in : List ℕ → Part → List ℕ
part_in s p = part s p.from p.to

abbrev pub place_in : ℕ × ℕ → List ℕ → Part → ℕ × ℕ
place_in q s p = part_place q s p.from p.to

-- a test, and the refusal where it fails
pub record Test : Type 0 where
  pub holds : Bool
  pub refused : Verdict

infix 20 ◌or_else◌
abbrev pub ◌or_else◌ : Bool → ℕ → Test
b or_else n = record { holds = b; refused = refusal n 0 }

-- the verdict of the first test that fails, and where none does, what comes after them
unfoldable pub in_order : List Test → Verdict → Verdict
in_order [] rest = rest
in_order (t ∷ ts) rest = cond t.holds (in_order ts rest) t.refused

-- every test held
abbrev pub Held : List Test → Type 0
Held [] = Unit
Held (t ∷ ts) = (t.holds ≡ true) × Held ts

-- every refusal has a number that is not the good one
abbrev pub refusing : List Test → Bool
refusing [] = true
refusing (t ∷ ts) = not (is_good t.refused) && refusing ts
