-- How release 1.4 differs from 1.3 (document 02, Q-1: "TIME narrows; the order stays"). Assumes nothing.
use Rattle.std.specs.Prelude.{ℕ, suc, ◌<◌, true, List, ◌⊎◌, ◌≡◌}
use Rattle.fields.specs.declared.Fields.{Fields}
use Rattle.kinds.specs.declared.Row.{Row}
use Rattle.kinds.specs.Table.{NONE}
use Rattle.label.specs.declared.Label.{Label}
use Rattle.label.specs.Times.{is_no_time}
use Rattle.unit.specs.Objects.{count_of}
use Rattle.unit.specs.Units.{row_of}
use Rattle.verdict.specs.declared.Verdict.{Verdict}
use Rattle.verdict.specs.Orders.{refusal}
use Rattle.verdict.specs.Refusals.{TIME}
use Rattle.demands.specs.Rules.{label_at}

-- object i-1 of a unit has a label, and this is six zeros
pub record ObjectWithoutTime (rs : List Row) (u : List ℕ) (i : ℕ) : Type 0 where
  pub number : ℕ
  pub place : i ≡ suc number
  pub below : number < count_of u
  pub labelled : (row_of rs u).label ≡ NONE → ⊥
  pub no_time : is_no_time (label_at (row_of rs u) u number) ≡ true

-- place 0 is a header with six zeros, or place i is such an object's
abbrev pub WithoutTime : Label → List Row → List ℕ → ℕ → Type 0
WithoutTime head rs u i = ((i ≡ 0) × (is_no_time head ≡ true)) ⊎ ObjectWithoutTime rs u i

-- the new label is six zeros, of an object k whose type has one
abbrev pub NewWithoutTime : List Row → List ℕ → ℕ → Fields → ℕ → Type 0
NewWithoutTime rs u k f i = (i ≡ suc k) × ((row_of rs u).label ≡ NONE → ⊥) × (is_no_time f.label ≡ true)

-- "TIME narrows": before, TIME was told at a place of which P holds, and now it is not
pub record Newly (P : ℕ → Type 0) (before now : Verdict) : Type 0 where
  pub place : ℕ
  pub told : before ≡ refusal TIME place
  pub there : P place
  pub gone : now ≡ refusal TIME place → ⊥

-- the same verdict, or such a one
abbrev pub Narrowed : (ℕ → Type 0) → Verdict → Verdict → Type 0
Narrowed P before now = (before ≡ now) ⊎ Newly P before now
