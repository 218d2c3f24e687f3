-- What a received packet is to the exchange table, and what is heard of it.
-- Assumes nothing.
use Rattle.std.specs.Prelude.{Option, Some, None, Result, Ok, Err}
use Rattle.place.specs.declared.Reply.{Reply}
use Rattle.verdict.specs.declared.Verdict.{Verdict}
use Rattle.verdict.specs.declared.Refused.{Refused}
use Rattle.verdict.specs.Orders.{good, told}

-- a reply of one of four kinds, or a packet that is none
pub data Role : Type 0 where
  Other : Role
  Is : Reply → Role

-- what the judge says of a packet, and what it is to the table
pub record Heard : Type 0 where
  pub verdict : Verdict
  pub role : Role

-- what the table asks of it: of a reply what it is alone
abbrev pub verdict_asked : Role → Verdict → Verdict
verdict_asked Other v = v
verdict_asked (Is w) v = good

abbrev pub asked : Heard → Heard
asked h = record { verdict = verdict_asked h.role h.verdict; role = h.role }

-- the code's answer in these words: a reply, or none, or what is refused, which is none either
abbrev pub role_told : Option Reply → Role
role_told None = Other
role_told (Some w) = Is w

abbrev pub role_in_answer : Result (Option Reply) Refused → Role
role_in_answer (Ok o) = role_told o
role_in_answer (Err e) = Other

abbrev pub heard_told : Result (Option Reply) Refused → Heard
heard_told r = record { verdict = told r; role = role_in_answer r }
