-- The reply that is due to a packet, and what is answered (document 01, "Replies").
-- Assumes nothing.
use Rattle.std.specs.Prelude.{Option, Some, None, Result, Ok, Err}
use Rattle.verdict.specs.declared.Verdict.{Verdict}
use Rattle.verdict.specs.declared.Refused.{Refused}
use Rattle.verdict.specs.Orders.{told}
use Rattle.reply.specs.declared.Due.{Due as Sent}
use Rattle.reply.specs.declared.Due.TheVariants as sent

-- none, a confirm or a deny
pub data Due : Type 0 where
  Nothing : Due
  Confirm : Due
  Deny : Due

-- the verdict, and what was written
pub record Answer : Type 0 where
  pub verdict : Verdict
  pub due : Due

-- the code's option as one of the three
abbrev pub due_told : Option Sent → Due
due_told None = Nothing
due_told (Some sent.Confirm) = Confirm
due_told (Some sent.Deny) = Deny

-- where it is refused nothing was written
abbrev pub due_in : Result (Option Sent) Refused → Due
due_in (Ok d) = due_told d
due_in (Err e) = Nothing

-- the code's answer as a verdict with what was written
abbrev pub answer_told : Result (Option Sent) Refused → Answer
answer_told r = record { verdict = told r; due = due_in r }
