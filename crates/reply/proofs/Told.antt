-- No two answers are told alike. Assumes nothing.
use mathlib.Core.Path.{◌≡◌, refl, sym, ap, ◌∙◌}
use Rattle.std.specs.Prelude.{Option, Some, None, Result, Ok, Err, IfOk}
use Rattle.verdict.specs.declared.Refused.{Refused}
use Rattle.verdict.proofs.Told.{told-determined}
use Rattle.reply.specs.declared.Due.{Due as Sent}
use Rattle.reply.specs.declared.Due.TheVariants as sent
use Rattle.reply.specs.Dues.{Due, Nothing, Confirm, Deny, Answer, due_told, answer_told}

abbrev sent_of : Due → Option Sent
sent_of Nothing = None
sent_of Confirm = Some sent.Confirm
sent_of Deny = Some sent.Deny

found-again : (d : Option Sent) → sent_of (due_told d) ≡ d
found-again None = refl
found-again (Some sent.Confirm) = refl
found-again (Some sent.Deny) = refl

value-told : (v : Answer) (a : Result (Option Sent) Refused) → answer_told a ≡ v → IfOk a (λ d. d ≡ sent_of v.due)
value-told v (Ok d) e = sym (found-again d) ∙ ap (λ (u : Answer). sent_of u.due) e
value-told v (Err e) p = tt

pub answer-determined : (v : Answer) (a b : Result (Option Sent) Refused) → answer_told a ≡ v → answer_told b ≡ v → a ≡ b
answer-determined v a b p q =
    told-determined v.verdict (sent_of v.due) a b (ap (λ (u : Answer). u.verdict) p) (value-told v a p) (ap (λ (u : Answer). u.verdict) q) (value-told v b q)
