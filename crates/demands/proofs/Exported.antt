-- The same of the calls that a C program links. Assumes nothing.
use Prim.Native.Nat.{ℕ}
use mathlib.Core.List.{List}
use mathlib.Core.Path.{◌≡◌, sym, ◌∙◌}
use denote.MutBor.{MutBor}
use denote.Ref.{Bor}
use Rattle.exchange.specs.declared.Begun.{Begun}
use Rattle.exchange.specs.declared.Draft.{Draft}
use Rattle.exchange.specs.declared.Exchanges.{Exchanges}
use Rattle.fields.specs.declared.Fields.{Fields}
use Rattle.label.specs.declared.Label.{Label}
use Rattle.packet.specs.declared.Header.{Header}
use Rattle.trawnosz.specs.declared.AnswerC.{AnswerC}
use Rattle.trawnosz.specs.declared.ServedC.{ServedC}
use Rattle.verdict.specs.declared.Part.{Part}
use Rattle.verdict.specs.declared.Verdict.{Verdict}
use Rattle.trawnosz.proofs.trawnosz_judge_packet.Reads as judge-packet
use Rattle.trawnosz.proofs.trawnosz_read_packet.Reads as read-packet
use Rattle.trawnosz.proofs.trawnosz_find_unit.Reads as find-unit
use Rattle.trawnosz.proofs.trawnosz_judge_unit.Reads as judge-unit
use Rattle.trawnosz.proofs.trawnosz_judge_unit_under.Reads as judge-unit-under
use Rattle.trawnosz.proofs.trawnosz_unit_length.Reads as unit-length
use Rattle.trawnosz.proofs.trawnosz_find_object.Reads as find-object
use Rattle.trawnosz.proofs.trawnosz_read_object.Reads as read-object
use Rattle.trawnosz.proofs.trawnosz_find_description.Reads as find-description
use Rattle.trawnosz.proofs.trawnosz_exchanges_fresh.Reads as exchanges-fresh
use Rattle.trawnosz.proofs.trawnosz_begin_and_write.Reads as begin-and-write
use Rattle.trawnosz.proofs.trawnosz_reply_confirm.Reads as reply-confirm
use Rattle.trawnosz.proofs.trawnosz_reply_answer.Reads as reply-answer
use Rattle.trawnosz.proofs.trawnosz_reply_deny.Reads as reply-deny
use Rattle.trawnosz.proofs.trawnosz_reply_bad_answer.Reads as reply-bad-answer
use Rattle.trawnosz.proofs.trawnosz_take_packet.Reads as take-packet
use Rattle.trawnosz.proofs.trawnosz_tick.Reads as tick
use Rattle.trawnosz.proofs.trawnosz_judge_table.Reads as judge-table
use Rattle.trawnosz.proofs.trawnosz_find_part.Reads as find-part
use Rattle.trawnosz.proofs.trawnosz_fresh.Reads as fresh
use Rattle.trawnosz.proofs.trawnosz_receive.Reads as receive
use Rattle.trawnosz.proofs.trawnosz_write_packet.Reads as write-packet
use Rattle.trawnosz.proofs.trawnosz_write_packet_object.Reads as write-packet-object
use Rattle.trawnosz.proofs.trawnosz_write_packet_text.Reads as write-packet-text
use Rattle.trawnosz.proofs.trawnosz_answer_to.Reads as answer-to
use Rattle.trawnosz.proofs.trawnosz_write_object.Reads as write-object
use Rattle.trawnosz.proofs.trawnosz_write_text.Reads as write-text
use Rattle.trawnosz.proofs.trawnosz_name.Reads as name
use Rattle.trawnosz.proofs.trawnosz_release.Reads as release

pub judge-packet-determined : (κs : _) (x : _) (r s : _) → judge-packet.Post κs x r x → judge-packet.Post κs x s x → r ≡ s
judge-packet-determined κs x r s a b = a ∙ sym b

pub read-packet-determined : (κs : _) (x : _) (r s : _) → read-packet.Post κs x r x → read-packet.Post κs x s x → r ≡ s
read-packet-determined κs x r s a b = a ∙ sym b

pub find-unit-determined : (κs : _) (x : _) (r s : _) → find-unit.Post κs x r x → find-unit.Post κs x s x → r ≡ s
find-unit-determined κs x r s a b = a ∙ sym b

pub judge-unit-determined : (κs : _) (x : _) (r s : _) → judge-unit.Post κs x r x → judge-unit.Post κs x s x → r ≡ s
judge-unit-determined κs x r s a b = a ∙ sym b

pub judge-unit-under-determined : (κs : _) (x : _) (r s : _) → judge-unit-under.Post κs x r x → judge-unit-under.Post κs x s x → r ≡ s
judge-unit-under-determined κs x r s a b = a ∙ sym b

pub unit-length-determined : (κs : _) (x : _) (r s : _) → unit-length.Post κs x r x → unit-length.Post κs x s x → r ≡ s
unit-length-determined κs x r s a b = a ∙ sym b

pub find-object-determined : (κs : _) (x : _) (r s : _) → find-object.Post κs x r x → find-object.Post κs x s x → r ≡ s
find-object-determined κs x r s a b = a ∙ sym b

pub read-object-determined : (κs : _) (x : _) (r s : _) → read-object.Post κs x r x → read-object.Post κs x s x → r ≡ s
read-object-determined κs x r s a b = a ∙ sym b

pub find-description-determined : (κs : _) (x : _) (r s : _) → find-description.Post κs x r x → find-description.Post κs x s x → r ≡ s
find-description-determined κs x r s a b = a ∙ sym b

pub exchanges-fresh-determined : (κs : _) (x : _) (r s : _) → exchanges-fresh.Post κs x r x → exchanges-fresh.Post κs x s x → r ≡ s
exchanges-fresh-determined κs x r s a b = a ∙ sym b

pub reply-confirm-determined : (κs : _) (x : _) (r s : _) → reply-confirm.Post κs x r x → reply-confirm.Post κs x s x → r ≡ s
reply-confirm-determined κs x r s a b = a ∙ sym b

pub reply-answer-determined : (κs : _) (x : _) (r s : _) → reply-answer.Post κs x r x → reply-answer.Post κs x s x → r ≡ s
reply-answer-determined κs x r s a b = a ∙ sym b

pub reply-deny-determined : (κs : _) (x : _) (r s : _) → reply-deny.Post κs x r x → reply-deny.Post κs x s x → r ≡ s
reply-deny-determined κs x r s a b = a ∙ sym b

pub reply-bad-answer-determined : (κs : _) (x : _) (r s : _) → reply-bad-answer.Post κs x r x → reply-bad-answer.Post κs x s x → r ≡ s
reply-bad-answer-determined κs x r s a b = a ∙ sym b

pub take-packet-determined : (κs : _) (x : _) (r s : _) → take-packet.Post κs x r x → take-packet.Post κs x s x → r ≡ s
take-packet-determined κs x r s a b = a ∙ sym b

pub tick-determined : (κs : _) (x : _) (r s : _) → tick.Post κs x r x → tick.Post κs x s x → r ≡ s
tick-determined κs x r s a b = a ∙ sym b

pub judge-table-determined : (κs : _) (x : _) (r s : _) → judge-table.Post κs x r x → judge-table.Post κs x s x → r ≡ s
judge-table-determined κs x r s a b = a ∙ sym b

pub find-part-determined : (κs : _) (x : _) (r s : _) → find-part.Post κs x r x → find-part.Post κs x s x → r ≡ s
find-part-determined κs x r s a b = a ∙ sym b

pub write-packet-determined : (κs : _) (out o o' : MutBor (List ℕ)) (h : Header) (l : ℕ) (r s : Verdict)
    → write-packet.Post κs (out, (h, (l, tt))) r (o, (h, (l, tt))) → write-packet.Post κs (out, (h, (l, tt))) s (o', (h, (l, tt))) → (r ≡ s) × (o.now ≡ o'.now)
write-packet-determined κs out o o' h l r s a b = (a.0 ∙ sym b.0, a.1 ∙ sym b.1)

pub begin-and-write-determined : (κs : _) (x : Exchanges) (n : ℕ) (out o o' : MutBor (List ℕ)) (d : Draft) (l : ℕ) (r s : Begun)
    → begin-and-write.Post κs (x, (n, (out, (d, (l, tt))))) r (x, (n, (o, (d, (l, tt)))))
    → begin-and-write.Post κs (x, (n, (out, (d, (l, tt))))) s (x, (n, (o', (d, (l, tt))))) → (r ≡ s) × (o.now ≡ o'.now)
begin-and-write-determined κs x n out o o' d l r s a b = (a.0 ∙ sym b.0, a.1 ∙ sym b.1)

pub write-packet-object-determined : (κs : _) (out o o' : MutBor (List ℕ)) (l : ℕ) (k : ℕ) (f : Fields) (d : Bor (List ℕ)) (r s : Verdict)
    → write-packet-object.Post κs (out, (l, (k, (f, (d, tt))))) r (o, (l, (k, (f, (d, tt)))))
    → write-packet-object.Post κs (out, (l, (k, (f, (d, tt))))) s (o', (l, (k, (f, (d, tt))))) → (r ≡ s) × (o.now ≡ o'.now)
write-packet-object-determined κs out o o' l k f d r s a b = (a.0 ∙ sym b.0, a.1 ∙ sym b.1)

pub write-packet-text-determined : (κs : _) (out o o' : MutBor (List ℕ)) (t : Bor (List ℕ)) (r s : Verdict)
    → write-packet-text.Post κs (out, (t, tt)) r (o, (t, tt)) → write-packet-text.Post κs (out, (t, tt)) s (o', (t, tt)) → (r ≡ s) × (o.now ≡ o'.now)
write-packet-text-determined κs out o o' t r s a b = (a.0 ∙ sym b.0, a.1 ∙ sym b.1)

pub answer-to-determined : (κs : _) (out o o' : MutBor (List ℕ)) (p : Bor (List ℕ)) (t : Label) (r s : AnswerC)
    → answer-to.Post κs (p, (t, (out, tt))) r (p, (t, (o, tt))) → answer-to.Post κs (p, (t, (out, tt))) s (p, (t, (o', tt))) → (r ≡ s) × (o.now ≡ o'.now)
answer-to-determined κs out o o' p t r s a b = (a.0 ∙ sym b.0, a.1 ∙ sym b.1)

pub write-object-determined : (κs : _) (out o o' : MutBor (List ℕ)) (k : ℕ) (f : Fields) (d : Bor (List ℕ)) (r s : Verdict)
    → write-object.Post κs (out, (k, (f, (d, tt)))) r (o, (k, (f, (d, tt)))) → write-object.Post κs (out, (k, (f, (d, tt)))) s (o', (k, (f, (d, tt)))) → (r ≡ s) × (o.now ≡ o'.now)
write-object-determined κs out o o' k f d r s a b = (a.0 ∙ sym b.0, a.1 ∙ sym b.1)

pub write-text-determined : (κs : _) (out o o' : MutBor (List ℕ)) (t : Bor (List ℕ)) (r s : Verdict)
    → write-text.Post κs (out, (t, tt)) r (o, (t, tt)) → write-text.Post κs (out, (t, tt)) s (o', (t, tt)) → (r ≡ s) × (o.now ≡ o'.now)
write-text-determined κs out o o' t r s a b = (a.0 ∙ sym b.0, a.1 ∙ sym b.1)

pub name-determined : (κs : _) (n : ℕ) (out o o' : MutBor (List ℕ)) (r s : Part)
    → name.Post κs (n, (out, tt)) r (n, (o, tt)) → name.Post κs (n, (out, tt)) s (n, (o', tt)) → (r ≡ s) × (o.now ≡ o'.now)
name-determined κs n out o o' r s a b = (a.0 ∙ sym b.0, a.1 ∙ sym b.1)

pub release-determined : (κs : _) (out o o' : MutBor (List ℕ)) (r s : Part)
    → release.Post κs (out, tt) r (o, tt) → release.Post κs (out, tt) s (o', tt) → (r ≡ s) × (o.now ≡ o'.now)
release-determined κs out o o' r s a b = (a.0 ∙ sym b.0, a.1 ∙ sym b.1)

pub fresh-determined : (κs : _) (hold h k : MutBor (List ℕ)) (r s : _) → fresh.Post κs (hold, tt) r (h, tt) → fresh.Post κs (hold, tt) s (k, tt) → h.now ≡ k.now
fresh-determined κs hold h k r s a b = a ∙ sym b

pub receive-determined : (κs : _) (hold h k : MutBor (List ℕ)) (held count : ℕ) (piece : Bor (List ℕ)) (out o p : MutBor (List ℕ)) (r s : ServedC)
    → receive.Post κs (hold, (held, (count, (piece, (out, tt))))) r (h, (held, (count, (piece, (o, tt)))))
    → receive.Post κs (hold, (held, (count, (piece, (out, tt))))) s (k, (held, (count, (piece, (p, tt)))))
    → (r ≡ s) × (h.now ≡ k.now) × (o.now ≡ p.now)
receive-determined κs hold h k held count piece out o p r s a b =
    (a.0 ∙ sym b.0, a.1.0 ∙ sym b.1.0, a.1.1 ∙ sym b.1.1)
