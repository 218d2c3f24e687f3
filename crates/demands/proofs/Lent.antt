-- The same of calls that hand back a part, whose bytes and place are determined, and of those that lend memory, whose every byte is;
-- of the receiver's two calls `Rattle.receiver.proofs.Demands` says it. Assumes nothing.
use Prim.Native.Nat.{ℕ}
use mathlib.Core.List.{List}
use mathlib.Core.Path.{◌≡◌, sym, ◌∙◌}
use denote.MutBor.{MutBor}
use denote.Ref.{Bor}
use Rattle.exchange.specs.declared.Begun.{Begun}
use Rattle.exchange.specs.declared.Draft.{Draft}
use Rattle.exchange.specs.declared.Exchanges.{Exchanges}
use Rattle.fields.specs.declared.Fields.{Fields}
use Rattle.label.specs.declared.Label.{Label}
use Rattle.packet.specs.declared.Header.{Header}
use Rattle.reply.specs.declared.Due.{Due}
use Rattle.std.specs.Prelude.{Result, Option, ⊤}
use Rattle.std.specs.declared.ops.Range.{Range}
use Rattle.verdict.specs.declared.Refused.{Refused}
use Rattle.reply.proofs.Told.{answer-determined}
use Rattle.verdict.proofs.Told.{told-alone, placed-determined}
use Rattle.octets.proofs.part_of.Reads as octets-part-of
use Rattle.unit.proofs.object.Reads as unit-object
use Rattle.typed.proofs.description.Reads as typed-description
use Rattle.packet.proofs.unit_of.Reads as packet-unit-of
use Rattle.devices.proofs.find.Reads as devices-find
use Rattle.exchange.proofs.Exchanges.begin_and_write.Reads as exchange-exchanges-begin-and-write
use Rattle.output.proofs.write.Reads as output-write
use Rattle.output.proofs.write_object.Reads as output-write-object
use Rattle.output.proofs.write_text.Reads as output-write-text
use Rattle.objects.proofs.write.Reads as objects-write
use Rattle.objects.proofs.write_text.Reads as objects-write-text
use Rattle.reply.proofs.answer_to.Reads as reply-answer-to
use Rattle.octets.proofs.put.Reads as octets-put
use Rattle.naming.proofs.write_front.Reads as naming-write-front
use Rattle.naming.proofs.write_name.Reads as naming-write-name
use Rattle.lines.proofs.event_line.Reads as lines-event-line
use Rattle.lines.proofs.last_line.Reads as lines-last-line
use Rattle.lines.proofs.table_line.Reads as lines-table-line
use Rattle.lines.proofs.unjudged_line.Reads as lines-unjudged-line
use Rattle.rows.proofs.span.Reads as rows-span
use Rattle.rows.proofs.wipe.Reads as rows-wipe

pub octets-part-of-determined : (κs : _) (x : _) (r s : Bor (List ℕ)) → octets-part-of.Post κs x r x → octets-part-of.Post κs x s x → (r.now ≡ s.now) × (r.ref_ptr ≡ s.ref_ptr)
octets-part-of-determined κs x r s a b = (a.0 ∙ sym b.0, a.1 ∙ sym b.1)

pub unit-object-determined : (κs : _) (x : _) (r s : Bor (List ℕ)) → unit-object.Post κs x r x → unit-object.Post κs x s x → (r.now ≡ s.now) × (r.ref_ptr ≡ s.ref_ptr)
unit-object-determined κs x r s a b = (a.0 ∙ sym b.0, a.1 ∙ sym b.1)

pub typed-description-determined : (κs : _) (x : _) (r s : Bor (List ℕ)) → typed-description.Post κs x r x → typed-description.Post κs x s x → (r.now ≡ s.now) × (r.ref_ptr ≡ s.ref_ptr)
typed-description-determined κs x r s a b = (a.0 ∙ sym b.0, a.1 ∙ sym b.1)

pub packet-unit-of-determined : (κs : _) (x : _) (r s : Bor (List ℕ)) → packet-unit-of.Post κs x r x → packet-unit-of.Post κs x s x → (r.now ≡ s.now) × (r.ref_ptr ≡ s.ref_ptr)
packet-unit-of-determined κs x r s a b = (a.0 ∙ sym b.0, a.1 ∙ sym b.1)

pub devices-find-determined : (κs : _) (x : _) (r s : Bor (List ℕ)) → devices-find.Post κs x r x → devices-find.Post κs x s x → (r.now ≡ s.now) × (r.ref_ptr ≡ s.ref_ptr)
devices-find-determined κs x r s a b = (a.0 ∙ sym b.0, a.1 ∙ sym b.1)

pub output-write-determined : (κs : _) (out o o' : MutBor (List ℕ)) (h : Header) (l : ℕ) (r s : Result ⊤ Refused)
    → output-write.Post κs (out, (h, (l, tt))) r (o, (h, (l, tt))) → output-write.Post κs (out, (h, (l, tt))) s (o', (h, (l, tt))) → (r ≡ s) × (o.now ≡ o'.now)
output-write-determined κs out o o' h l r s a b = (told-alone _ r s a.0 b.0, a.1 ∙ sym b.1)

pub exchange-exchanges-begin-and-write-determined : (κs : _) (x : Exchanges) (n : ℕ) (out o o' : MutBor (List ℕ)) (d : Draft) (l : ℕ) (r s : Begun)
    → exchange-exchanges-begin-and-write.Post κs (x, (n, (out, (d, (l, tt))))) r (x, (n, (o, (d, (l, tt)))))
    → exchange-exchanges-begin-and-write.Post κs (x, (n, (out, (d, (l, tt))))) s (x, (n, (o', (d, (l, tt))))) → (r ≡ s) × (o.now ≡ o'.now)
exchange-exchanges-begin-and-write-determined κs x n out o o' d l r s a b = (a.0 ∙ sym b.0, a.1 ∙ sym b.1)

pub output-write-object-determined : (κs : _) (out o o' : MutBor (List ℕ)) (l : ℕ) (k : ℕ) (f : Fields) (d : Bor (List ℕ)) (r s : Result ⊤ Refused)
    → output-write-object.Post κs (out, (l, (k, (f, (d, tt))))) r (o, (l, (k, (f, (d, tt)))))
    → output-write-object.Post κs (out, (l, (k, (f, (d, tt))))) s (o', (l, (k, (f, (d, tt))))) → (r ≡ s) × (o.now ≡ o'.now)
output-write-object-determined κs out o o' l k f d r s a b = (told-alone _ r s a.0 b.0, a.1 ∙ sym b.1)

pub output-write-text-determined : (κs : _) (out o o' : MutBor (List ℕ)) (t : Bor (List ℕ)) (r s : Result ⊤ Refused)
    → output-write-text.Post κs (out, (t, tt)) r (o, (t, tt)) → output-write-text.Post κs (out, (t, tt)) s (o', (t, tt)) → (r ≡ s) × (o.now ≡ o'.now)
output-write-text-determined κs out o o' t r s a b = (told-alone _ r s a.0 b.0, a.1 ∙ sym b.1)

pub objects-write-determined : (κs : _) (out o o' : MutBor (List ℕ)) (k : ℕ) (f : Fields) (d : Bor (List ℕ)) (r s : Result ⊤ Refused)
    → objects-write.Post κs (out, (k, (f, (d, tt)))) r (o, (k, (f, (d, tt)))) → objects-write.Post κs (out, (k, (f, (d, tt)))) s (o', (k, (f, (d, tt)))) → (r ≡ s) × (o.now ≡ o'.now)
objects-write-determined κs out o o' k f d r s a b = (told-alone _ r s a.0 b.0, a.1 ∙ sym b.1)

pub objects-write-text-determined : (κs : _) (out o o' : MutBor (List ℕ)) (t : Bor (List ℕ)) (r s : Result ⊤ Refused)
    → objects-write-text.Post κs (out, (t, tt)) r (o, (t, tt)) → objects-write-text.Post κs (out, (t, tt)) s (o', (t, tt)) → (r ≡ s) × (o.now ≡ o'.now)
objects-write-text-determined κs out o o' t r s a b = (told-alone _ r s a.0 b.0, a.1 ∙ sym b.1)

pub reply-answer-to-determined : (κs : _) (out o o' : MutBor (List ℕ)) (p : Bor (List ℕ)) (t : Label) (r s : Result (Option Due) Refused)
    → reply-answer-to.Post κs (p, (t, (out, tt))) r (p, (t, (o, tt))) → reply-answer-to.Post κs (p, (t, (out, tt))) s (p, (t, (o', tt))) → (r ≡ s) × (o.now ≡ o'.now)
reply-answer-to-determined κs out o o' p t r s a b = (answer-determined _ r s a.0 b.0, a.1 ∙ sym b.1)

pub octets-put-determined : (κs : _) (out o o' : MutBor (List ℕ)) (k : ℕ) (t : Bor (List ℕ)) (r s : _)
    → octets-put.Post κs (out, (k, (t, tt))) r (o, (k, (t, tt))) → octets-put.Post κs (out, (k, (t, tt))) s (o', (k, (t, tt))) → o.now ≡ o'.now
octets-put-determined κs out o o' k t r s a b = a ∙ sym b

pub rows-span-determined : (κs : _) (x : _) (r s : Bor (List ℕ)) → rows-span.Post κs x r x → rows-span.Post κs x s x → (r.now ≡ s.now) × (r.ref_ptr ≡ s.ref_ptr)
rows-span-determined κs x r s a b = (a.0 ∙ sym b.0, a.1 ∙ sym b.1)

pub rows-wipe-determined : (κs : _) (row o o' : MutBor (List ℕ)) (r s : _) → rows-wipe.Post κs (row, tt) r (o, tt) → rows-wipe.Post κs (row, tt) s (o', tt) → o.now ≡ o'.now
rows-wipe-determined κs row o o' r s a b = a ∙ sym b

pub naming-write-front-determined : (κs : _) (t : Bor (List ℕ)) (out o o' : MutBor (List ℕ)) (r s : Result (Range ℕ) Refused)
    → naming-write-front.Post κs (t, (out, tt)) r (t, (o, tt)) → naming-write-front.Post κs (t, (out, tt)) s (t, (o', tt)) → (r ≡ s) × (o.now ≡ o'.now)
naming-write-front-determined κs t out o o' r s a b = (placed-determined _ r s a.0 b.0, a.1 ∙ sym b.1)

pub naming-write-name-determined : (κs : _) (n : ℕ) (out o o' : MutBor (List ℕ)) (r s : Result (Range ℕ) Refused)
    → naming-write-name.Post κs (n, (out, tt)) r (n, (o, tt)) → naming-write-name.Post κs (n, (out, tt)) s (n, (o', tt)) → (r ≡ s) × (o.now ≡ o'.now)
naming-write-name-determined κs n out o o' r s a b = (placed-determined _ r s a.0 b.0, a.1 ∙ sym b.1)

pub lines-event-line-determined : (κs : _) (x : _) (r s : _) → lines-event-line.Post κs x r x → lines-event-line.Post κs x s x → r ≡ s
lines-event-line-determined κs x r s a b = a ∙ sym b

pub lines-last-line-determined : (κs : _) (x : _) (r s : _) → lines-last-line.Post κs x r x → lines-last-line.Post κs x s x → r ≡ s
lines-last-line-determined κs x r s a b = a ∙ sym b

pub lines-table-line-determined : (κs : _) (x : _) (r s : _) → lines-table-line.Post κs x r x → lines-table-line.Post κs x s x → r ≡ s
lines-table-line-determined κs x r s a b = a ∙ sym b

pub lines-unjudged-line-determined : (κs : _) (x : _) (r s : _) → lines-unjudged-line.Post κs x r x → lines-unjudged-line.Post κs x s x → r ≡ s
lines-unjudged-line-determined κs x r s a b = a ∙ sym b
