-- What a C program can write down of the calls that it links is the log of a sequence of calls, whatever meets their contracts, so that what is stated
-- of such logs is stated of it. Assumes nothing.
use Prim.Native.Nat.{ℕ}
use mathlib.Core.List.{List, [], ◌∷◌}
use mathlib.Core.Path.{◌≡◌, refl, sym, ap, ◌∙◌}
use denote.MutBor.{MutBor}
use denote.Ref.{Bor}
use Rattle.exchange.specs.declared.Address.{Address}
use Rattle.exchange.specs.declared.Begun.{Begun}
use Rattle.exchange.specs.declared.Draft.{Draft}
use Rattle.exchange.specs.declared.Exchanges.{Exchanges}
use Rattle.exchange.specs.declared.Replied.{Replied}
use Rattle.exchange.specs.declared.Ticked.{Ticked}
use Rattle.exchange.specs.Calls.{begin, reply, tick, after}
use Rattle.exchange.specs.Logs.{Line, of_begin, of_reply, of_tick, line_of, logged_by}
use Rattle.place.specs.declared.Reply.TheVariants.{Confirm, Answer, Deny, BadAnswer}
use Rattle.taking.specs.Boxes.{BoxCall, own, packet, box_line, box_after, box_log}
use Rattle.trawnosz.proofs.trawnosz_begin_and_write.Reads as c-begin-and-write
use Rattle.trawnosz.proofs.trawnosz_reply_confirm.Reads as c-reply-confirm
use Rattle.trawnosz.proofs.trawnosz_reply_answer.Reads as c-reply-answer
use Rattle.trawnosz.proofs.trawnosz_reply_deny.Reads as c-reply-deny
use Rattle.trawnosz.proofs.trawnosz_reply_bad_answer.Reads as c-reply-bad-answer
use Rattle.trawnosz.proofs.trawnosz_take_packet.Reads as c-take-packet
use Rattle.trawnosz.proofs.trawnosz_tick.Reads as c-tick

-- one call: the table that it is given, its answer's line, and the table that it gives back
pub data Called : Exchanges → Line → Exchanges → Type 0 where
  begins : (κs : _) (x : Exchanges) (n : ℕ) (out o : MutBor (List ℕ)) (d : Draft) (l : ℕ) (b : Begun)
      → c-begin-and-write.Post κs (x, (n, (out, (d, (l, tt))))) b (x, (n, (o, (d, (l, tt))))) → Called x (of_begin b.verdict b.place b.serial) b.state
  confirms : (κs : _) (x : Exchanges) (f : Address) (s : ℕ) (a : Replied) → c-reply-confirm.Post κs (x, (f, (s, tt))) a (x, (f, (s, tt)))
      → Called x (of_reply a.verdict a.place a.outcome) a.state
  answers : (κs : _) (x : Exchanges) (f : Address) (s : ℕ) (a : Replied) → c-reply-answer.Post κs (x, (f, (s, tt))) a (x, (f, (s, tt)))
      → Called x (of_reply a.verdict a.place a.outcome) a.state
  denies : (κs : _) (x : Exchanges) (f : Address) (s : ℕ) (a : Replied) → c-reply-deny.Post κs (x, (f, (s, tt))) a (x, (f, (s, tt)))
      → Called x (of_reply a.verdict a.place a.outcome) a.state
  answers-badly : (κs : _) (x : Exchanges) (f : Address) (s : ℕ) (a : Replied) → c-reply-bad-answer.Post κs (x, (f, (s, tt))) a (x, (f, (s, tt)))
      → Called x (of_reply a.verdict a.place a.outcome) a.state
  takes : (κs : _) (x : Exchanges) (p : Bor (List ℕ)) (a : Replied) → c-take-packet.Post κs (x, (p, tt)) a (x, (p, tt))
      → Called x (of_reply a.verdict a.place a.outcome) a.state
  ticks : (κs : _) (x : Exchanges) (y : Ticked) → c-tick.Post κs (x, tt) y (x, tt) → Called x (of_tick y.verdict y.reports) y.state

-- a sequence of them
pub data Written : Exchanges → List Line → Type 0 where
  nothing : {x : Exchanges} → Written x []
  then : {x y : Exchanges} {l : Line} {ls : List Line} → Called x l y → Written y ls → Written x (l ∷ ls)

-- by the calls' contracts
abbrev As : Exchanges → Line → Exchanges → Type 0
As x l y = (c : BoxCall) × (l ≡ box_line x c) × (y ≡ box_after x c)

replied-as : (x : Exchanges) (c : BoxCall) (a b : Replied) → a ≡ b → box_line x c ≡ of_reply b.verdict b.place b.outcome → box_after x c ≡ b.state
    → As x (of_reply a.verdict a.place a.outcome) a.state
replied-as x c a b e l y =
    (c, ap (λ (z : Replied). of_reply z.verdict z.place z.outcome) e ∙ sym l, ap (λ (z : Replied). z.state) e ∙ sym y)

called-as : {x y : Exchanges} {l : Line} → Called x l y → As x l y
unfolding box_line box_after line_of after
called-as (begins κs x n out o d l b p) = (
  own (begin (record { centre = n; out = out.now; draft = d; size = l })),
  ap (λ (z : Begun). of_begin z.verdict z.place z.serial) p.0,
  ap (λ (z : Begun). z.state) p.0,
)
called-as (confirms κs x f s a p) = replied-as x (own (reply f.bytes s Confirm)) a _ p refl refl
called-as (answers κs x f s a p) = replied-as x (own (reply f.bytes s Answer)) a _ p refl refl
called-as (denies κs x f s a p) = replied-as x (own (reply f.bytes s Deny)) a _ p refl refl
called-as (answers-badly κs x f s a p) = replied-as x (own (reply f.bytes s BadAnswer)) a _ p refl refl
called-as (takes κs x q a p) = replied-as x (packet q.now) a _ p refl refl
called-as (ticks κs x y p) = (own tick, ap (λ (z : Ticked). of_tick z.verdict z.reports) p, ap (λ (z : Ticked). z.state) p)

pub log-of-calls : {x : Exchanges} {ls : List Line} → Written x ls → (cs : List BoxCall) × (ls ≡ box_log x cs)
unfolding logged_by
log-of-calls nothing = ([], refl)
log-of-calls (then {x} {y} {l} {ls} called rest) =
    let c = called-as called in
    let cs = log-of-calls rest in
    (c.0 ∷ cs.0, λ i. c.1 i ∷ (cs.1 ∙ ap (λ (z : Exchanges). box_log z cs.0) c.2) i)
