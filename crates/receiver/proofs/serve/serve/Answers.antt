-- `receiver::serve::serve` meets its contract: refused by its state or its buffer, else by the steps of the answer. Assumes nothing.
use native.Mathlib.Omega.{arith}
use Prim.Native.Nat.{◌+◌, ◌-◌, ◌<◌}
use mathlib.Core.Path.{◌≡◌, sym, ◌∙◌}
use lib.ListN.{length}
use borrow.Author.Tests.{leb-true, leb-false}
use Rattle.std.specs.Prelude.{Ok}
use lib.Seq.{length-take-le}
use borrow.Author.Rules.{rules}
use Rattle.std.proofs.lemmas.Result.{err_from_is_err_and}
use Rattle.reading.specs.Calls.{called}
use Rattle.receiver.specs.Lines.{step_of}
use Rattle.receiver.specs.Receivers.{lent}
use Rattle.receiver.proofs.Serves.{Gives, Keeping, Serving, keeping, let_through, refused_so, state-refused, room-refused, taken-there, answer, packet-there, packet-fits, hold-is, left-fits}
use Rattle.receiver.proofs.serve.serve.Goals as goal
use Rattle.receiver.proofs.serve.serve.Goals.{After-from_residual, After-from_residual-in_err-ensure-2, In_ok-ensure, After-first-found, After-less-taken, After-settle-now}

-- a state that breaks its rules
broken : (g : _) (c : After-from_residual g)
    → let a = c.args in
    Gives (called g.row.MAX (lent a.hold.now a.held a.skipped) a.piece.now a.out.now) a.held a.skipped c.from_residual.result a.hold.now a.out.now
broken g c =
    let a = c.args in
    let p = err_from_is_err_and c.from_residual.result c.from_residual.ensures.1 in
    let f = refused_so _ c.ensure.ensures c.in_err-ensure.was in
    state-refused g.row.MAX a.hold.now a.held a.skipped a.piece.now a.out.now p.1 (c.keeps_rules.ensures _ c.requires.hold_len) (f.0, p.2 ∙ f.1)

-- one that keeps them
kept : (g : _) (c : In_ok-ensure g) → let a = c.args in Keeping g.row.MAX a.hold.now a.held a.skipped
kept g c = keeping _ _ _ _ _ (c.keeps_rules.ensures _ c.requires.hold_len) (let_through _ c.ensure.ensures c.in_ok-ensure.was) c.requires.hold_len

-- a buffer that is too short
short : (g : _) (c : After-from_residual-in_err-ensure-2 g)
    → let a = c.args in
    Gives (called g.row.MAX (lent a.hold.now a.held a.skipped) a.piece.now a.out.now) a.held a.skipped c.from_residual-in_err-ensure-2.result a.hold.now
    a.out.now
short g c =
    let a = c.args in
    let p = err_from_is_err_and c.from_residual-in_err-ensure-2.result c.from_residual-in_err-ensure-2.ensures.1 in
    let f = refused_so _ c.ensure-2.ensures c.in_err-ensure-2.was in
    let few : length a.out.now < 30 + g.row.MAX = omega (arith, leb-false _ _ f.0) in
    room-refused g.row.MAX a.hold.now a.held a.skipped a.piece.now a.out.now p.1
    (kept g (goal.at.After-from_residual-in_err-ensure-2 g c).In_ok-ensure) few (p.2 ∙ f.1)

-- and something was found
so : (g : _) (c : After-first-found g)
    → let a = c.args in
    Serving g.row.MAX a.hold.now a.held a.skipped a.piece.now a.out.now (step_of c.first-found.result)
so g c =
    record {
      state = kept g (goal.at.After-first-found g c).In_ok-ensure;
      roomy = omega (arith, leb-true _ _ (let_through _ c.ensure-2.ensures c.in_ok-ensure-2.was));
      finds = search rules;
    }

-- of which so many bytes are taken
took : (g : _) (c : After-less-taken g) → c.less-taken.result ≡ c.first-found.result.looked - c.args.held
took g c = omega (arith, c.less-taken.ensures)

pub returns-in_err-ensure-clause-value : goal.returns-in_err-ensure-clause-value
returns-in_err-ensure-clause-value g c = (broken g c).0

pub returns-in_err-ensure-clause-hold_after : goal.returns-in_err-ensure-clause-hold_after
returns-in_err-ensure-clause-hold_after g c = (broken g c).1.0

pub returns-in_err-ensure-clause-out_after : goal.returns-in_err-ensure-clause-out_after
returns-in_err-ensure-clause-out_after g c = (broken g c).1.1

pub returns-in_err-ensure-2-clause-value : goal.returns-in_err-ensure-2-clause-value
returns-in_err-ensure-2-clause-value g c = (short g c).0

pub returns-in_err-ensure-2-clause-hold_after : goal.returns-in_err-ensure-2-clause-hold_after
returns-in_err-ensure-2-clause-hold_after g c = (short g c).1.0

pub returns-in_err-ensure-2-clause-out_after : goal.returns-in_err-ensure-2-clause-out_after
returns-in_err-ensure-2-clause-out_after g c = (short g c).1.1

pub slice_bounds-line-end : goal.slice_bounds-line-end
slice_bounds-line-end g c = (kept g (goal.at.slice_bounds-line-end g c).In_ok-ensure).inside

pub slice_bounds-line-end-2 : goal.slice_bounds-line-end-2
slice_bounds-line-end-2 g c = let k = kept g (goal.at.slice_bounds-line-end-2 g c).In_ok-ensure in sym (length-take-le _ _ k.inside)

pub first-found-requires : goal.first-found-requires
first-found-requires g c = let k = kept g (goal.at.first-found-requires g c).In_ok-ensure in search (rules, k)

pub deliver-requires : goal.deliver-requires
deliver-requires g c =
    let v = so g (goal.at.deliver-requires g c).After-first-found in
    let there = packet-there _ v in
    let fits = packet-fits _ v in search (rules, there, fits)

pub slice_bounds-settle-end : goal.slice_bounds-settle-end
slice_bounds-settle-end g c =
    let h = taken-there _ (so g (goal.at.slice_bounds-settle-end g c).After-first-found) in
    sym (length-take-le _ _ (omega (arith, h, took g (goal.at.slice_bounds-settle-end g c).After-less-taken)))

pub settle-now-requires-clause-held_in_bounds : goal.settle-now-requires-clause-held_in_bounds
settle-now-requires-clause-held_in_bounds g c = (kept g (goal.at.settle-now-requires-clause-held_in_bounds g c).In_ok-ensure).inside

pub settle-now-requires-clause-hold_value : goal.settle-now-requires-clause-hold_value
settle-now-requires-clause-hold_value g c = hold-is _ (so g (goal.at.settle-now-requires-clause-hold_value g c).After-first-found)

pub settle-now-requires-clause-taken_in_bounds : goal.settle-now-requires-clause-taken_in_bounds
settle-now-requires-clause-taken_in_bounds g c =
    left-fits _ (so g (goal.at.settle-now-requires-clause-taken_in_bounds g c).After-first-found)
    (took g (goal.at.settle-now-requires-clause-taken_in_bounds g c).After-less-taken)

-- the whole answer
given : (g : _) (c : After-settle-now g)
    → let a = c.args in
    Gives (called g.row.MAX (lent a.hold.now a.held a.skipped) a.piece.now a.out.now) a.held a.skipped
    (Ok record {
      event = c.first-found.result.event;
      skipped = c.first-found.result.carried;
      taken = c.less-taken.result;
      held = c.settle-now.result;
      count = c.first-found.result.count;
    }) c.settle-now.new.hold c.deliver.new.out
given g c =
    answer _ (so g (goal.at.After-settle-now g c).After-first-found) (took g (goal.at.After-settle-now g c).After-less-taken)
    c.settle-now.ensures.value c.settle-now.ensures.hold_after c.deliver.ensures

pub returns-clause-value : goal.returns-clause-value
returns-clause-value g c = (given g (goal.at.returns-clause-value g c).After-settle-now).0

pub returns-clause-hold_after : goal.returns-clause-hold_after
returns-clause-hold_after g c = (given g (goal.at.returns-clause-hold_after g c).After-settle-now).1.0

pub returns-clause-out_after : goal.returns-clause-out_after
returns-clause-out_after g c = (given g (goal.at.returns-clause-out_after g c).After-settle-now).1.1
