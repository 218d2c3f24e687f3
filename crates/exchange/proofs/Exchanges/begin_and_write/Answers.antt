-- `exchange::begin_and_write` meets its contract: what was found decides, then what the packet writer said. Assumes nothing.
use native.Mathlib.Omega.{arith}
use mathlib.Core.Path.{refl, ap, ◌∙◌}
use Rattle.std.specs.Prelude.{ℕ, ◌+◌, Ok, Err}
use Rattle.place.specs.Modes.{number_of}
use Rattle.verdict.specs.Orders.{told}
use Rattle.verdict.specs.declared.Verdict.{Verdict}
use Rattle.verdict.proofs.Told.{not-good}
use Rattle.exchange.specs.declared.Centre.{Centre}
use Rattle.exchange.specs.Begins.{unbegun}
use Rattle.exchange.specs.Table.{found, found_as, entered}
use Rattle.exchange.proofs.Calls.{begin-unfound, begin-unfound-output, begin-unwritten, begin-unwritten-output, begin-few, begin-written, begin-written-output, address-of}
use Rattle.exchange.proofs.Exchanges.begin_and_write.Goals as goal

pub returns-in_default-clause-value : goal.returns-in_default-clause-value
returns-in_default-clause-value c =
    let e = c.in_default.field-0 in
    begin-unfound _ _ _ _ _ (found_as (Err e)) (c.in_default.ensures.value ∙ ap (found c.args.self) c.from-named.ensures) (not-good e.refusal e.place) _
    (c.unbegun.ensures ∙ ap (unbegun c.args.self) (c.into.ensures ∙ ap told c.in_default.is))

pub returns-in_default-clause-out_after : goal.returns-in_default-clause-out_after
returns-in_default-clause-out_after c =
    let e = c.in_default.field-0 in
    begin-unfound-output _ _ _ _ _ (found_as (Err e)) (c.in_default.ensures.value ∙ ap (found c.args.self) c.from-named.ensures) (not-good e.refusal e.place)

pub returns-in-Err-clause-value : goal.returns-in-Err-clause-value
returns-in-Err-clause-value c =
    let e = c.in-Err.refused in
    begin-unwritten _ _ _ _ _ (found_as (Ok (c.in-Ok.place, c.in-Ok.serial))) (c.in-Ok.ensures.value ∙ ap (found c.args.self) c.from-named.ensures) refl _ _ _ _ _
    c.opening_by.ensures c.header-header.ensures c.in-Err.ensures.value _ (not-good e.refusal e.place) (c.unbegun-in-Err.ensures ∙ ap (unbegun c.args.self) c.into-in-Err.ensures)

pub returns-in-Err-clause-out_after : goal.returns-in-Err-clause-out_after
returns-in-Err-clause-out_after c =
    let e = c.in-Err.refused in
    begin-unwritten-output _ _ _ _ _ (found_as (Ok (c.in-Ok.place, c.in-Ok.serial))) (c.in-Ok.ensures.value ∙ ap (found c.args.self) c.from-named.ensures) refl _ _ _ _ _
    c.opening_by.ensures c.header-header.ensures c.in-Err.ensures.value _ (not-good e.refusal e.place) c.in-Err.ensures.out_after

pub overflow_add-result : goal.overflow_add-result
overflow_add-result c =
    begin-few _ _ _ _ _ (found_as (Ok (c.in-Ok.place, c.in-Ok.serial))) (c.in-Ok.ensures.value ∙ ap (found c.args.self) c.from-named.ensures) refl _ _ _ _ _
    c.opening_by.ensures c.header-header.ensures c.in_default-write.ensures.value refl

pub returns-clause-value : goal.returns-clause-value
returns-clause-value c =
    ap (λ (v : Verdict). record { verdict = v; place = c.in-Ok.place; length = 30 + c.args.length; serial = c.in-Ok.serial; state = c.enter.result }) c.good.ensures
    ∙ begin-written _ _ _ _ _ (found_as (Ok (c.in-Ok.place, c.in-Ok.serial))) (c.in-Ok.ensures.value ∙ ap (found c.args.self) c.from-named.ensures) refl _ _ _ _ _
    c.opening_by.ensures c.header-header.ensures c.in_default-write.ensures.value refl _ _ c.mode_of.ensures
    (c.enter.ensures ∙ ap (λ (n : ℕ). entered c.args.self n c.in-Ok.place c.in-Ok.serial (number_of c.mode_of.result)) c.from-named.ensures)

pub returns-clause-out_after : goal.returns-clause-out_after
returns-clause-out_after c =
    begin-written-output _ _ _ _ _ (found_as (Ok (c.in-Ok.place, c.in-Ok.serial))) (c.in-Ok.ensures.value ∙ ap (found c.args.self) c.from-named.ensures) refl _ _ _ _ _
    c.opening_by.ensures c.header-header.ensures c.in_default-write.ensures.value refl _ (omega arith) (ap (λ (y : Centre). y.address.bytes) c.centre-own.ensures ∙ address-of c.args.self _ _ (omega (arith, c.from-named.ensures)))
    c.in_default-write.ensures.out_after
