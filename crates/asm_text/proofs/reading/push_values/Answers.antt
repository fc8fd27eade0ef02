-- SPDX-License-Identifier: Apache-2.0
use Rattle.std.proofs.Common.{ℕ}
use Rattle.std.specs.Prelude.{◌==◌}
use Rattle.std.proofs.lemmas.Result.{err_from_is_err_and}
use Rattle.asm_text.specs.Statements.{value_of, values_of}
use Rattle.asm_text.specs.Reading.{extended}
use Rattle.asm_text.proofs.Growing.{value_then, value_fails, value_last}
use Rattle.asm_text.proofs.reading.push_values.Goals as goal

pub returns-in_err-push_value-in-Some : goal.returns-in_err-push_value-in-Some
returns-in_err-push_value-in-Some c =
    let p = err_from_is_err_and c.from_residual.result c.from_residual.ensures.1 in
    rw (p.1, p.2) (value_fails (value_of c.args.width c.args.names) c.in_err-push_value-in-Some.field-0.0 c.values.items.items c.args.items.now.items c.args.line (λ (x : ℕ). x == 44) c.values.rest.now c.in-Some.first.now c.in-Some.behind.now
    (values_of c.args.width c.args.names c.args.text.now) c.in-Some.ensures c.in_err-push_value-in-Some.ensures c.values.invariant)

pub values-preserved : goal.values-preserved
values-preserved c =
    value_then (value_of c.args.width c.args.names) c.values.items.items c.push_value.new.items.items c.args.line (λ (x : ℕ). x == 44) c.values.rest.now c.in-Some.first.now c.in-Some.behind.now
    (extended c.args.items.now.items c.args.line (values_of c.args.width c.args.names c.args.text.now)) c.in-Some.ensures c.in_ok-push_value-in-Some.ensures c.values.invariant

pub returns-in-None : goal.returns-in-None
returns-in-None c =
    value_last (value_of c.args.width c.args.names) c.values.items.items c.push_value-in-None.new.items.items c.args.items.now.items c.args.line (λ (x : ℕ). x == 44) c.values.rest.now
    (values_of c.args.width c.args.names c.args.text.now) c.push_value-in-None.result c.in-None.ensures c.push_value-in-None.ensures c.values.invariant
