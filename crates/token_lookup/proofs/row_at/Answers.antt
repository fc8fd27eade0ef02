-- SPDX-License-Identifier: Apache-2.0
use Rattle.std.proofs.Common.{arith, sym, ◌-◌, ◌/◌}
use Rattle.token_lookup.proofs.Naming.{no_token, row_found, row_lost}
use Rattle.token_lookup.proofs.row_at.Goals as goal
use Rattle.token_lookup.proofs.row_at.Goals.{then-number-lt-FIRST_TOKEN-via-then-number-lt-FIRST_TOKEN, then-number-lt-FIRST_TOKEN-via-else-number-lt-FIRST_TOKEN+then-number-ne0}

pub returns-then-number-lt-FIRST_TOKEN : goal.returns-then-number-lt-FIRST_TOKEN
returns-then-number-lt-FIRST_TOKEN c = sym (no_token c.args.rows.now c.args.number (λ i lt e. elim c.then-number-lt-FIRST_TOKEN.branch [ then-number-lt-FIRST_TOKEN-via-then-number-lt-FIRST_TOKEN w ↦ omega arith | then-number-lt-FIRST_TOKEN-via-else-number-lt-FIRST_TOKEN+then-number-ne0 w ↦ omega arith ]))

pub returns-then-func-from : goal.returns-then-func-from
returns-then-func-from c = sym (no_token c.args.rows.now c.args.number (λ i lt e. omega (arith, c.type_inv.rows i)))

pub returns-in-Ok : goal.returns-in-Ok
returns-in-Ok c = sym (row_found c.args.rows.now ((c.args.number - 1879048192) / 16) c.in-Ok.field-0 c.args.number c.requires c.in-Ok.ensures.position (omega arith))

pub returns-in-Err : goal.returns-in-Err
returns-in-Err c = sym (row_lost c.args.rows.now ((c.args.number - 1879048192) / 16) c.in-Err.field-0 c.args.number c.requires c.in-Err.ensures.position (omega arith))
