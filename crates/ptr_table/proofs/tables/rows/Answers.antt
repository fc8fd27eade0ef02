-- SPDX-License-Identifier: Apache-2.0
use Rattle.std.proofs.Common.{◌≡◌, rules}
use Rattle.image_rules.specs.Binding.{rows_of}
use Rattle.ptr_table.proofs.Order.{rising_rows}
use Rattle.ptr_table.proofs.Tabling.{rows_same}
use Rattle.ptr_table.proofs.tables.rows.Goals as goal

pub returns-clause-rise : goal.returns-clause-rise
returns-clause-rise c =
    let same : c.from_vec.result ≡ rows_of c.args.functions.now c.args.relocs.now = search (rules, rows_same) in
    rw same (rising_rows c.args.functions.now c.args.relocs.now)
