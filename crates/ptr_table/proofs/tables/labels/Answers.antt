-- SPDX-License-Identifier: Apache-2.0
use Rattle.std.proofs.Common.{◌≡◌, rules}
use Rattle.image_rules.specs.Binding.{labels_of}
use Rattle.ptr_table.proofs.Order.{rising_homes}
use Rattle.ptr_table.proofs.Tabling.{labels_same}
use Rattle.ptr_table.proofs.tables.labels.Goals as goal

pub returns-clause-rise : goal.returns-clause-rise
returns-clause-rise c =
    let same : c.from_vec.result ≡ labels_of c.args.functions.now c.args.relocs.now = search (rules, labels_same) in
    rw same (rising_homes c.args.functions.now c.args.relocs.now c.requires)
