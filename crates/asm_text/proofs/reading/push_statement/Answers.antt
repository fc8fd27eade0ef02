-- SPDX-License-Identifier: Apache-2.0
use Rattle.asm_text.proofs.Growing.{labelled}
use Rattle.asm_text.proofs.reading.push_statement.Goals as goal

pub returns-in_ok-push : goal.returns-in_ok-push
returns-in_ok-push c =
    labelled c.args.text.now c.trimmed-text.result.now c.in-Some.name.now c.in-Some.behind.now c.trimmed.result.now c.in_ok-name.name c.args.items.now.items c.push.new.items.items c.push_unlabelled.new.items.items
    c.args.line c.push_unlabelled.result c.trimmed-text.ensures c.in-Some.ensures c.in_ok-name.ensures c.in_ok-push.ensures c.trimmed.ensures c.push_unlabelled.ensures
