-- SPDX-License-Identifier: Apache-2.0
use Rattle.std.proofs.Common.{◌≡◌, ◌*◌, ◌^◌, ◌<◌, length, arith, ap, ◌∙◌}
use Rattle.std.specs.Prelude.{filter}
use Rattle.elf_write.specs.Parts.{is_in}
use Rattle.elf_write.proofs.Marks.{few_filtered}
use Rattle.elf_write.proofs.parts.records_size.Goals as goal

pub overflow_mul-result : goal.overflow_mul-result
overflow_mul-result c =
    let few = few_filtered c.args.object.now c.requires c.args.in_text in
    let same : c.mark_count.result ≡ length (filter (is_in c.args.in_text) c.args.object.now.marks) = c.mark_count.ensures ∙ ap (λ xs. length (filter (is_in c.args.in_text) xs)) c.as_slice.ensures in
    omega arith

pub returns-clause-small : goal.returns-clause-small
returns-clause-small c =
    let few = few_filtered c.args.object.now c.requires c.args.in_text in
    let same : c.mark_count.result ≡ length (filter (is_in c.args.in_text) c.args.object.now.marks) = c.mark_count.ensures ∙ ap (λ xs. length (filter (is_in c.args.in_text) xs)) c.as_slice.ensures in
    omega arith
