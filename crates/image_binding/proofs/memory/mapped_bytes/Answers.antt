-- SPDX-License-Identifier: Apache-2.0
use Rattle.std.proofs.Common.{◌∙◌}
use Rattle.image_binding.proofs.Accepting.{memory_fits, no_rule_fails}
use Rattle.image_binding.proofs.memory.mapped_bytes.Goals as goal

pub mapped_by-requires : goal.mapped_by-requires
mapped_by-requires c = memory_fits c.args.bytes.now _ (c.as_slice.ensures ∙ c.in-Ok.ensures.tables.segments) c.requires

pub unreachable-requires : goal.unreachable-requires
unreachable-requires c =
    no_rule_fails c.args.bytes.now c.in-Err-Rule.field-0 c.in-Err-Rule.field-0-0 c.requires c.in-Err-Rule.field-0-is c.in-Err-Rule.ensures.reads
