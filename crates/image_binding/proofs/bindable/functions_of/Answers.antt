-- SPDX-License-Identifier: Apache-2.0
use Rattle.std.proofs.Common.{◌∙◌}
use Rattle.image_binding.proofs.Mapped.{mapped_fits}
use Rattle.image_binding.proofs.bindable.functions_of.Goals as goal

pub limited_memory-requires : goal.limited_memory-requires
limited_memory-requires c =
    mapped_fits c.args.bytes.now _ (c.as_slice.ensures ∙ c.requires.read.segments) (c.segments_lie_in_files.ensures c.args.bytes.now c.requires.read.fine) (λ i. (c.type_inv.bytes i).fits)
