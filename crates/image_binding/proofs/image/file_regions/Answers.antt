-- SPDX-License-Identifier: Apache-2.0
use Rattle.std.proofs.Common.{◌∙◌}
use Rattle.image_binding.proofs.Ordered.{codes_low, filled_is, filled_placed}
use Rattle.image_binding.proofs.Sorted.{regions_are}
use Rattle.image_binding.proofs.image.file_regions.Goals as goal

pub all_regions-requires-clause-placed : goal.all_regions-requires-clause-placed
all_regions-requires-clause-placed c =
    let order = c.deref-2.ensures.value ∙ c.in_ok-segments.ensures ∙ filled_is c.args.bytes.now _ (c.as_slice.ensures ∙ c.requires.tables.segments) in
    rw order (filled_placed c.args.bytes.now (c.segments_lie_in_files.ensures c.args.bytes.now c.requires.tables.fine))

pub all_regions-requires-clause-low : goal.all_regions-requires-clause-low
all_regions-requires-clause-low c =
    rw c.requires.codes (codes_low c.args.bytes.now (c.sections_are_bounded.ensures c.args.bytes.now c.requires.tables.fine))

pub returns : goal.returns
returns c =
    let order = c.deref-2.ensures.value ∙ c.in_ok-segments.ensures ∙ filled_is c.args.bytes.now _ (c.as_slice.ensures ∙ c.requires.tables.segments) in
    let tokens = c.deref.ensures.value ∙ c.in_ok-tokens.ensures.order in
    regions_are c.args.bytes.now _ c.args.codes.now _ _ _ (λ a. c.tokens_are_apart.ensures c.args.bytes.now _ _ a c.requires.recorded) c.requires.binding c.requires.codes order tokens c.in_ok-regions.ensures
