-- SPDX-License-Identifier: Apache-2.0
use Rattle.std.proofs.Common.{◌∙◌, subst, sym}
use Rattle.elf_rules.specs.Bindable.{mismatch_of}
use Rattle.image_binding.specs.Order.{SegmentsApart}
use Rattle.image_binding.proofs.Ordered.{filled_is}
use Rattle.image_binding.proofs.agreeing.agreeing.Goals as goal

pub all_agree-requires-clause-segments : goal.all_agree-requires-clause-segments
all_agree-requires-clause-segments c =
    c.deref.ensures.value ∙ c.in_ok-segments.ensures ∙ filled_is c.args.bytes.now _ (c.as_slice.ensures ∙ c.requires.read.segments)

pub all_agree-requires-clause-apart : goal.all_agree-requires-clause-apart
all_agree-requires-clause-apart c =
    let order = c.deref.ensures.value ∙ c.in_ok-segments.ensures ∙ filled_is c.args.bytes.now _ (c.as_slice.ensures ∙ c.requires.read.segments) in
    subst SegmentsApart (sym order) (c.segments_are_apart.ensures c.args.bytes.now c.requires.read.fine)

pub returns : goal.returns
unfolding mismatch_of
returns c =
    let order = c.deref.ensures.value ∙ c.in_ok-segments.ensures ∙ filled_is c.args.bytes.now _ (c.as_slice.ensures ∙ c.requires.read.segments) in
    rw (order, c.requires.relocs) at c.all_agree.ensures
