-- SPDX-License-Identifier: Apache-2.0
use Rattle.std.proofs.Common.{rules, ◌∙◌, ap}
use Rattle.elf_rules.specs.declared.elf.Segment.{Segment}
use Rattle.std.proofs.lemmas.List.Sorted.{IsNonDecreasingBy-from_sort_by_key, answers_always}
use Rattle.elf_rules.specs.Bindable.{rising_by}
use Rattle.image_binding.proofs.Rising.{sorted_is}
use Rattle.image_binding.proofs.order.filled_in_order.Goals as goal

pub returns : goal.returns
returns c =
    let up = IsNonDecreasingBy-from_sort_by_key (λ (x : Segment). x.start) _ c.in_ok-sort_by_key.ensures.sorted (λ a r q k. search rules) in
    sorted_is (λ (x : Segment). x.start) _ _ up (c.in_ok-sort_by_key.ensures.stable (λ (x : Segment). x.start) (answers_always _ _ _ (λ f a r g h. search rules)))
    ∙ ap (rising_by (λ (x : Segment). x.start)) c.in_ok-found.ensures
