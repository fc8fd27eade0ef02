-- SPDX-License-Identifier: Apache-2.0
use Rattle.std.proofs.Common.{rules, ◌∙◌, ap}
use Rattle.std.proofs.lemmas.List.Sorted.{IsNonDecreasingBy-from_sort_by_key, answers_always}
use Rattle.elf_rules.specs.Bindable.{rising_by}
use Rattle.image_rules.specs.declared.tokens.Token.{Token}
use Rattle.image_binding.proofs.Bounds.{all_narrow}
use Rattle.image_binding.proofs.Rising.{sorted_is}
use Rattle.image_binding.proofs.binding.tokens_in_order.Goals as goal

pub returns : goal.returns
returns c =
    let up = IsNonDecreasingBy-from_sort_by_key (λ (x : Token). x.place) _ c.in_ok-sort_by_key.ensures.sorted (λ a r q k. search rules) in
    let order = sorted_is (λ (x : Token). x.place) _ _ up (c.in_ok-sort_by_key.ensures.stable (λ (x : Token). x.place) (answers_always _ _ _ (λ f a r g h. search rules)))
    ∙ ap (rising_by (λ (x : Token). x.place)) c.in_ok-found.ensures in
    record { narrow = all_narrow c.args.binding.now.functions c.args.binding.now.labels c.args.binding.now.relocs _ order; rise = up; order = order }
