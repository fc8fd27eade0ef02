-- SPDX-License-Identifier: Apache-2.0
use Rattle.std.proofs.Common.{rules, ◌∙◌, ap}
use Rattle.elf_rules.specs.declared.starts.Start.{Start}
use Rattle.std.proofs.lemmas.List.Sorted.{IsNonDecreasingBy-from_sort_by_key, answers_always, All-permutation}
use Rattle.fn_split.specs.Low.{EndsLow}
use Rattle.fn_split.specs.Merge.{merged_all}
use Rattle.fn_split.proofs.OnePass.{joined-sorted}
use Rattle.elf_rules.specs.Splitting.{joined}
use Rattle.fn_split.proofs.joining.joined.Goals as goal

pub returns-clause-joined : goal.returns-clause-joined
returns-clause-joined c =
    let same = c.in_ok-ordered.ensures.items_if_clones_equal (λ x y e. search rules) in
    let up = IsNonDecreasingBy-from_sort_by_key (λ (s : Start). s.home) _ c.in_ok-sort_by_key.ensures.sorted (λ a r q k. search rules) in
    c.in_ok-found.ensures.merged ∙ ap merged_all c.deref.ensures.value
    ∙ joined-sorted c.in_ok-ordered.ordered.items _ c.in_ok-sort_by_key.ensures.permutation up (c.in_ok-sort_by_key.ensures.stable (λ (s : Start). s.home) (answers_always _ _ _ (λ f a r g h. search rules)))
    ∙ ap joined same

pub merged-requires : goal.merged-requires
merged-requires c =
    let same = c.in_ok-ordered.ensures.items_if_clones_equal (λ x y e. search rules) in
    rw c.deref.ensures.value (All-permutation EndsLow c.in_ok-ordered.ordered.items _ c.in_ok-sort_by_key.ensures.permutation (rw same c.requires))
