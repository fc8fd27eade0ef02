-- SPDX-License-Identifier: Apache-2.0
use Rattle.std.proofs.Common.{◌≡◌, ◌∙◌, ap, rules}
use Rattle.std.proofs.lemmas.List.Sorted.{IsNonDecreasingBy-from_sort_by_key, answers_always}
use Rattle.sh_types.specs.declared.objects.Mark.{Mark}
use Rattle.elf_write.specs.Parts.{marks_in, by_place}
use Rattle.elf_write.proofs.Sorting.{sorted_by_place}
use Rattle.elf_write.proofs.records.marks_by_place.Goals as goal

pub returns : goal.returns
unfolding marks_in
returns c =
    sorted_by_place c.in_ok-found.found.items _
    (IsNonDecreasingBy-from_sort_by_key (λ (m : Mark). m.at) _ c.in_ok-sort_by_key.ensures.sorted (λ a r q k. search rules))
    (c.in_ok-sort_by_key.ensures.stable (λ (m : Mark). m.at) (answers_always _ _ _ (λ f a r g h. search rules)))
    ∙ ap by_place c.in_ok-found.ensures
