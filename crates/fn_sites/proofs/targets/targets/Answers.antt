-- SPDX-License-Identifier: Apache-2.0
use Rattle.std.proofs.Common.{◌∙◌, ap, ℕ}
use Rattle.std.proofs.lemmas.List.Sorted.{IsNonDecreasingBy-from_sort}
use Rattle.fn_sites.specs.Index.{is_among}
use Rattle.fn_sites.proofs.Leading.{all_lead, moved}
use Rattle.fn_sites.proofs.targets.targets.Goals as goal

pub returns-clause-rise : goal.returns-clause-rise
returns-clause-rise c = IsNonDecreasingBy-from_sort (λ (n : ℕ). n) _ c.in_ok-sort.ensures.sorted

pub returns-clause-targets : goal.returns-clause-targets
returns-clause-targets c a =
    moved _ _ c.in_ok-sort.ensures.permutation a
    ∙ ap (λ xs. is_among xs a) c.in_ok-found.ensures
    ∙ all_lead a c.args.home c.args.words.now
