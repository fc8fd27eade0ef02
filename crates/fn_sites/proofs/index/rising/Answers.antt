-- SPDX-License-Identifier: Apache-2.0
use Rattle.std.proofs.Common.{ℕ}
use Rattle.std.proofs.lemmas.List.Sorted.{IsNonDecreasingBy-from_sort}
use Rattle.fn_sites.proofs.Leading.{moved}
use Rattle.fn_sites.proofs.index.rising.Goals as goal

pub returns-clause-rise : goal.returns-clause-rise
returns-clause-rise c = IsNonDecreasingBy-from_sort (λ (n : ℕ). n) _ c.in_ok-sort.ensures.sorted

pub returns-clause-same : goal.returns-clause-same
returns-clause-same c n = moved _ _ c.in_ok-sort.ensures.permutation n
