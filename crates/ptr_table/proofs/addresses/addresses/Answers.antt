-- SPDX-License-Identifier: Apache-2.0
use Rattle.std.proofs.Common.{ℕ}
use Rattle.std.proofs.lemmas.List.Sorted.{IsNonDecreasingBy-from_sort}
use Rattle.ptr_table.proofs.Taking.{all_taken}
use Rattle.ptr_table.proofs.addresses.addresses.Goals as goal

pub returns-clause-rise : goal.returns-clause-rise
returns-clause-rise c = IsNonDecreasingBy-from_sort (λ (n : ℕ). n) _ c.in_ok-sort.ensures.sorted

pub returns-clause-taken : goal.returns-clause-taken
returns-clause-taken c = all_taken c.args.in_code c.args.relocs.now _ c.in_ok-found.found.items c.in_ok-found.ensures c.in_ok-sort.ensures.permutation
