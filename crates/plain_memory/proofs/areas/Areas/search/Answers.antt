-- SPDX-License-Identifier: Apache-2.0
use Rattle.std.proofs.Common.{sym, refl, subst, arith}
use Rattle.std.specs.List.Sorted.{IsNonDecreasingBy}
use Rattle.sh_types.specs.declared.code.Region.{Region}
use Rattle.plain_memory.proofs.Places.{ends_rise, none_found}
use Rattle.plain_memory.proofs.areas.Areas.search.Goals as goal

pub ended_by-index-requires : goal.ended_by-index-requires
ended_by-index-requires c = subst (IsNonDecreasingBy (λ (r : Region). r.end)) (sym c.as_slice.ensures.value) (ends_rise 0 c.self.inside.areas.items c.self.invariant)

pub returns-clause-none : goal.returns-clause-none
returns-clause-none c =
    let lo = rw c.as_slice.ensures.value at c.ended_by-index.ensures.below in
    let hi = rw c.as_slice.ensures.value at c.ended_by-index.ensures.above in
    let most = rw c.as_slice.ensures.value at c.ended_by-index.ensures.bound in
    let out = rw (← c.self.view_is) at (c.if-has_at.ensures.no refl) in
    λ none. rw (← c.self.view_is) (none_found 0 c.self.inside.areas.items c.ended_by-index.result c.args.address c.self.invariant lo out (λ d l. hi c.ended_by-index.result d (omega arith) l) most)
