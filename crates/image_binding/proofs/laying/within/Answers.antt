-- SPDX-License-Identifier: Apache-2.0
use Rattle.image_binding.specs.Binds.{no_token}
use Rattle.image_binding.proofs.Laid.{in_order, inside_is, inside_narrow}
use Rattle.image_binding.proofs.laying.within.Goals as goal

pub slice_bounds-result-count : goal.slice_bounds-result-count
slice_bounds-result-count c =
    let below = rw c.saturating_sub.ensures at c.standing_before-first.ensures.below in
    in_order c.args.tokens.now _ _ c.args.from c.args.to no_token c.standing_before-first.ensures.bound below c.standing_before-end.ensures.above c.requires.order

pub slice_bounds-result-start : goal.slice_bounds-result-start
slice_bounds-result-start c =
    let below = rw c.saturating_sub.ensures at c.standing_before-first.ensures.below in
    in_order c.args.tokens.now _ _ c.args.from c.args.to no_token c.standing_before-first.ensures.bound below c.standing_before-end.ensures.above c.requires.order

pub returns : goal.returns
returns c =
    let below = rw c.saturating_sub.ensures at c.standing_before-first.ensures.below in
    record {
      found = λ a l m. inside_is c.args.tokens.now _ _ c.args.from c.args.to a c.standing_before-first.ensures.bound c.requires.narrow below c.standing_before-end.ensures.above l m;
      narrow = inside_narrow c.args.tokens.now _ _ c.requires.narrow;
    }
