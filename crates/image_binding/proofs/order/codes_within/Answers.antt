-- SPDX-License-Identifier: Apache-2.0
use Rattle.std.proofs.Common.{arith}
use Rattle.image_binding.proofs.Finding.{from_start, in_order, within_is}
use Rattle.image_binding.proofs.order.codes_within.Goals as goal

pub slice_bounds-result-count : goal.slice_bounds-result-count
slice_bounds-result-count c =
    in_order c.args.codes.now _ _ _ _ (omega arith) c.starting_below-first.ensures.bound c.starting_below-first.ensures.below c.starting_below-end.ensures.above

pub slice_bounds-result-start : goal.slice_bounds-result-start
slice_bounds-result-start c =
    in_order c.args.codes.now _ _ _ _ (omega arith) c.starting_below-first.ensures.bound c.starting_below-first.ensures.below c.starting_below-end.ensures.above

pub returns : goal.returns
returns c =
    let within = within_is c.args.segment.now c.args.codes.now _ _ c.starting_below-first.ensures.below c.starting_below-first.ensures.above c.starting_below-end.ensures.below c.starting_below-end.ensures.above in
    record { within = within; from = rw within (from_start c.args.segment.now c.args.codes.now) }
