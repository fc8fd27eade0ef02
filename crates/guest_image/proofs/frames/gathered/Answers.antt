-- SPDX-License-Identifier: Apache-2.0
use Rattle.std.proofs.Common.{◌≡◌, ◌∷◌, length, ap, ◌∙◌, arith}
use Rattle.std.specs.Vec.Iter.{into_iter_items}
use Rattle.guest_image.proofs.Walking.{first_more, gathered_more, room_left}
use Rattle.guest_image.proofs.frames.gathered.Goals as goal

pub loop-one-preserved : goal.loop-one-preserved
loop-one-preserved c =
    let at = c.loop-one in
    let steps : into_iter_items at.one-iterator ≡ c.in-Some.one ∷ into_iter_items c.next.new.self = c.in-Some.ensures.steps.0 in
    let gone = c.in-Some.ensures.steps.1 in
    let was = at.invariant.long in
    let short = ap length steps in
    let long = ap length c.into_iter-one-iterator.ensures.into_iter_gives.0 ∙ c.requires.many in
    let room = room_left at.frames.items c.in-Some.one (into_iter_items at.one-iterator) _ _ _ at.invariant.all steps long in
    record {
      all = rw c.in_ok-push-in-Ok.ensures.items (gathered_more at.frames.items c.in-Ok.frame c.in-Some.one _ _ _ at.invariant.all steps c.in-Ok.is);
      long = omega arith;
      first = rw c.in_ok-push-in-Ok.ensures.items (first_more c.args.functions.now at.frames.items c.in-Ok.frame c.in-Some.one _ _ _ room steps c.in-Ok.is at.invariant.first);
    }
