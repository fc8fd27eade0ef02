-- SPDX-License-Identifier: Apache-2.0
use Rattle.std.proofs.Common.{◌≡◌, ℕ, ◌<◌, ◌-◌, ◌∙◌, List, length, ap, arith, subst}
use Rattle.std.specs.List.{AllZip, range_with_len}
use Rattle.rayon.specs.Lists.{range_end, range_start}
use Rattle.rayon.specs.Numbers.{nat_range}
use Rattle.rayon.proofs.ListFacts.{IfOk-then}
use Rattle.rayon.proofs.ToStd.{nat_range-All}
use Rattle.guest_image.specs.Walks.{IsFrameOf, IsWalkable}
use Rattle.guest_image.proofs.frames.each_frame.Goals as goal

pub at_each-requires-after_bounds : goal.at_each-requires-after_bounds
at_each-requires-after_bounds g c κs lives =
    let numbers = c.with_min_len.result.base in
    let all : range_end numbers ≡ length c.args.image.now.functions = ap range_end c.with_min_len.ensures.base ∙ c.into_par_iter.ensures.1 ∙ c.len.ensures in
    let inside = nat_range-All (λ i. IsWalkable c.args.image.now × (length c.args.refused.now ≡ length c.args.image.now.functions) × (i < length c.args.image.now.functions)) (range_start numbers) (range_end numbers)
    (λ i low high. (c.requires.walkable, c.requires.refused, omega (arith, high, all))) in
    λ k d lt. (inside k d lt, λ y p. tt)

pub returns : goal.returns
returns g c =
    let ends = c.into_par_iter.ensures in
    let n = length c.args.image.now.functions in
    let whole : n - 0 ≡ n = omega arith in
    IfOk-then c.at_each.result _ _ c.at_each.ensures (λ v h.
    let chain = rw c.with_min_len.ensures.base at h in
    let places = chain.1 ∙ (λ i. nat_range (ends.0 i) ((ends.1 ∙ c.len.ensures) i)) ∙ ap (range_with_len 0) whole in
    subst (λ (all : List ℕ). AllZip (IsFrameOf c.args.image.now c.args.refused.now) all v.items) places chain.2)
