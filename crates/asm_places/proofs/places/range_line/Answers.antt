-- SPDX-License-Identifier: Apache-2.0
use Rattle.std.proofs.Common.{◌≡◌, ◌∙◌, true}
use Rattle.asm_places.specs.Ranges.{is_in_range}
use Rattle.asm_places.proofs.Ranging.{goes_on, few_functions}
use Rattle.asm_places.proofs.places.range_line.Goals as goal

pub loop-item-preserved : goal.loop-item-preserved
loop-item-preserved c =
    let r : is_in_range c.item-item.result.statement ≡ true = cc in
    let place = c.loop-item.place in
    let next = c.in-Some.next in
    record {
      line = goes_on place next c.args.items.now c.loop-item.item-index c.item-item.result c.loop-item-test.true c.item-item.is r c.in-Some.ensures.some.0 c.in-Some.ensures.some.1 ∙ c.loop-item.invariant.line;
      short = c.in-Some.ensures.some.1;
      few = few_functions place next c.item-item.result.statement c.loop-item.item-index c.in-Some.ensures.some.0 c.loop-item.invariant.few;
    }
