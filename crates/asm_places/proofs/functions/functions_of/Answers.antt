-- SPDX-License-Identifier: Apache-2.0
use Rattle.std.proofs.Common.{◌≡◌, false, sym, subst}
use Rattle.std.specs.Prelude.{None}
use Rattle.asm_places.specs.declared.places.Place.{Place}
use Rattle.asm_places.specs.Places.{first_place}
use Rattle.asm_places.specs.Ranges.{is_past}
use Rattle.asm_places.proofs.Placing.{stays_fine, not_past}
use Rattle.asm_places.proofs.Ranging.{few_functions}
use Rattle.asm_places.specs.Functions.{functions_from}
use Rattle.asm_places.proofs.Ending.{goes_on, done}
use Rattle.asm_places.proofs.functions.functions_of.Goals as goal

pub loop-item-preserved : goal.loop-item-preserved
loop-item-preserved c =
    let place = c.loop-item.place in
    let next = c.next_place-place.result in
    let items = c.args.items.now in
    let i = c.loop-item.item-index in
    let item = c.item-item.result in
    let n = c.next_place-place.ensures in
    let inv = c.loop-item.invariant in
    record {
      range = stays_fine place next items i item c.loop-item-test.true c.item-item.is n inv.range;
      made = goes_on c.loop-item.functions.items c.push_ended.new.functions.items c.loop-item.begun c.in_ok-begun.begun place next items i item (functions_from None first_place items) c.loop-item-test.true c.item-item.is n
          c.in_ok-begun.ensures.value c.in_ok-push_ended.ensures inv.made;
      short = subst (λ (q : Place). is_past q ≡ false) (sym n) (not_past place items i item c.loop-item-test.true c.item-item.is inv.range);
      few = few_functions place next item.statement i n inv.few;
      low = c.in_ok-begun.ensures.low;
    }

pub returns : goal.returns
returns c = done c.loop-item.functions.items c.loop-item.begun c.loop-item.place c.args.items.now c.loop-item.item-index (functions_from None first_place c.args.items.now) c.loop-item-test.false c.loop-item.invariant.made
