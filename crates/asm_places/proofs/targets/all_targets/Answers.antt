-- SPDX-License-Identifier: Apache-2.0
use Rattle.std.proofs.Common.{◌≡◌, false, sym, subst}
use Rattle.asm_places.specs.declared.places.Place.{Place}
use Rattle.asm_places.specs.Places.{first_place}
use Rattle.asm_places.specs.Ranges.{is_past}
use Rattle.asm_places.specs.Targets.{targets_in}
use Rattle.asm_places.proofs.Placing.{stays_fine, not_past}
use Rattle.asm_places.proofs.Ranging.{few_functions}
use Rattle.asm_places.proofs.Targeting.{goes_on, done}
use Rattle.asm_places.proofs.targets.all_targets.Goals as goal

pub loop-item-preserved : goal.loop-item-preserved
loop-item-preserved c =
    let place = c.loop-item.place in
    let next = c.next_place-place.result in
    let items = c.args.items.now in
    let i = c.loop-item.item-index in
    let item = c.item-item.result in
    let n = c.next_place-place.ensures in
    let inv = c.loop-item.invariant in
    record {
      range = stays_fine place next items i item c.loop-item-test.true c.item-item.is n inv.range;
      left = goes_on c.loop-item.targets c.take_target.new.targets place next items i item (targets_in first_place items) c.loop-item-test.true c.item-item.is n c.in_ok-take_target.ensures inv.left;
      short = subst (λ (q : Place). is_past q ≡ false) (sym n) (not_past place items i item c.loop-item-test.true c.item-item.is inv.range);
      few = few_functions place next item.statement i n inv.few;
    }

pub returns : goal.returns
returns c = done c.loop-item.targets c.loop-item.place c.args.items.now c.loop-item.item-index (targets_in first_place c.args.items.now) c.loop-item-test.false c.loop-item.invariant.left
