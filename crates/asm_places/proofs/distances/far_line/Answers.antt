-- SPDX-License-Identifier: Apache-2.0
use Rattle.std.proofs.Common.{◌≡◌, true, false, sym, subst}
use Rattle.asm_places.specs.declared.places.Place.{Place}
use Rattle.asm_places.specs.Places.{first_place}
use Rattle.asm_places.specs.Ranges.{is_past}
use Rattle.asm_places.specs.Maps.{has_at}
use Rattle.asm_places.specs.Targets.{far_line, is_reached, distance_to, target_of}
use Rattle.asm_places.proofs.Placing.{stays_fine, not_past}
use Rattle.asm_places.proofs.Ranging.{few_functions}
use Rattle.asm_places.proofs.Targeting.{far_goes_on, far_ends, far_done}
use Rattle.asm_places.proofs.distances.far_line.Goals as goal

pub returns-then-not-reaches : goal.returns-then-not-reaches
returns-then-not-reaches c =
    let f = has_at c.args.targets.now in
    let place = c.loop-item.place in
    let s = c.item-item.result.statement in
    let h : is_reached (distance_to c.args.size place (target_of f place.functions s)) s ≡ false = cc in
    far_ends f c.args.size place c.args.items.now c.loop-item.item-index c.item-item.result (far_line f c.args.size first_place c.args.items.now) c.loop-item-test.true c.item-item.is h c.loop-item.invariant.line

pub loop-item-preserved : goal.loop-item-preserved
loop-item-preserved c =
    let f = has_at c.args.targets.now in
    let place = c.loop-item.place in
    let next = c.next_place-place.result in
    let items = c.args.items.now in
    let i = c.loop-item.item-index in
    let item = c.item-item.result in
    let n = c.next_place-place.ensures in
    let inv = c.loop-item.invariant in
    let h : is_reached (distance_to c.args.size place (target_of f place.functions item.statement)) item.statement ≡ true = cc in
    record {
      range = stays_fine place next items i item c.loop-item-test.true c.item-item.is n inv.range;
      line = far_goes_on f c.args.size place next items i item (far_line f c.args.size first_place items) c.loop-item-test.true c.item-item.is n h inv.line;
      short = subst (λ (q : Place). is_past q ≡ false) (sym n) (not_past place items i item c.loop-item-test.true c.item-item.is inv.range);
      few = few_functions place next item.statement i n inv.few;
    }

pub returns : goal.returns
returns c =
    let f = has_at c.args.targets.now in
    far_done f c.args.size c.loop-item.place c.args.items.now c.loop-item.item-index (far_line f c.args.size first_place c.args.items.now) c.loop-item-test.false c.loop-item.invariant.line
