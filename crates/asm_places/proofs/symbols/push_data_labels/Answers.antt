-- SPDX-License-Identifier: Apache-2.0
use Rattle.std.proofs.Common.{◌≡◌, ◌++◌, false, sym, subst}
use Rattle.asm_places.specs.declared.places.Place.{Place}
use Rattle.asm_places.specs.Places.{first_place}
use Rattle.asm_places.specs.Ranges.{is_past}
use Rattle.asm_places.proofs.Placing.{stays_fine, not_past}
use Rattle.asm_places.proofs.Ranging.{few_functions}
use Rattle.asm_places.specs.Laying.{laid}
use Rattle.asm_places.specs.Symbols.{data_label}
use Rattle.asm_places.proofs.Laying.{goes_on, done}
use Rattle.asm_places.proofs.symbols.push_data_labels.Goals as goal

pub loop-item-preserved : goal.loop-item-preserved
loop-item-preserved c =
    let give = data_label c.args.size in
    let place = c.loop-item.place in
    let next = c.next_place-place.result in
    let items = c.args.items.now in
    let i = c.loop-item.item-index in
    let item = c.item-item.result in
    let n = c.next_place-place.ensures in
    let inv = c.loop-item.invariant in
    record {
      range = stays_fine place next items i item c.loop-item-test.true c.item-item.is n inv.range;
      made = goes_on give c.loop-item.symbols.items c.push_data_label.new.symbols.items place next items i item (c.args.symbols.now.items ++ laid give first_place items) c.loop-item-test.true c.item-item.is n c.in_ok-push_data_label.ensures inv.made;
      short = subst (λ (q : Place). is_past q ≡ false) (sym n) (not_past place items i item c.loop-item-test.true c.item-item.is inv.range);
      few = few_functions place next item.statement i n inv.few;
    }

pub returns : goal.returns
returns c =
    let give = data_label c.args.size in
    done give c.loop-item.symbols.items c.loop-item.place c.args.items.now c.loop-item.item-index (c.args.symbols.now.items ++ laid give first_place c.args.items.now) c.loop-item-test.false c.loop-item.invariant.made
