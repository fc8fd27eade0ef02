-- SPDX-License-Identifier: Apache-2.0
use Rattle.std.proofs.Common.{◌≡◌, ◌+◌, ◌++◌, false, sym, subst, arith, ap, ℕ}
use Rattle.asm_places.specs.declared.places.Place.{Place}
use Rattle.asm_places.specs.Places.{first_place}
use Rattle.asm_places.specs.Ranges.{is_past}
use Rattle.asm_places.proofs.Placing.{stays_fine, not_past}
use Rattle.asm_places.proofs.Ranging.{few_functions}
use Rattle.asm_places.specs.Symbols.{counted, inner_symbol, las_in}
use Rattle.asm_places.proofs.Counting.{goes_on, done}
use Rattle.asm_places.proofs.symbols.push_inner_symbols.Goals as goal

pub loop-item-preserved : goal.loop-item-preserved
loop-item-preserved c =
    let place = c.loop-item.place in
    let next = c.next_place-place.result in
    let items = c.args.items.now in
    let i = c.loop-item.item-index in
    let item = c.item-item.result in
    let n = c.next_place-place.ensures in
    let inv = c.loop-item.invariant in
    let count = las_in place item.statement in
    let las : c.loop-item.las + c.las_in-las.result ≡ c.loop-item.las + count = ap (λ (k : ℕ). c.loop-item.las + k) c.las_in-las.ensures.value in
    record {
      range = stays_fine place next items i item c.loop-item-test.true c.item-item.is n inv.range;
      made = goes_on inner_symbol las_in c.loop-item.symbols.items c.push_inner_symbol.new.symbols.items c.loop-item.las (c.loop-item.las + c.las_in-las.result) place next items i item (c.args.symbols.now.items ++ counted inner_symbol las_in 0 first_place items) c.loop-item-test.true c.item-item.is n
          las c.in_ok-push_inner_symbol.ensures inv.made;
      short = subst (λ (q : Place). is_past q ≡ false) (sym n) (not_past place items i item c.loop-item-test.true c.item-item.is inv.range);
      few = few_functions place next item.statement i n inv.few;
      low = omega arith;
    }

pub returns : goal.returns
returns c =
    done inner_symbol las_in c.loop-item.symbols.items c.loop-item.las c.loop-item.place c.args.items.now c.loop-item.item-index (c.args.symbols.now.items ++ counted inner_symbol las_in 0 first_place c.args.items.now) c.loop-item-test.false c.loop-item.invariant.made
