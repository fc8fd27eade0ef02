-- SPDX-License-Identifier: Apache-2.0
use Rattle.std.proofs.Common.{◌≡◌, ◌+◌, false, sym, subst, arith, ap, ℕ}
use Rattle.asm_places.specs.declared.places.Place.{Place}
use Rattle.asm_places.specs.Places.{first_place}
use Rattle.asm_places.specs.Ranges.{is_past}
use Rattle.asm_places.proofs.Placing.{stays_fine, not_past}
use Rattle.asm_places.proofs.Ranging.{few_functions}
use Rattle.asm_places.specs.Numbers.{number_of}
use Rattle.asm_places.specs.Symbols.{counted}
use Rattle.asm_places.proofs.Counting.{goes_on, done}
use Rattle.rv_asm.specs.Marks.{marks_at, inner_in}
use Rattle.rv_asm.proofs.marks.marks_with.Goals as goal

pub loop-item-preserved : goal.loop-item-preserved
loop-item-preserved c =
    let give = marks_at (number_of c.args.numbers.now) c.args.first in
    let place = c.loop-item.place in
    let next = c.next_place-place.result in
    let items = c.args.items.now in
    let i = c.loop-item.item-index in
    let item = c.item-item.result in
    let n = c.next_place-place.ensures in
    let inv = c.loop-item.invariant in
    let inner : c.loop-item.inner + c.inner_in-inner.result ≡ c.loop-item.inner + inner_in place item.statement = ap (λ (k : ℕ). c.loop-item.inner + k) c.inner_in-inner.ensures.value in
    record {
      range = stays_fine place next items i item c.loop-item-test.true c.item-item.is n inv.range;
      made = goes_on give inner_in c.loop-item.marks.items c.push_marks.new.marks.items c.loop-item.inner (c.loop-item.inner + c.inner_in-inner.result) place next items i item (counted give inner_in 0 first_place items) c.loop-item-test.true c.item-item.is n
          inner c.in_ok-push_marks.ensures inv.made;
      short = subst (λ (q : Place). is_past q ≡ false) (sym n) (not_past place items i item c.loop-item-test.true c.item-item.is inv.range);
      few = few_functions place next item.statement i n inv.few;
      low = omega arith;
    }

pub returns : goal.returns
returns c =
    let give = marks_at (number_of c.args.numbers.now) c.args.first in
    done give inner_in c.loop-item.marks.items c.loop-item.inner c.loop-item.place c.args.items.now c.loop-item.item-index (counted give inner_in 0 first_place c.args.items.now) c.loop-item-test.false c.loop-item.invariant.made
