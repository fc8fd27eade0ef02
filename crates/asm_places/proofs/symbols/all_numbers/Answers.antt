-- SPDX-License-Identifier: Apache-2.0
use Rattle.std.proofs.Common.{arith}
use Rattle.asm_places.proofs.Counting.{numbers_go_on, numbers_done}
use Rattle.asm_places.proofs.symbols.all_numbers.Goals as goal

pub loop-symbol-preserved : goal.loop-symbol-preserved
loop-symbol-preserved c =
    record {
      left = numbers_go_on c.loop-symbol.numbers c.take_number.new.numbers c.loop-symbol.number c.args.symbols.now c.loop-symbol.symbol-index c.symbol-item.result c.args.symbols.now c.loop-symbol-test.true c.symbol-item.is c.in_ok-take_number.ensures c.loop-symbol.invariant.left;
      counted = omega arith;
    }

pub returns : goal.returns
returns c = numbers_done c.loop-symbol.numbers c.loop-symbol.number c.args.symbols.now c.loop-symbol.symbol-index c.args.symbols.now c.loop-symbol-test.false c.loop-symbol.invariant.left
