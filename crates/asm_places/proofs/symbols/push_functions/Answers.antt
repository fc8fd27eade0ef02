-- SPDX-License-Identifier: Apache-2.0
use Rattle.std.proofs.Common.{◌++◌}
use Rattle.std.specs.Prelude.{map}
use Rattle.asm_places.specs.Symbols.{function_symbol}
use Rattle.asm_places.proofs.Counting.{map_goes_on, map_done}
use Rattle.asm_places.proofs.symbols.push_functions.Goals as goal

pub loop-function-preserved : goal.loop-function-preserved
loop-function-preserved c =
    record { made = map_goes_on function_symbol c.loop-function.symbols.items c.push_function.new.symbols.items c.args.functions.now c.loop-function.function-index c.function-item.result (c.args.symbols.now.items ++ map function_symbol c.args.functions.now) c.loop-function-test.true c.function-item.is c.in_ok-push_function.ensures c.loop-function.invariant.made }

pub returns : goal.returns
returns c = map_done function_symbol c.loop-function.symbols.items c.args.functions.now c.loop-function.function-index (c.args.symbols.now.items ++ map function_symbol c.args.functions.now) c.loop-function-test.false c.loop-function.invariant.made
