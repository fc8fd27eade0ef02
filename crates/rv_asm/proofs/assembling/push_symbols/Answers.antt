-- SPDX-License-Identifier: Apache-2.0
use Rattle.std.proofs.Common.{◌++◌}
use Rattle.std.specs.Prelude.{map}
use Rattle.asm_places.specs.Symbols.{symbol_of}
use Rattle.asm_places.proofs.Counting.{map_goes_on, map_done}
use Rattle.rv_asm.proofs.assembling.push_symbols.Goals as goal

pub loop-scoped-preserved : goal.loop-scoped-preserved
loop-scoped-preserved c =
    record { made = map_goes_on symbol_of c.loop-scoped.symbols.items c.push_symbol.new.symbols.items c.args.named.now c.loop-scoped.scoped-index c.scoped-item.result (c.args.symbols.now.items ++ map symbol_of c.args.named.now) c.loop-scoped-test.true c.scoped-item.is c.in_ok-push_symbol.ensures c.loop-scoped.invariant.made }

pub returns : goal.returns
returns c = map_done symbol_of c.loop-scoped.symbols.items c.args.named.now c.loop-scoped.scoped-index (c.args.symbols.now.items ++ map symbol_of c.args.named.now) c.loop-scoped-test.false c.loop-scoped.invariant.made
