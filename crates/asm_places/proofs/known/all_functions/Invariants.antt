-- SPDX-License-Identifier: Apache-2.0
use Rattle.std.proofs.Common.{drop}
use Rattle.asm_places.specs.Names.{functions_in}
use Rattle.asm_places.proofs.Knowing.{Left}
use Rattle.asm_places.proofs.known.all_functions.Given as goal

abbrev pub invariant-loop-item : goal.invariant-loop-item
invariant-loop-item l = Left l.names (functions_in (drop l.item-index l.items)) (functions_in l.items)
