-- SPDX-License-Identifier: Apache-2.0
use Rattle.std.proofs.Common.{◌≡◌, drop}
use Rattle.rv_asm.specs.Passes.{entry_of}
use Rattle.rv_asm.proofs.checking.entry_name.Given as goal

abbrev pub invariant-loop-item : goal.invariant-loop-item
invariant-loop-item l = entry_of (drop l.item-index l.items) ≡ entry_of l.items
