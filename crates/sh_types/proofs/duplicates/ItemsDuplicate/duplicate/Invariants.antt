-- SPDX-License-Identifier: Apache-2.0
use Rattle.std.proofs.Common.{◌≡◌, take, length}
use Rattle.sh_types.proofs.duplicates.ItemsDuplicate.duplicate.Given as goal

-- the elements so far
abbrev pub invariant-loop-item : goal.invariant-loop-item
invariant-loop-item g l = l.copy.items ≡ take l.item-index l.item-items
