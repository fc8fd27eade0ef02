-- SPDX-License-Identifier: Apache-2.0
use Rattle.std.proofs.Common.{◌≡◌, drop}
use Rattle.guest_mem.specs.First.{rise_from}
use Rattle.guest_mem.proofs.neighbours.rise.Given as goal

abbrev pub invariant-loop-region : goal.invariant-loop-region
invariant-loop-region l = rise_from l.low (drop l.region-index l.regions) ≡ rise_from 0 l.regions
