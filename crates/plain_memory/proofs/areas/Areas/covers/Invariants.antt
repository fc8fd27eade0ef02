-- SPDX-License-Identifier: Apache-2.0
use Rattle.std.proofs.Common.{◌≡◌, ◌+◌, ◌<◌}
use Rattle.sh_machines.specs.Memory.{each_from}
use Rattle.plain_memory.proofs.Stretches.{test_of}
use Rattle.plain_memory.proofs.areas.Areas.covers.Given as goal

abbrev pub invariant-loop-left : goal.invariant-loop-left
invariant-loop-left l =
    record {
      rest : each_from (test_of l.writes l.self) l.at l.left ≡ each_from (test_of l.writes l.self) l.address l.length;
      end : l.at + l.left ≡ l.address + l.length;
      some : 0 < l.length → 0 < l.left;
    }

abbrev pub decreases-loop-left : goal.decreases-loop-left
decreases-loop-left l = l.left
