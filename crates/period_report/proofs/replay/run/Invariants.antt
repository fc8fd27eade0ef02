-- SPDX-License-Identifier: Apache-2.0
use Rattle.std.proofs.Common.{◌≡◌, ◌+◌, true, length}
use Rattle.sh_machines.specs.Event.{instructions, can_all, written}
use Rattle.shuf_machine.specs.Past.{state_of}
use Rattle.period_report.specs.Replay.{setting_in}
use Rattle.period_report.proofs.replay.run.Given as goal

abbrev pub invariant-loop-left : goal.invariant-loop-left
invariant-loop-left l =
    record {
      image : l.machine.image ≡ l.fn.machine.image;
      origin : l.machine.origin ≡ l.fn.machine.origin;
      can : can_all (setting_in l.machine) l.hart l.left (state_of l.machine) ≡ true;
      rest : instructions (setting_in l.machine) l.hart l.left (state_of l.machine) ≡ instructions (setting_in l.fn.machine) l.hart l.count (state_of l.fn.machine);
      count : length (written l.machine.journal) + l.left ≡ length (written l.fn.machine.journal) + l.count;
    }

abbrev pub decreases-loop-left : goal.decreases-loop-left
decreases-loop-left l = l.left
