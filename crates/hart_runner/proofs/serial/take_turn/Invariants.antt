-- SPDX-License-Identifier: Apache-2.0
use Rattle.std.proofs.Common.{◌+◌, ◌<◌, ◌^◌}
use Rattle.sh_machines.specs.Serial.{turn}
use Rattle.hart_runner.specs.Standing.{image_in, pace_of}
use Rattle.hart_runner.proofs.Turns.{Turning}
use Rattle.hart_runner.proofs.serial.take_turn.Given as goal

abbrev pub invariant-loop-left : goal.invariant-loop-left
invariant-loop-left l =
    Turning l.fn.machine (turn (image_in l.fn.machine) l.fn.hart l.fn.limit (pace_of l.fn.machine)) l.machine l.fn.hart l.left × ((pace_of l.machine).count + l.left < 2 ^ 64)

abbrev pub decreases-loop-left : goal.decreases-loop-left
decreases-loop-left l = l.left
