-- SPDX-License-Identifier: Apache-2.0
use Rattle.std.proofs.Common.{length}
use Rattle.sh_machines.specs.Serial.{migrations}
use Rattle.hart_runner.specs.Standing.{pace_of}
use Rattle.hart_runner.proofs.Boundaries.{Moving}
use Rattle.hart_runner.proofs.serial.migrate_all.Given as goal

abbrev pub invariant-loop-hart : goal.invariant-loop-hart
invariant-loop-hart g l = Moving l.fn.machine (migrations (pace_of l.fn.machine).behind) l.machine

abbrev pub decreases-loop-hart : goal.decreases-loop-hart
decreases-loop-hart g l = length (pace_of l.machine).behind
