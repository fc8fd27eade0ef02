-- SPDX-License-Identifier: Apache-2.0
use Rattle.std.proofs.Common.{◌-◌}
use Rattle.hart_runner.specs.Plans.{schedule_of}
use Rattle.hart_runner.specs.Standing.{pace_of}
use Rattle.hart_runner.proofs.Running.{Running}
use Rattle.hart_runner.proofs.serial.run_serial.Given as goal

abbrev pub invariant-loop-alloc : goal.invariant-loop-alloc
invariant-loop-alloc g l = Running (schedule_of l.plan) l.fn.machine l.machine l.low

abbrev pub decreases-loop-alloc : goal.decreases-loop-alloc
decreases-loop-alloc g l = l.plan.steps - (pace_of l.machine).count
