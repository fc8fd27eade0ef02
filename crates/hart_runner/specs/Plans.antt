-- SPDX-License-Identifier: Apache-2.0
-- The schedule of a plan.
use Rattle.sh_machines.specs.Serial.{Schedule}
use Rattle.hart_runner.specs.declared.plan.Plan.{Plan}

abbrev pub schedule_of : Plan → Schedule
schedule_of p = record { period = p.period; quantum = p.quantum; steps = p.steps }
