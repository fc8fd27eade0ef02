-- SPDX-License-Identifier: Apache-2.0
use Rattle.sh_machines.specs.Unmoved.{unmoved_start}
use Rattle.pace_law.proofs.Plain.{plain_is, short_within}
use Rattle.pace_law.proofs.turns.plain_lists_are_serial.Goals as goal

pub returns : goal.returns
returns c = record { within = plain_is; short = λ i input s l f. plain_is i input s l (short_within i s.period s.quantum s.steps (unmoved_start i input) l f) }
