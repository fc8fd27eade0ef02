-- SPDX-License-Identifier: Apache-2.0
use Rattle.sh_types.specs.declared.runs.Event.TheVariants.{Run}
use Rattle.period_report.proofs.Replaying.{after_with}
use Rattle.period_report.proofs.replay.run_some.Goals as goal

pub returns-in-Ok-clause-after : goal.returns-in-Ok-clause-after
returns-in-Ok-clause-after c = after_with (Run c.args.hart c.in-Ok.count) c.args.machine.now c.run_direct.new.self c.in-Ok.ensures.ok
