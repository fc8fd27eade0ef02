-- SPDX-License-Identifier: Apache-2.0
use Rattle.shuf_machine.specs.Past.{state_of}
use Rattle.shuf_machine.specs.Refusal.{erase_no}
use Rattle.period_report.specs.Replay.{setting_in}
use Rattle.period_report.proofs.Replaying.{no_cause, after_erase}
use Rattle.period_report.proofs.replay.erase.Goals as goal

pub unreachable-requires : goal.unreachable-requires
unreachable-requires c =
    no_cause c.in-Err-NotEnabled.field-0 c.in-Err-NotEnabled.field-0-0 (erase_no (state_of c.args.machine.now)) c.in-Err-NotEnabled.field-0-is c.in-Err-NotEnabled.ensures.cause
    (c.allowed_events_are_not_refused.ensures.erase (setting_in c.args.machine.now) (state_of c.args.machine.now) c.args.layout c.requires)

pub returns-in-Ok-clause-after : goal.returns-in-Ok-clause-after
returns-in-Ok-clause-after c =
    after_erase c.args.machine.now c.erase_old.new.self c.args.layout c.in-Ok.ensures.ok
    (c.allowed_events_are_not_refused.ensures.older (setting_in c.args.machine.now) (state_of c.args.machine.now) c.args.layout c.requires)
