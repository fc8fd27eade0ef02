-- SPDX-License-Identifier: Apache-2.0
use Rattle.std.proofs.Common.{◌<◌, ◌^◌, length, sym, ap, subst, arith, ◌∙◌}
use Rattle.std.specs.Prelude.{string_bytes}
use Rattle.sh_machines.specs.Event.{written}
use Rattle.shuf_machine.specs.Past.{state_of}
use Rattle.period_report.specs.Full.{full_events}
use Rattle.period_report.specs.Replay.{setting_in, CanRun}
use Rattle.period_report.proofs.Replaying.{can_again}
use Rattle.period_report.proofs.Telling.{told_again}
use Rattle.period_report.proofs.full.told.Goals as goal

pub replay-requires-clause-can : goal.replay-requires-clause-can
replay-requires-clause-can c =
    let few : length (written c.args.machine.now.journal) < 2 ^ 64 = omega (arith, c.count.ensures.run, c.count.type_inv) in
    subst (CanRun c.args.again.now) (sym c.journal.ensures.is) (can_again c.args.machine.now c.args.again.now c.requires c.machines_stand.ensures.legal few)

pub returns : goal.returns
returns c =
    told_again c.args.machine.now c.args.again.now (string_bytes c.in_ok-text.text) (string_bytes c.push_str.new.self) c.as_str.result.now (string_bytes c.in_ok-middle.middle) c.requires c.in_ok-text.ensures
    (c.in_ok-middle.ensures ∙ ap (full_events (setting_in c.args.again.now) c.args.again.now.origin.seed (state_of c.args.again.now)) c.journal.ensures.is) c.as_str.ensures.value c.in_ok-push_str.ensures.bytes
