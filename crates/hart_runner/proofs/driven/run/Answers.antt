-- SPDX-License-Identifier: Apache-2.0
use Rattle.std.proofs.Common.{◌≡◌, true, sym, ap, ◌∙◌, arith}
use Rattle.sh_machines.specs.Event.{can_run}
use Rattle.sh_machines.specs.Serial.{run_length}
use Rattle.sh_machines.specs.Unmoved.{can_go}
use Rattle.shuf_machine.specs.Past.{guest_of, state_of}
use Rattle.shuf_machine.specs.Refusal.{run_no}
use Rattle.shuf_machine.specs.Run.{setting_of}
use Rattle.hart_runner.specs.Standing.{image_in}
use Rattle.hart_runner.proofs.Going.{can_stands, may_run, never_refused}
use Rattle.hart_runner.proofs.Written.{pace_guest, pace_count}
use Rattle.hart_runner.proofs.driven.run.Goals as goal

pub run_direct-requires-clause-count : goal.run_direct-requires-clause-count
run_direct-requires-clause-count c =
    let m = c.args.machine.now in
    let p = pace_count (image_in m) m.origin.input m.journal in
    let q = c.requires.count in
    let a = c.instructions_are_counted.ensures.count (setting_of m.image m.origin) m.journal c.machines_stand.ensures.legal in
    omega (arith, p, q, a)

pub unreachable-requires : goal.unreachable-requires
unreachable-requires c =
    let m = c.args.machine.now in
    let go : can_run (state_of m) c.args.hart ≡ true =
    can_stands (setting_of m.image m.origin) (state_of m) (guest_of m) c.args.hart c.machines_stand.ensures.stands
    ∙ ap (λ u. can_go u c.args.hart) (sym (pace_guest (image_in m) m.origin.input m.journal)) ∙ c.requires.can in
    never_refused c.in-Err-NotEnabled.field-0 (run_no (state_of m) c.args.hart) c.in-Err-NotEnabled.field-0-0 c.in-Err-NotEnabled.ensures.cause (may_run (state_of m) c.args.hart go) c.in-Err-NotEnabled.field-0-is

pub returns-in-Ok-clause-length : goal.returns-in-Ok-clause-length
returns-in-Ok-clause-length c =
    let m = c.args.machine.now in
    c.in-Ok.ensures.length ∙ ap (run_length (image_in m) c.args.hart c.args.limit) (sym (pace_guest (image_in m) m.origin.input m.journal))
