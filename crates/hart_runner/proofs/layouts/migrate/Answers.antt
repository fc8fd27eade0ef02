-- SPDX-License-Identifier: Apache-2.0
use Rattle.shuf_machine.specs.Past.{state_of}
use Rattle.shuf_machine.specs.Refusal.{migrate_no}
use Rattle.hart_runner.specs.Standing.{pace_of}
use Rattle.hart_runner.proofs.Going.{never_refused}
use Rattle.hart_runner.proofs.Linking.{linked, may_migrate}
use Rattle.hart_runner.proofs.layouts.migrate.Goals as goal

pub unreachable-requires : goal.unreachable-requires
unreachable-requires g c =
    let m = c.args.machine.now in
    let l = linked m c.machines_stand.ensures.setting c.machines_stand.ensures.legal c.machines_stand.ensures.stands c.requires.pace in
    never_refused c.in-Err-NotEnabled.field-0 (migrate_no (state_of m) c.args.hart) c.in-Err-NotEnabled.field-0-0 c.in-Err-NotEnabled.ensures.cause (may_migrate (state_of m) (pace_of m) c.args.hart l c.requires.goes c.requires.behind) c.in-Err-NotEnabled.field-0-is
