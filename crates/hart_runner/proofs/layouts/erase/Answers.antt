-- SPDX-License-Identifier: Apache-2.0
use Rattle.std.proofs.Common.{◌-◌, ap, ◌∙◌}
use Rattle.sh_types.specs.declared.runs.Event.TheVariants.{Erase}
use Rattle.shuf_machine.specs.Past.{with_event, state_of}
use Rattle.shuf_machine.specs.Refusal.{erase_no}
use Rattle.hart_runner.specs.Standing.{pace_of}
use Rattle.hart_runner.proofs.Going.{never_refused}
use Rattle.hart_runner.proofs.Linking.{linked, may_erase}
use Rattle.hart_runner.proofs.layouts.erase.Goals as goal

pub unreachable-requires : goal.unreachable-requires
unreachable-requires c =
    let m = c.args.machine.now in
    let l = linked m c.machines_stand.ensures.setting c.machines_stand.ensures.legal c.machines_stand.ensures.stands c.requires.pace in
    never_refused c.in-Err-NotEnabled.field-0 (erase_no (state_of m)) c.in-Err-NotEnabled.field-0-0 c.in-Err-NotEnabled.ensures.cause (may_erase (state_of m) (pace_of m) l c.requires.goes c.requires.older c.requires.none) c.in-Err-NotEnabled.field-0-is

pub returns-in-Ok-clause-ok : goal.returns-in-Ok-clause-ok
returns-in-Ok-clause-ok c =
    let m = c.args.machine.now in
    let l = linked m c.machines_stand.ensures.setting c.machines_stand.ensures.legal c.machines_stand.ensures.stands c.requires.pace in
    c.in-Ok.ensures.ok ∙ ap (λ n. with_event m (Erase (n - 1))) l.newest
