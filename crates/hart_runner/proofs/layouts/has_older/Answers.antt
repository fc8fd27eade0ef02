-- SPDX-License-Identifier: Apache-2.0
use Rattle.std.proofs.Common.{sym, ◌∙◌}
use Rattle.hart_runner.proofs.Linking.{linked}
use Rattle.hart_runner.proofs.layouts.has_older.Goals as goal

pub returns-in-Some : goal.returns-in-Some
returns-in-Some c =
    sym c.in-Some.ensures.some.0 ∙ (linked c.args.machine.now c.machines_stand.ensures.setting c.machines_stand.ensures.legal c.machines_stand.ensures.stands c.requires).older

pub returns-in-None : goal.returns-in-None
returns-in-None c =
    sym c.in-None.ensures.none ∙ (linked c.args.machine.now c.machines_stand.ensures.setting c.machines_stand.ensures.legal c.machines_stand.ensures.stands c.requires).older
