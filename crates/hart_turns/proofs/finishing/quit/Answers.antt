-- SPDX-License-Identifier: Apache-2.0
use Rattle.std.proofs.Common.{refl, ap, ◌∙◌}
use Rattle.sh_machines.specs.Need.{Quits}
use Rattle.sh_machines.specs.Shuffled.{hart_ends}
use Rattle.hart_turns.specs.Meant.{meant, setting_of}
use Rattle.hart_turns.proofs.Ending.{ended_cannot, stopped_by}
use Rattle.hart_turns.proofs.finishing.quit.Goals as goal

pub returns-clause-done : goal.returns-clause-done
returns-clause-done c =
    let s = meant c.args.code.now c.args.state.now in
    let h = c.current-hart.result in
    stopped_by (setting_of c.args.code.now) c.args.at s _ h Quits c.current-hart.ensures.is c.requires.next refl (ended_cannot s c.args.at h _ c.current-hart.ensures.is) (c.end_hart.ensures.meant ∙ ap (hart_ends s c.args.at h) c.low_byte.ensures)
