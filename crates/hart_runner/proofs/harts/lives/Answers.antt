-- SPDX-License-Identifier: Apache-2.0
use Rattle.std.proofs.Common.{sym, ap, ◌∙◌}
use Rattle.std.specs.Prelude.{slice_get}
use Rattle.sh_machines.specs.Event.{is_live}
use Rattle.sh_machines.specs.Unmoved.{Unmoved, is_alive}
use Rattle.shuf_machine.specs.Past.{state_of, guest_of}
use Rattle.shuf_machine.specs.Run.{setting_of}
use Rattle.hart_runner.specs.Standing.{image_in}
use Rattle.hart_runner.proofs.Going.{lives_stand}
use Rattle.hart_runner.proofs.Written.{pace_guest}
use Rattle.hart_runner.proofs.harts.lives.Goals as goal

pub returns : goal.returns
returns c =
    let m = c.args.machine.now in
    c.is_live.ensures ∙ ap is_live c.hart.ensures ∙ lives_stand (setting_of m.image m.origin) (state_of m) (guest_of m) c.args.hart c.machines_stand.ensures.stands
    ∙ ap (λ (u : Unmoved). is_alive (slice_get u.threads c.args.hart)) (sym (pace_guest (image_in m) m.origin.input m.journal))
