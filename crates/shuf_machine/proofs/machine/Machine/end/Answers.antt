-- SPDX-License-Identifier: Apache-2.0
use Rattle.std.proofs.Common.{◌≡◌, ap, ◌∙◌, subst}
use Rattle.sh_machines.specs.Shuffled.{Shuffled}
use Rattle.shuf_machine.specs.Past.{Past, guest_of}
use Rattle.shuf_machine.specs.Run.{setting_of}
use Rattle.shuf_machine.proofs.machine.Machine.end.Goals as goal

pub returns-clause-unmoved : goal.returns-clause-unmoved
returns-clause-unmoved c =
    subst (λ (p : Past). c.self.inside.state.end ≡ (guest_of p).end) c.self.view_is
    (ap (λ (s : Shuffled). s.end) c.self.invariant.state ∙ (c.states_stand.ensures (setting_of c.self.inside.code.image c.self.inside.code.origin) c.self.inside.journal.items c.self.invariant.code.setting c.self.invariant.legal).stands.end)
