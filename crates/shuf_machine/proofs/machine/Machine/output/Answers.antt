-- SPDX-License-Identifier: Apache-2.0
use Rattle.std.proofs.Common.{◌≡◌, ap, ◌∙◌, subst}
use Rattle.sh_machines.specs.Shuffled.{Shuffled}
use Rattle.shuf_machine.specs.Past.{Past, guest_of}
use Rattle.shuf_machine.specs.Run.{setting_of}
use Rattle.shuf_machine.proofs.machine.Machine.output.Goals as goal

pub returns-clause-unmoved : goal.returns-clause-unmoved
returns-clause-unmoved c =
    c.deref.ensures.value ∙ subst (λ (p : Past). c.self.inside.state.output.items ≡ (guest_of p).output) c.self.view_is
    (ap (λ (s : Shuffled). s.output) c.self.invariant.state ∙ (c.states_stand.ensures (setting_of c.self.inside.code.image c.self.inside.code.origin) c.self.inside.journal.items c.self.invariant.code.setting c.self.invariant.legal).stands.output)
