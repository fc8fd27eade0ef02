-- SPDX-License-Identifier: Apache-2.0
use Rattle.std.proofs.Common.{◌≡◌, length, ap, ◌∙◌, subst}
use Rattle.sh_machines.specs.Event.{written}
use Rattle.sh_machines.specs.Shuffled.{Shuffled}
use Rattle.shuf_machine.specs.Past.{Past}
use Rattle.shuf_machine.specs.Run.{setting_of}
use Rattle.shuf_machine.proofs.machine.Machine.count.Goals as goal

pub returns-clause-run : goal.returns-clause-run
returns-clause-run c =
    subst (λ (p : Past). c.self.inside.state.count ≡ length (written p.journal)) c.self.view_is
    (ap (λ (s : Shuffled). s.count) c.self.invariant.state ∙ c.instructions_are_counted.ensures.count (setting_of c.self.inside.code.image c.self.inside.code.origin) c.self.inside.journal.items c.self.invariant.legal)
