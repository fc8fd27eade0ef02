-- SPDX-License-Identifier: Apache-2.0
use Rattle.ref_machine.proofs.Opening.{step_keeps}
use Rattle.ref_machine.proofs.plain.Plain.step.Goals as goal

pub invariant_of-self : goal.invariant_of-self
invariant_of-self c =
    step_keeps c.self.inside.code c.self.inside.state c.step_one.new.state c.self.inside.memory c.step_one.new.memory c.args.hart c.step_one.result c.self.invariant c.step_one.ensures.ok c.step_one.ensures.err c.step_one.ensures.regions c.step_one.ensures.room
