-- SPDX-License-Identifier: Apache-2.0
use Rattle.std.proofs.Common.{arith}
use Rattle.std.proofs.lemmas.Grind.{common_steps}
use Rattle.thread_acts.proofs.control.calls_through.Goals as goal

pub returns-in-Some : goal.returns-in-Some
returns-in-Some c = λ regions u imm way e k. let done = c.calls_to.ensures regions u in grind (arith, common_steps)
