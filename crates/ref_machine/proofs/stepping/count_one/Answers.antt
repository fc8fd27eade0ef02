-- SPDX-License-Identifier: Apache-2.0
use Rattle.std.proofs.Common.{ap, sym, ◌∙◌}
use Rattle.ref_machine.specs.Meant.{state_of}
use Rattle.ref_machine.specs.Next.{lost}
use Rattle.ref_machine.proofs.Ending.{lost_is}
use Rattle.ref_machine.proofs.stepping.count_one.Goals as goal

pub returns-in-Some-clause-state : goal.returns-in-Some-clause-state
returns-in-Some-clause-state c =
    λ u. lost_is c.args.state.now c.args.at c.in-Some.stored u c.lose.new.threads c.deref_mut.result.now c.lose.ensures c.deref_mut.ensures.value
    ∙ ap (λ st. lost c.args.at st (state_of c.args.state.now u)) (sym c.in-Some.is)
