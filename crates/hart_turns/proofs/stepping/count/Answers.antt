-- SPDX-License-Identifier: Apache-2.0
use Rattle.hart_turns.specs.Meant.{meant}
use Rattle.hart_turns.proofs.Reservations.{counted}
use Rattle.hart_turns.proofs.stepping.count.Goals as goal

pub returns-else-watched-clause-meant : goal.returns-else-watched-clause-meant
returns-else-watched-clause-meant c = counted (meant c.args.code.now c.args.state.now) c.args.at c.args.stored c.requires.end (c.requires.watched c.if-watched.false)
