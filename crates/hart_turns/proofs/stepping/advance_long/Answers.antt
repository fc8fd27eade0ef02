-- SPDX-License-Identifier: Apache-2.0
use Rattle.hart_turns.specs.Meant.{meant, setting_of}
use Rattle.hart_turns.proofs.Reservations.{went_on}
use Rattle.hart_turns.proofs.stepping.advance_long.Goals as goal

pub returns-in-Went-clause-steps : goal.returns-in-Went-clause-steps
returns-in-Went-clause-steps c =
    went_on (setting_of c.args.code.now) c.args.at c.in-Went.stored (meant c.args.code.now c.args.state.now) (meant c.args.code.now c.begin_long.new.state) (meant c.args.code.now c.count.new.state) c.in-Went.ensures.begins c.count.ensures.meant
