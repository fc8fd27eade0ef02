-- SPDX-License-Identifier: Apache-2.0
use Rattle.hart_turns.proofs.calls.act.Goals as goal

pub returns-in-Starts-clause-meant : goal.returns-in-Starts-clause-meant
returns-in-Starts-clause-meant c = rw c.in-Starts.is (c.start.ensures.meant c.in-Starts.argument c.in-Starts.stack c.in-Starts.thread c.start_regs-regs.ensures)
