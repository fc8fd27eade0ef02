-- SPDX-License-Identifier: Apache-2.0
use Rattle.ref_machine.proofs.calls.act.Goals as goal

pub returns-in-Value-clause-state : goal.returns-in-Value-clause-state
returns-in-Value-clause-state g c = rw c.in-Value.is (c.reply.ensures.state (g.M.Contents.contents c.args.memory.now))

pub returns-in-Starts-clause-state : goal.returns-in-Starts-clause-state
returns-in-Starts-clause-state g c = rw c.in-Starts.is (c.start.ensures.state (g.M.Contents.contents c.args.memory.now) c.in-Starts.argument c.in-Starts.stack c.in-Starts.pointer c.start_regs-regs.ensures)

pub returns-in-ExitsRun-clause-state : goal.returns-in-ExitsRun-clause-state
returns-in-ExitsRun-clause-state g c = rw c.in-ExitsRun.is (c.stop.ensures.state (g.M.Contents.contents c.args.memory.now))

pub returns-in-Leaks-clause-state : goal.returns-in-Leaks-clause-state
returns-in-Leaks-clause-state g c = rw c.in-Leaks.is (c.stop-in-Leaks.ensures.state (g.M.Contents.contents c.args.memory.now))
