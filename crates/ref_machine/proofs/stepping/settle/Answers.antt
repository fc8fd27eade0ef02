-- SPDX-License-Identifier: Apache-2.0
use Rattle.ref_machine.proofs.stepping.settle.Goals as goal

pub returns-in-Went-clause-state : goal.returns-in-Went-clause-state
returns-in-Went-clause-state g c = rw c.in-Went.is (c.count_one.ensures.state (g.M.Contents.contents c.args.memory.now))
