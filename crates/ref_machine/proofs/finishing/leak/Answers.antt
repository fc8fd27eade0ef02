-- SPDX-License-Identifier: Apache-2.0
use Rattle.sh_machines.specs.Need.{Leaks}
use Rattle.ref_machine.proofs.Ending.{stopped_by}
use Rattle.ref_machine.proofs.finishing.leak.Goals as goal

pub returns-clause-state : goal.returns-clause-state
returns-clause-state g c =
    let x = g.M.Contents.contents c.args.memory.now in
    stopped_by c.args.code.now c.args.at c.args.state.now x _ c.current.result Leaks c.requires.next c.current.ensures.is (c.stop.ensures.state x)
