-- SPDX-License-Identifier: Apache-2.0
use Rattle.std.proofs.Common.{ap, ◌∙◌}
use Rattle.sh_machines.specs.Need.{Quits}
use Rattle.sh_machines.specs.Unmoved.{thread_ends}
use Rattle.thread_acts.specs.Done.{meant}
use Rattle.ref_machine.specs.Meant.{state_of}
use Rattle.ref_machine.proofs.Ending.{stopped_by}
use Rattle.ref_machine.proofs.finishing.quit.Goals as goal

pub returns-clause-state : goal.returns-clause-state
returns-clause-state g c =
    let s = c.args.state.now in
    let x = g.M.Contents.contents c.args.memory.now in
    let t = c.current-thread.result in
    stopped_by c.args.code.now c.args.at s x _ t Quits c.requires.next c.current-thread.ensures.is (c.end_hart.ensures.state ∙ ap (thread_ends (state_of s x) c.args.at (meant t)) c.low_byte.ensures)
