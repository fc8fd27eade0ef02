-- SPDX-License-Identifier: Apache-2.0
use Rattle.thread_acts.specs.Done.{meant}
use Rattle.ref_machine.specs.Meant.{state_of}
use Rattle.ref_machine.proofs.Calling.{called, call_low, can_do}
use Rattle.ref_machine.proofs.calls.call.Goals as goal

pub act-requires-clause-can : goal.act-requires-clause-can
act-requires-clause-can g c =
    let x = g.M.Contents.contents c.args.memory.now in
    can_do c.args.code.now (g.M.Contents.regions c.args.memory.now) (state_of c.args.state.now x) (state_of c.ask.new.state x) (meant c.current-thread.result) c.in_ok-answer.answer c.requires.mapped c.in_ok-answer.ensures.answer c.in_ok-answer.ensures.state

pub act-requires-clause-low : goal.act-requires-clause-low
act-requires-clause-low g c = call_low c.args.code.now c.args.at c.args.state.now (g.M.Contents.contents c.args.memory.now) c.current-thread.result c.requires.code c.requires.next c.current-thread.ensures.is

pub returns-clause-state : goal.returns-clause-state
returns-clause-state g c =
    let x = g.M.Contents.contents c.args.memory.now in
    called c.args.code.now c.args.at c.args.state.now x (state_of c.ask.new.state x) _ c.current-thread.result c.in_ok-answer.answer c.requires.next c.current-thread.ensures.is c.in_ok-answer.ensures.answer c.in_ok-answer.ensures.state c.act.ensures.state
