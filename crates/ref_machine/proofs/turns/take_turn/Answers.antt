-- SPDX-License-Identifier: Apache-2.0
use Rattle.std.proofs.Common.{◌∙◌, sym}
use Rattle.ref_machine.specs.Meant.{state_of}
use Rattle.ref_machine.proofs.Places.{on_err}
use Rattle.ref_machine.proofs.Rans.{ran_more, ran_short, ran_turn, turn_over}
use Rattle.ref_machine.proofs.Sounds.{sound_ran}
use Rattle.ref_machine.proofs.turns.take_turn.Goals as goal

pub advance-requires-clause-sound : goal.advance-requires-clause-sound
advance-requires-clause-sound g c =
    let i = c.args.code.now in
    let n = c.args.at in
    let l = c.args.limit in
    let c0 = c.args.state.now.count in
    let u0 = state_of c.args.state.now (g.M.Contents.contents c.args.memory.now) in
    let s = c.loop-state.state in
    let u = state_of s (g.M.Contents.contents c.loop-state.memory) in
    let v = c.loop-state.invariant in
    sound_ran i n l c0 u0 s.count u c.requires.sound v.ran

pub loop-state-preserved : goal.loop-state-preserved
loop-state-preserved g c =
    let i = c.args.code.now in
    let n = c.args.at in
    let l = c.args.limit in
    let c0 = c.args.state.now.count in
    let u0 = state_of c.args.state.now (g.M.Contents.contents c.args.memory.now) in
    let s = c.loop-state.state in
    let u = state_of s (g.M.Contents.contents c.loop-state.memory) in
    let v = c.loop-state.invariant in
    record {
      ran = ran_more i n l c0 u0 s.count u c.advance.new.state.count (state_of c.advance.new.state (g.M.Contents.contents c.advance.new.memory)) v.ran c.in_ok-advance.ensures.ok.ran;
      regions = c.advance.ensures.regions ∙ v.regions;
      room = c.advance.ensures.room ∙ v.room;
    }

pub returns-in_err-advance-clause-err : goal.returns-in_err-advance-clause-err
returns-in_err-advance-clause-err g c =
    let i = c.args.code.now in
    let n = c.args.at in
    let l = c.args.limit in
    let c0 = c.args.state.now.count in
    let u0 = state_of c.args.state.now (g.M.Contents.contents c.args.memory.now) in
    let s = c.loop-state.state in
    let u = state_of s (g.M.Contents.contents c.loop-state.memory) in
    let v = c.loop-state.invariant in
    on_err c.from_residual.result _ (ran_short i n l c0 u0 s.count u c.advance.new.state.count (state_of c.advance.new.state (g.M.Contents.contents c.advance.new.memory)) v.ran c.in_err-advance.ensures.err)

pub returns-clause-ok : goal.returns-clause-ok
returns-clause-ok g c =
    let i = c.args.code.now in
    let n = c.args.at in
    let l = c.args.limit in
    let c0 = c.args.state.now.count in
    let u0 = state_of c.args.state.now (g.M.Contents.contents c.args.memory.now) in
    let s = c.loop-state.state in
    let u = state_of s (g.M.Contents.contents c.loop-state.memory) in
    let v = c.loop-state.invariant in
    ran_turn i n l c0 u0 s.count u v.ran (turn_over i n l s.count u (sym c.goes_below.ensures ∙ c.loop-state-test.false))
