-- SPDX-License-Identifier: Apache-2.0
use Rattle.std.proofs.Common.{◌≡◌, ◌+◌, ◌-◌, ◌∙◌, length, min, refl, sym, ap, arith}
use Rattle.sh_machines.specs.Pace.{live_from}
use Rattle.sh_machines.specs.Serial.{first_or, next_from}
use Rattle.thread_acts.specs.Done.{meant}
use Rattle.sh_law.proofs.Lists.{length_map}
use Rattle.ref_machine.specs.Meant.{state_of, threads_of}
use Rattle.ref_machine.proofs.Order.{serving_first, served, serving_on, serving_short}
use Rattle.ref_machine.proofs.Places.{on_err}
use Rattle.ref_machine.proofs.Sounds.{sound_listed}
use Rattle.ref_machine.proofs.turns.run.Goals as goal

pub loop-state-init : goal.loop-state-init
loop-state-init g c =
    record { serving = serving_first c.args.code.now c.args.quantum c.args.steps c.args.state.now.count (state_of c.args.state.now (g.M.Contents.contents c.args.memory.now)) c.requires.steps; regions = refl; room = refl }

pub next_hart-hart-requires : goal.next_hart-hart-requires
next_hart-hart-requires g c =
    let i = c.args.code.now in
    let q = c.args.quantum in
    let steps = c.args.steps in
    let c0 = c.args.state.now.count in
    let u0 = state_of c.args.state.now (g.M.Contents.contents c.args.memory.now) in
    let low = c.loop-state.low in
    let s = c.loop-state.state in
    let x = g.M.Contents.contents c.loop-state.memory in
    let u = state_of s x in
    let v = c.loop-state.invariant.serving in
    let so = sound_listed i v.first c0 u0 s.count u c.requires.sound v.listed in
    omega (arith, so.few, length_map meant s.threads.items, ap length c.deref.ensures.value)

pub take_turn-requires-clause-sound : goal.take_turn-requires-clause-sound
take_turn-requires-clause-sound g c =
    let i = c.args.code.now in
    let q = c.args.quantum in
    let steps = c.args.steps in
    let c0 = c.args.state.now.count in
    let u0 = state_of c.args.state.now (g.M.Contents.contents c.args.memory.now) in
    let low = c.loop-state.low in
    let s = c.loop-state.state in
    let x = g.M.Contents.contents c.loop-state.memory in
    let u = state_of s x in
    let v = c.loop-state.invariant.serving in
    sound_listed i v.first c0 u0 s.count u c.requires.sound v.listed

pub returns-in_err-take_turn-clause-err : goal.returns-in_err-take_turn-clause-err
returns-in_err-take_turn-clause-err g c =
    let i = c.args.code.now in
    let q = c.args.quantum in
    let steps = c.args.steps in
    let c0 = c.args.state.now.count in
    let u0 = state_of c.args.state.now (g.M.Contents.contents c.args.memory.now) in
    let low = c.loop-state.low in
    let s = c.loop-state.state in
    let x = g.M.Contents.contents c.loop-state.memory in
    let u = state_of s x in
    let v = c.loop-state.invariant.serving in
    let so = sound_listed i v.first c0 u0 s.count u c.requires.sound v.listed in
    let h = c.next_hart-hart.result in
    let l = s.count + c.min.result in
    let over = sym (c.is_over.ensures x) ∙ c.loop-state-test.true in
    let eh = c.next_hart-hart.ensures.is ∙ ap (λ ts. next_from low (live_from 0 (threads_of ts)) (first_or 0 (live_from 0 (threads_of ts)))) c.deref.ensures.value in
    let el : l ≡ s.count + min q (steps - s.count) = omega (arith, c.min.ensures, c.from.ensures) in
    let d = c.take_turn.new.state.count in
    let w = state_of c.take_turn.new.state (g.M.Contents.contents c.take_turn.new.memory) in
    on_err c.from_residual.result _ (serving_short i q steps c0 u0 low s.count u h l d w v so c.requires.quantum over eh el c.in_err-take_turn.ensures.err)

pub loop-state-smaller : goal.loop-state-smaller
loop-state-smaller g c =
    let i = c.args.code.now in
    let q = c.args.quantum in
    let steps = c.args.steps in
    let c0 = c.args.state.now.count in
    let u0 = state_of c.args.state.now (g.M.Contents.contents c.args.memory.now) in
    let low = c.loop-state.low in
    let s = c.loop-state.state in
    let x = g.M.Contents.contents c.loop-state.memory in
    let u = state_of s x in
    let v = c.loop-state.invariant.serving in
    let so = sound_listed i v.first c0 u0 s.count u c.requires.sound v.listed in
    let h = c.next_hart-hart.result in
    let l = s.count + c.min.result in
    let over = sym (c.is_over.ensures x) ∙ c.loop-state-test.true in
    let eh = c.next_hart-hart.ensures.is ∙ ap (λ ts. next_from low (live_from 0 (threads_of ts)) (first_or 0 (live_from 0 (threads_of ts)))) c.deref.ensures.value in
    let el : l ≡ s.count + min q (steps - s.count) = omega (arith, c.min.ensures, c.from.ensures) in
    let d = c.take_turn.new.state.count in
    let w = state_of c.take_turn.new.state (g.M.Contents.contents c.take_turn.new.memory) in
    let r = serving_on i q steps c0 u0 low s.count u h l d w v so c.requires.quantum over eh el c.in_ok-take_turn.ensures.ok in
    omega (arith, r.more, r.serving.few)

pub loop-state-preserved : goal.loop-state-preserved
loop-state-preserved g c =
    let i = c.args.code.now in
    let q = c.args.quantum in
    let steps = c.args.steps in
    let c0 = c.args.state.now.count in
    let u0 = state_of c.args.state.now (g.M.Contents.contents c.args.memory.now) in
    let low = c.loop-state.low in
    let s = c.loop-state.state in
    let x = g.M.Contents.contents c.loop-state.memory in
    let u = state_of s x in
    let v = c.loop-state.invariant.serving in
    let so = sound_listed i v.first c0 u0 s.count u c.requires.sound v.listed in
    let h = c.next_hart-hart.result in
    let l = s.count + c.min.result in
    let over = sym (c.is_over.ensures x) ∙ c.loop-state-test.true in
    let eh = c.next_hart-hart.ensures.is ∙ ap (λ ts. next_from low (live_from 0 (threads_of ts)) (first_or 0 (live_from 0 (threads_of ts)))) c.deref.ensures.value in
    let el : l ≡ s.count + min q (steps - s.count) = omega (arith, c.min.ensures, c.from.ensures) in
    let d = c.take_turn.new.state.count in
    let w = state_of c.take_turn.new.state (g.M.Contents.contents c.take_turn.new.memory) in
    let r = serving_on i q steps c0 u0 low s.count u h l d w v so c.requires.quantum over eh el c.in_ok-take_turn.ensures.ok in
    record { serving = r.serving; regions = c.take_turn.ensures.regions ∙ c.loop-state.invariant.regions; room = c.take_turn.ensures.room ∙ c.loop-state.invariant.room }

pub returns-clause-ok : goal.returns-clause-ok
returns-clause-ok g c =
    let i = c.args.code.now in
    let q = c.args.quantum in
    let steps = c.args.steps in
    let c0 = c.args.state.now.count in
    let u0 = state_of c.args.state.now (g.M.Contents.contents c.args.memory.now) in
    let low = c.loop-state.low in
    let s = c.loop-state.state in
    let x = g.M.Contents.contents c.loop-state.memory in
    let u = state_of s x in
    let v = c.loop-state.invariant.serving in
    served i q steps c0 u0 low s.count u v (sym (c.is_over.ensures x) ∙ c.loop-state-test.false)

pub returns-clause-done : goal.returns-clause-done
returns-clause-done g c = sym (c.is_over.ensures (g.M.Contents.contents c.loop-state.memory)) ∙ c.loop-state-test.false
