-- SPDX-License-Identifier: Apache-2.0
use Rattle.std.proofs.Common.{◌≡◌, ◌+◌, ◌∙◌, sym, ap, subst, arith, add-one}
use Rattle.sh_machines.specs.Shuffled.{Shuffled}
use Rattle.hart_turns.specs.Meant.{meant, IsMade, setting_of}
use Rattle.hart_turns.specs.Next.{any_reserved}
use Rattle.hart_turns.proofs.Keeping.{kept_first, kept_more, quiet_done, asked_done, quiet_call, asked_call, quiet_stopped, state_stopped, asked_stopped}
use Rattle.hart_turns.proofs.Reaching.{next_is_here}
use Rattle.hart_turns.proofs.Steps.{step_count}
use Rattle.hart_turns.proofs.stepping.run_to_call.Goals as goal

pub loop-done-init : goal.loop-done-init
loop-done-init g c =
    let k = kept_first (setting_of c.args.code.now) c.args.at (meant c.args.code.now c.args.state.now) (g.F.Fetch.asked c.args.fetch.now) c.requires.reached c.requires.can in
    record { few = omega arith; kept = k; mapped = c.requires.mapped; free = λ e. ap (any_reserved c.args.at) (sym c.deref.ensures.value) ∙ sym c.any_reserved-watched.ensures ∙ e; count = omega arith }

pub advance-requires-clause-next : goal.advance-requires-clause-next
advance-requires-clause-next g c =
    let k = c.loop-done.invariant.kept in
    next_is_here c.laws.ensures c.args.code.now c.prepared_on-from.result.now (meant c.args.code.now c.loop-done.state) c.args.at c.requires.code k.reached k.can
    (subst (λ x. IsMade (setting_of c.args.code.now) x c.prepared_on-from.result.now) (sym k.layout) c.prepared_on-from.ensures)

pub advance-requires-clause-can : goal.advance-requires-clause-can
advance-requires-clause-can g c = c.loop-done.invariant.kept.can

pub advance-requires-clause-count : goal.advance-requires-clause-count
advance-requires-clause-count g c = omega (arith, c.loop-done.invariant.count, c.requires.count, c.loop-done-test.true)

pub loop-done-preserved : goal.loop-done-preserved
loop-done-preserved g c =
    let o = setting_of c.args.code.now in
    let i = c.loop-done.invariant in
    let w = c.in-Went.ensures.steps in
    let k = kept_more o c.args.at c.loop-done.done (meant c.args.code.now c.args.state.now) (meant c.args.code.now c.loop-done.state) (meant c.args.code.now c.advance.new.state) _ _ _ i.kept w c.advance.ensures.asked in
    let n : c.advance.new.state.count ≡ c.loop-done.state.count + 1 = ap (λ (s : Shuffled). s.count) w.step ∙ step_count o (meant c.args.code.now c.loop-done.state) c.args.at i.kept.can in
    rw add-one (record { few = omega (arith, c.loop-done-test.true); kept = k; mapped = c.advance.ensures.mapped; free = λ e. w.free (i.free e); count = omega (arith, n, i.count) })

pub returns-in-Call-clause-quiet : goal.returns-in-Call-clause-quiet
returns-in-Call-clause-quiet g c =
    quiet_call (setting_of c.args.code.now) c.args.at c.args.most c.loop-done.done (meant c.args.code.now c.args.state.now) (meant c.args.code.now c.loop-done.state) (meant c.args.code.now c.advance.new.state) _ _ c.loop-done.invariant.kept c.loop-done-test.true c.in-Call.ensures.steps

pub returns-in-Call-clause-state : goal.returns-in-Call-clause-state
returns-in-Call-clause-state g c = c.in-Call.ensures.steps.still ∙ c.loop-done.invariant.kept.state

pub returns-in-Call-clause-asked : goal.returns-in-Call-clause-asked
returns-in-Call-clause-asked g c =
    asked_call (setting_of c.args.code.now) c.args.at c.args.most c.loop-done.done (meant c.args.code.now c.args.state.now) (meant c.args.code.now c.loop-done.state) _ _ _ c.loop-done.invariant.kept c.loop-done-test.true c.advance.ensures.asked

pub returns-in-Stopped-clause-quiet : goal.returns-in-Stopped-clause-quiet
returns-in-Stopped-clause-quiet g c =
    rw add-one (quiet_stopped (setting_of c.args.code.now) c.args.at c.args.most c.loop-done.done (meant c.args.code.now c.args.state.now) (meant c.args.code.now c.loop-done.state) (meant c.args.code.now c.advance.new.state) _ _ c.loop-done.invariant.kept c.loop-done-test.true c.in-Stopped.ensures.steps)

pub returns-in-Stopped-clause-state : goal.returns-in-Stopped-clause-state
returns-in-Stopped-clause-state g c =
    rw add-one (state_stopped (setting_of c.args.code.now) c.args.at c.loop-done.done (meant c.args.code.now c.args.state.now) (meant c.args.code.now c.loop-done.state) (meant c.args.code.now c.advance.new.state) _ _ c.loop-done.invariant.kept c.in-Stopped.ensures.steps)

pub returns-in-Stopped-clause-asked : goal.returns-in-Stopped-clause-asked
returns-in-Stopped-clause-asked g c =
    rw add-one (asked_stopped (setting_of c.args.code.now) c.args.at c.args.most c.loop-done.done (meant c.args.code.now c.args.state.now) (meant c.args.code.now c.loop-done.state) (meant c.args.code.now c.advance.new.state) _ _ _ c.loop-done.invariant.kept c.in-Stopped.ensures.steps c.advance.ensures.asked)

pub returns-clause-quiet : goal.returns-clause-quiet
returns-clause-quiet g c =
    quiet_done (setting_of c.args.code.now) c.args.at c.args.most c.loop-done.done (meant c.args.code.now c.args.state.now) (meant c.args.code.now c.loop-done.state) _ _ c.loop-done.invariant.kept c.loop-done.invariant.few c.loop-done-test.false

pub returns-clause-state : goal.returns-clause-state
returns-clause-state g c = c.loop-done.invariant.kept.state

pub returns-clause-asked : goal.returns-clause-asked
returns-clause-asked g c =
    asked_done (setting_of c.args.code.now) c.args.at c.args.most c.loop-done.done (meant c.args.code.now c.args.state.now) (meant c.args.code.now c.loop-done.state) _ _ c.loop-done.invariant.kept c.loop-done-test.false
