-- SPDX-License-Identifier: Apache-2.0
use Rattle.std.proofs.Common.{◌≡◌, ◌+◌, ◌∙◌, true, sym, ap, subst, arith}
use Rattle.sh_machines.specs.Event.{instructions, can_run}
use Rattle.sh_machines.specs.Shuffled.{Shuffled, shuffled_step}
use Rattle.hart_turns.specs.Meant.{meant, setting_of}
use Rattle.hart_turns.specs.Next.{IsReached, next_outcome}
use Rattle.hart_turns.proofs.Keeping.{run_quiet, first_is_call, asked_first, run_of, asked_whole}
use Rattle.hart_turns.proofs.Reaching.{reached_more}
use Rattle.hart_turns.proofs.Steps.{step_count}
use Rattle.hart_turns.proofs.stepping.run_hart.Goals as goal

pub returns-then-done-gt0-clause-run : goal.returns-then-done-gt0-clause-run
returns-then-done-gt0-clause-run g c =
    run_quiet (setting_of c.args.code.now) c.args.at c.args.limit c.run_to_call-done.result (meant c.args.code.now c.args.state.now) (meant c.args.code.now c.run_to_call-done.new.state) c.if-done-gt0.true c.run_to_call-done.ensures.quiet c.run_to_call-done.ensures.state

pub call-requires-clause-reached : goal.call-requires-clause-reached
call-requires-clause-reached g c =
    let o = setting_of c.args.code.now in
    let z : c.run_to_call-done.result ≡ 0 = omega (arith, c.if-done-gt0.false) in
    let e : meant c.args.code.now c.run_to_call-done.new.state ≡ meant c.args.code.now c.args.state.now = c.run_to_call-done.ensures.state ∙ ap (λ k. instructions o c.args.at k (meant c.args.code.now c.args.state.now)) z in
    subst (IsReached o) (sym e) c.requires.reached

pub call-requires-clause-can : goal.call-requires-clause-can
call-requires-clause-can g c =
    let o = setting_of c.args.code.now in
    let z : c.run_to_call-done.result ≡ 0 = omega (arith, c.if-done-gt0.false) in
    let e : meant c.args.code.now c.run_to_call-done.new.state ≡ meant c.args.code.now c.args.state.now = c.run_to_call-done.ensures.state ∙ ap (λ k. instructions o c.args.at k (meant c.args.code.now c.args.state.now)) z in
    subst (λ x. can_run x c.args.at ≡ true) (sym e) c.requires.can

pub call-requires-clause-next : goal.call-requires-clause-next
call-requires-clause-next g c =
    let o = setting_of c.args.code.now in
    let z : c.run_to_call-done.result ≡ 0 = omega (arith, c.if-done-gt0.false) in
    let e : meant c.args.code.now c.run_to_call-done.new.state ≡ meant c.args.code.now c.args.state.now = c.run_to_call-done.ensures.state ∙ ap (λ k. instructions o c.args.at k (meant c.args.code.now c.args.state.now)) z in
    ap (next_outcome o c.args.at) e ∙ first_is_call o c.args.at c.args.limit c.run_to_call-done.result (meant c.args.code.now c.args.state.now) z c.requires.some c.requires.can c.run_to_call-done.ensures.quiet

pub call-requires-clause-count : goal.call-requires-clause-count
call-requires-clause-count g c =
    let o = setting_of c.args.code.now in
    let z : c.run_to_call-done.result ≡ 0 = omega (arith, c.if-done-gt0.false) in
    let e : meant c.args.code.now c.run_to_call-done.new.state ≡ meant c.args.code.now c.args.state.now = c.run_to_call-done.ensures.state ∙ ap (λ k. instructions o c.args.at k (meant c.args.code.now c.args.state.now)) z in
    let n : c.run_to_call-done.new.state.count ≡ c.args.state.now.count = ap (λ (s : Shuffled). s.count) e in
    omega (arith, n, c.requires.count, c.requires.some)

pub run_to_call-requires-clause-reached : goal.run_to_call-requires-clause-reached
run_to_call-requires-clause-reached g c =
    let o = setting_of c.args.code.now in
    let s : Shuffled = meant c.args.code.now c.args.state.now in
    let z : c.run_to_call-done.result ≡ 0 = omega (arith, c.if-done-gt0.false) in
    let e : meant c.args.code.now c.run_to_call-done.new.state ≡ s = c.run_to_call-done.ensures.state ∙ ap (λ k. instructions o c.args.at k s) z in
    subst (IsReached o) (sym (c.in_ok-call.ensures.done ∙ ap (shuffled_step o c.args.at) e)) (reached_more o c.args.at s c.requires.reached c.requires.can)

pub run_to_call-requires-clause-count : goal.run_to_call-requires-clause-count
run_to_call-requires-clause-count g c =
    let o = setting_of c.args.code.now in
    let s : Shuffled = meant c.args.code.now c.args.state.now in
    let z : c.run_to_call-done.result ≡ 0 = omega (arith, c.if-done-gt0.false) in
    let e : meant c.args.code.now c.run_to_call-done.new.state ≡ s = c.run_to_call-done.ensures.state ∙ ap (λ k. instructions o c.args.at k s) z in
    let n : c.call.new.state.count ≡ c.args.state.now.count + 1 = ap (λ (x : Shuffled). x.count) (c.in_ok-call.ensures.done ∙ ap (shuffled_step o c.args.at) e) ∙ step_count o s c.args.at c.requires.can in
    omega (arith, n, c.requires.count, c.requires.some)

pub returns-clause-run : goal.returns-clause-run
returns-clause-run g c =
    let o = setting_of c.args.code.now in
    let s : Shuffled = meant c.args.code.now c.args.state.now in
    let z : c.run_to_call-done.result ≡ 0 = omega (arith, c.if-done-gt0.false) in
    let e : meant c.args.code.now c.run_to_call-done.new.state ≡ s = c.run_to_call-done.ensures.state ∙ ap (λ k. instructions o c.args.at k s) z in
    run_of o c.args.at c.args.limit c.run_to_call.result (1 + c.run_to_call.result) s (meant c.args.code.now c.call.new.state) (meant c.args.code.now c.run_to_call.new.state) (omega arith) c.requires.some c.requires.can (c.in_ok-call.ensures.done ∙ ap (shuffled_step o c.args.at) e) c.run_to_call.ensures.quiet c.run_to_call.ensures.state

pub returns-clause-asked : goal.returns-clause-asked
returns-clause-asked g c =
    let o = setting_of c.args.code.now in
    let s : Shuffled = meant c.args.code.now c.args.state.now in
    let z : c.run_to_call-done.result ≡ 0 = omega (arith, c.if-done-gt0.false) in
    let e : meant c.args.code.now c.run_to_call-done.new.state ≡ s = c.run_to_call-done.ensures.state ∙ ap (λ k. instructions o c.args.at k s) z in
    asked_whole o c.args.at c.args.limit c.run_to_call.result (1 + c.run_to_call.result) s (meant c.args.code.now c.call.new.state) _ _ _ (omega arith) c.requires.some (c.in_ok-call.ensures.done ∙ ap (shuffled_step o c.args.at) e)
    (asked_first o c.args.at c.args.limit c.run_to_call-done.result s _ _ z c.requires.some c.requires.can c.run_to_call-done.ensures.asked) c.run_to_call.ensures.asked
