-- SPDX-License-Identifier: Apache-2.0
use Rattle.std.proofs.Common.{◌≡◌, ◌++◌, false, ap, ◌∙◌, arith}
use Rattle.sh_machines.specs.Serial.{is_done, turn_limit}
use Rattle.shuf_machine.specs.Past.{Past}
use Rattle.hart_runner.specs.Plans.{schedule_of}
use Rattle.hart_runner.specs.Standing.{pace_of}
use Rattle.hart_runner.proofs.Opening.{from_opening}
use Rattle.hart_runner.proofs.Rounds.{serving_broken, serving_cut, served}
use Rattle.hart_runner.proofs.Running.{all_of, begins, running_first, made_ready, running_on, cut_paced}
use Rattle.hart_runner.proofs.Stills.{on_err}
use Rattle.hart_runner.proofs.serial.run_serial.Goals as goal

pub loop-alloc-init : goal.loop-alloc-init
loop-alloc-init g c =
    let s = schedule_of c.args.plan.now in
    let p = c.args.machine.now in
    running_first s p c.requires.paced (begins s p c.machines_stand.ensures.setting c.machines_stand.ensures.legal c.requires.paced c.requires.few)

pub returns-in_err-make_ready-clause-err : goal.returns-in_err-make_ready-clause-err
returns-in_err-make_ready-clause-err g c =
    let s = schedule_of c.args.plan.now in
    let p = c.args.machine.now in
    let q = c.loop-alloc.machine in
    let d : is_done s (pace_of q) ≡ false = cc (c.is_done.ensures, c.loop-alloc-test.true) in
    on_err _ (serving_broken p q c.make_ready.new.machine s (all_of s p) c.loop-alloc.low c.loop-alloc.invariant.serving d c.in_err-make_ready.ensures.err)

pub returns-in_err-make_ready-clause-paced : goal.returns-in_err-make_ready-clause-paced
returns-in_err-make_ready-clause-paced g c =
    let s = schedule_of c.args.plan.now in
    let p = c.args.machine.now in
    let q = c.loop-alloc.machine in
    let d : is_done s (pace_of q) ≡ false = cc (c.is_done.ensures, c.loop-alloc-test.true) in
    cut_paced s p c.make_ready.new.machine c.requires.paced c.requires.period (begins s p c.machines_stand.ensures.setting c.machines_stand.ensures.legal c.requires.paced c.requires.few) (serving_broken p q c.make_ready.new.machine s (all_of s p) c.loop-alloc.low c.loop-alloc.invariant.serving d c.in_err-make_ready.ensures.err)

pub next_hart-hart-requires : goal.next_hart-hart-requires
next_hart-hart-requires g c =
    let s = schedule_of c.args.plan.now in
    let p = c.args.machine.now in
    let q = c.loop-alloc.machine in
    let d : is_done s (pace_of q) ≡ false = cc (c.is_done.ensures, c.loop-alloc-test.true) in
    (made_ready s p q c.make_ready.new.machine c.loop-alloc.low c.loop-alloc.invariant c.requires.period c.requires.small d c.in_ok-make_ready.ensures.ok).goes

pub limit_at-limit-requires-clause-few : goal.limit_at-limit-requires-clause-few
limit_at-limit-requires-clause-few g c =
    let s = schedule_of c.args.plan.now in
    let p = c.args.machine.now in
    let q = c.loop-alloc.machine in
    let d : is_done s (pace_of q) ≡ false = cc (c.is_done.ensures, c.loop-alloc-test.true) in
    let t = made_ready s p q c.make_ready.new.machine c.loop-alloc.low c.loop-alloc.invariant c.requires.period c.requires.small d c.in_ok-make_ready.ensures.ok in
    omega (arith, t.few, c.count.ensures)

pub returns-in_err-take_turn-clause-err : goal.returns-in_err-take_turn-clause-err
returns-in_err-take_turn-clause-err g c =
    let s = schedule_of c.args.plan.now in
    let p = c.args.machine.now in
    let q = c.loop-alloc.machine in
    let d : is_done s (pace_of q) ≡ false = cc (c.is_done.ensures, c.loop-alloc-test.true) in
    let r = c.make_ready.new.machine in
    let m : c.limit_at-limit.result ≡ turn_limit s (pace_of r).count = c.limit_at-limit.ensures ∙ ap (turn_limit s) c.count.ensures in
    on_err _ (serving_cut p q r c.take_turn.new.machine s (all_of s p) c.loop-alloc.low c.next_hart-hart.result c.limit_at-limit.result c.loop-alloc.invariant.serving d c.in_ok-make_ready.ensures.ok c.next_hart-hart.ensures.is m c.in_err-take_turn.ensures.err)

pub returns-in_err-take_turn-clause-paced : goal.returns-in_err-take_turn-clause-paced
returns-in_err-take_turn-clause-paced g c =
    let s = schedule_of c.args.plan.now in
    let p = c.args.machine.now in
    let q = c.loop-alloc.machine in
    let d : is_done s (pace_of q) ≡ false = cc (c.is_done.ensures, c.loop-alloc-test.true) in
    let r = c.make_ready.new.machine in
    let m : c.limit_at-limit.result ≡ turn_limit s (pace_of r).count = c.limit_at-limit.ensures ∙ ap (turn_limit s) c.count.ensures in
    cut_paced s p c.take_turn.new.machine c.requires.paced c.requires.period (begins s p c.machines_stand.ensures.setting c.machines_stand.ensures.legal c.requires.paced c.requires.few) (serving_cut p q r c.take_turn.new.machine s (all_of s p) c.loop-alloc.low c.next_hart-hart.result c.limit_at-limit.result c.loop-alloc.invariant.serving d c.in_ok-make_ready.ensures.ok c.next_hart-hart.ensures.is m c.in_err-take_turn.ensures.err)

pub loop-alloc-smaller : goal.loop-alloc-smaller
loop-alloc-smaller g c =
    let s = schedule_of c.args.plan.now in
    let p = c.args.machine.now in
    let q = c.loop-alloc.machine in
    let d : is_done s (pace_of q) ≡ false = cc (c.is_done.ensures, c.loop-alloc-test.true) in
    let r = c.make_ready.new.machine in
    let m : c.limit_at-limit.result ≡ turn_limit s (pace_of r).count = c.limit_at-limit.ensures ∙ ap (turn_limit s) c.count.ensures in
    let n = running_on s p q r c.take_turn.new.machine c.loop-alloc.low c.next_hart-hart.result c.limit_at-limit.result c.loop-alloc.invariant c.requires.period c.requires.quantum c.requires.small d c.in_ok-make_ready.ensures.ok c.next_hart-hart.ensures.is m c.next_hart-hart.ensures.live c.in_ok-take_turn.ensures.ok in
    omega (arith, n.more, n.running.serving.few)

pub loop-alloc-preserved : goal.loop-alloc-preserved
loop-alloc-preserved g c =
    let s = schedule_of c.args.plan.now in
    let p = c.args.machine.now in
    let q = c.loop-alloc.machine in
    let d : is_done s (pace_of q) ≡ false = cc (c.is_done.ensures, c.loop-alloc-test.true) in
    let r = c.make_ready.new.machine in
    let m : c.limit_at-limit.result ≡ turn_limit s (pace_of r).count = c.limit_at-limit.ensures ∙ ap (turn_limit s) c.count.ensures in
    (running_on s p q r c.take_turn.new.machine c.loop-alloc.low c.next_hart-hart.result c.limit_at-limit.result c.loop-alloc.invariant c.requires.period c.requires.quantum c.requires.small d c.in_ok-make_ready.ensures.ok c.next_hart-hart.ensures.is m c.next_hart-hart.ensures.live c.in_ok-take_turn.ensures.ok).running

pub returns-clause-ok : goal.returns-clause-ok
returns-clause-ok g c =
    let s = schedule_of c.args.plan.now in
    let p = c.args.machine.now in
    served p c.loop-alloc.machine s (all_of s p) c.loop-alloc.low c.loop-alloc.invariant.serving (cc (c.is_done.ensures, c.loop-alloc-test.false))

pub returns-clause-serial : goal.returns-clause-serial
returns-clause-serial g c = λ e.
    let s = schedule_of c.args.plan.now in
    let p = c.args.machine.now in
    let all = served p c.loop-alloc.machine s (all_of s p) c.loop-alloc.low c.loop-alloc.invariant.serving (cc (c.is_done.ensures, c.loop-alloc-test.false)) in
    ap (λ (x : Past). x.journal) all ∙ ap (λ j. j ++ all_of s p) e ∙ from_opening s p e
