-- SPDX-License-Identifier: Apache-2.0
use Rattle.std.proofs.Common.{ap, arith}
use Rattle.sh_machines.specs.Pace.{Pace}
use Rattle.sh_types.specs.declared.runs.Event.TheVariants.{Run}
use Rattle.pace_law.proofs.Length.{length_few}
use Rattle.hart_runner.specs.Standing.{image_in, pace_of}
use Rattle.hart_runner.proofs.Stills.{pace_next}
use Rattle.hart_runner.proofs.Turns.{turning_first, turning_on}
use Rattle.hart_runner.proofs.serial.take_turn.Goals as goal

pub loop-left-init : goal.loop-left-init
loop-left-init c = (turning_first c.args.machine.now c.args.hart c.args.limit, c.requires)

pub overflow_sub-left : goal.overflow_sub-left
overflow_sub-left c =
    let few = length_few (image_in c.loop-left.machine) c.args.hart c.loop-left.left (pace_of c.loop-left.machine).guest in
    omega (arith, few, c.in_ok-left.ensures.length)

pub loop-left-preserved : goal.loop-left-preserved
loop-left-preserved c =
    let q = c.loop-left.machine in
    let few = length_few (image_in q) c.args.hart c.loop-left.left (pace_of q).guest in
    let more = ap (λ (x : Pace). x.count) (pace_next q c.run.new.machine (Run c.args.hart c.in_ok-left.field-0) c.in_ok-left.ensures.ok) in
    (turning_on c.args.machine.now q c.run.new.machine _ c.args.hart c.loop-left.left c.in_ok-left.field-0 c.loop-left.invariant.0 (omega arith) (cc (c.can_run.ensures, c.if-can_run.true)) c.in_ok-left.ensures.length c.in_ok-left.ensures.ok, omega (arith, few, more, c.in_ok-left.ensures.length, c.loop-left.invariant.1))
