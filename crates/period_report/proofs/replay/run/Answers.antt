-- SPDX-License-Identifier: Apache-2.0
use Rattle.std.proofs.Common.{◌≡◌, ◌+◌, ◌∙◌, refl, length, arith}
use Rattle.std.proofs.lemmas.Bool.Decides.{nat_tests}
use Rattle.sh_machines.specs.Event.{written}
use Rattle.shuf_machine.specs.Past.{state_of}
use Rattle.period_report.specs.Replay.{setting_in}
use Rattle.period_report.proofs.Replaying.{some_allowed, can_on, rest_on, count_on, all_done}
use Rattle.period_report.proofs.replay.run.Goals as goal

pub loop-left-init : goal.loop-left-init
loop-left-init c = record { image = refl; origin = refl; can = c.requires.can; rest = refl; count = refl }

pub run_some-requires-clause-allowed : goal.run_some-requires-clause-allowed
run_some-requires-clause-allowed c =
    some_allowed (setting_in c.loop-left.machine) c.args.hart c.loop-left.left (state_of c.loop-left.machine) (omega (arith, c.loop-left-test.true)) c.loop-left.invariant.can

pub run_some-requires-clause-room : goal.run_some-requires-clause-room
run_some-requires-clause-room c = omega (arith, c.loop-left.invariant.count, c.requires.room)

pub loop-left-preserved : goal.loop-left-preserved
loop-left-preserved c =
    let m = c.loop-left.machine in
    let after = c.in_ok-left.ensures.after in
    let few = c.in_ok-left.ensures.few in
    record {
      image = after.image ∙ c.loop-left.invariant.image;
      origin = after.origin ∙ c.loop-left.invariant.origin;
      can = can_on m c.run_some.new.machine c.args.hart c.loop-left.left c.in_ok-left.field-0 after few c.loop-left.invariant.can;
      rest = rest_on m c.run_some.new.machine c.args.hart c.loop-left.left c.in_ok-left.field-0 after few ∙ c.loop-left.invariant.rest;
      count = count_on m c.run_some.new.machine c.args.hart c.loop-left.left c.in_ok-left.field-0 (length (written c.args.machine.now.journal) + c.args.count) after few c.loop-left.invariant.count;
    }

pub returns : goal.returns
returns c =
    let zero : c.loop-left.left ≡ 0 = grind (arith, nat_tests, c.loop-left-test.false) in
    all_done c.args.machine.now c.loop-left.machine c.args.hart c.loop-left.left c.args.count c.loop-left.invariant.image c.loop-left.invariant.origin zero c.loop-left.invariant.rest c.loop-left.invariant.count
