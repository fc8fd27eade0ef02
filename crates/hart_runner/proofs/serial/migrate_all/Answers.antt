-- SPDX-License-Identifier: Apache-2.0
use Rattle.std.proofs.Common.{sym, ◌∙◌}
use Rattle.hart_runner.proofs.Boundaries.{moving_on}
use Rattle.hart_runner.proofs.serial.migrate_all.Goals as goal

pub loop-hart-smaller : goal.loop-hart-smaller
loop-hart-smaller g c =
    (moving_on c.args.machine.now c.loop-hart.machine c.migrate.new.machine _ c.in-Some.hart c.loop-hart.invariant (sym c.next_behind.ensures ∙ c.in-Some.is) c.in_ok-migrate.ensures.ok).fewer

pub loop-hart-preserved : goal.loop-hart-preserved
loop-hart-preserved g c =
    (moving_on c.args.machine.now c.loop-hart.machine c.migrate.new.machine _ c.in-Some.hart c.loop-hart.invariant (sym c.next_behind.ensures ∙ c.in-Some.is) c.in_ok-migrate.ensures.ok).moving
