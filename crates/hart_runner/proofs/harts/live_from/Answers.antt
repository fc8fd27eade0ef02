-- SPDX-License-Identifier: Apache-2.0
use Rattle.std.proofs.Common.{sym, subst, arith}
use Rattle.sh_machines.specs.StandsFor.{StandsFor}
use Rattle.shuf_machine.specs.Past.{state_of}
use Rattle.shuf_machine.specs.Run.{setting_of}
use Rattle.hart_runner.specs.Standing.{image_in, pace_of}
use Rattle.hart_runner.proofs.Going.{none_all}
use Rattle.hart_runner.proofs.Written.{pace_guest}
use Rattle.hart_runner.proofs.harts.live_from.Goals as goal

pub returns-clause-none : goal.returns-clause-none
returns-clause-none c =
    let m = c.args.machine.now in
    let o = setting_of m.image m.origin in
    none_all o (state_of m) (pace_of m).guest c.args.low c.loop-hart.hart (subst (StandsFor o (state_of m)) (sym (pace_guest (image_in m) m.origin.input m.journal)) c.machines_stand.ensures.stands) c.loop-hart.invariant (omega (arith, c.started-hart-end.ensures, c.loop-hart-test.false))
