-- SPDX-License-Identifier: Apache-2.0
use Rattle.std.proofs.Common.{◌≡◌, true, sym, subst, arith}
use Rattle.std.specs.Prelude.{slice_get}
use Rattle.sh_machines.specs.Event.{written}
use Rattle.sh_machines.specs.Pace.{live_from}
use Rattle.sh_machines.specs.Serial.{first_or, next_hart}
use Rattle.sh_machines.specs.Unmoved.{Unmoved, goes_still, is_alive, can_go}
use Rattle.hart_runner.specs.Standing.{image_in, pace_of}
use Rattle.hart_runner.proofs.Numbers.{next_is, next_again}
use Rattle.hart_runner.proofs.Tests.{and_second}
use Rattle.hart_runner.proofs.Written.{pace_guest}
use Rattle.hart_runner.proofs.harts.next_hart.Goals as goal

pub returns-in-Some-clause-is : goal.returns-in-Some-clause-is
returns-in-Some-clause-is c =
    let ts = (pace_of c.args.machine.now).guest.threads in
    sym (next_is ts c.args.low c.in-Some.hart (first_or 0 (live_from 0 ts)) c.in-Some.ensures.live c.in-Some.ensures.from c.in-Some.ensures.least)

pub returns-in-Some-live_from-clause-is : goal.returns-in-Some-live_from-clause-is
returns-in-Some-live_from-clause-is c =
    sym (next_again (pace_of c.args.machine.now).guest.threads c.args.low c.in-Some-live_from.hart c.in-None.ensures.none c.in-Some-live_from.ensures.live c.in-Some-live_from.ensures.least)

pub unreachable-requires : goal.unreachable-requires
unreachable-requires c =
    let m = c.args.machine.now in
    let u = (pace_of m).guest in
    let P : Unmoved → Type 0 = λ v. goes_still v.end ≡ true → can_go v (next_hart 0 v) ≡ true in
    let can : can_go u (next_hart 0 u) ≡ true = subst P (sym (pace_guest (image_in m) m.origin.input m.journal)) (λ g. c.the_next_hart_can_go.ensures (image_in m) m.origin.input (written m.journal) 0 g) c.requires in
    cc (and_second (goes_still u.end) (is_alive (slice_get u.threads (next_hart 0 u))) can, c.in-None-live_from.ensures.none (next_hart 0 u) (omega arith))
