-- SPDX-License-Identifier: Apache-2.0
use Rattle.hart_runner.specs.Standing.{pace_of}
use Rattle.hart_runner.proofs.Going.{NoneLive}
use Rattle.hart_runner.proofs.harts.live_from.Given as goal

abbrev pub invariant-loop-hart : goal.invariant-loop-hart
invariant-loop-hart l = NoneLive (pace_of l.machine).guest l.low l.hart
