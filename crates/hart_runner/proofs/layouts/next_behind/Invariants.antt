-- SPDX-License-Identifier: Apache-2.0
use Rattle.shuf_machine.specs.Past.{state_of}
use Rattle.hart_runner.proofs.Linking.{NoneBelow}
use Rattle.hart_runner.proofs.layouts.next_behind.Given as goal

abbrev pub invariant-loop-hart : goal.invariant-loop-hart
invariant-loop-hart l = NoneBelow (state_of l.machine).newest (state_of l.machine).harts l.hart
