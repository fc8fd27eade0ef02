-- SPDX-License-Identifier: Apache-2.0
use Rattle.std.proofs.Common.{◌≡◌, ◌++◌, take, drop}
use Rattle.std.specs.Prelude.{map}
use Rattle.ref_machine.specs.Losing.{loses}
use Rattle.ref_machine.proofs.losing.lose.Given as goal

abbrev pub invariant-loop-thread : goal.invariant-loop-thread
invariant-loop-thread l = take l.thread-index l.threads ++ map (loses l.at l.stored) (drop l.thread-index l.threads) ≡ map (loses l.at l.stored) l.fn.threads
