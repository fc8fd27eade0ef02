-- SPDX-License-Identifier: Apache-2.0
use Rattle.std.proofs.Common.{◌≡◌, drop}
use Rattle.sh_machines.specs.Unmoved.{any_alive}
use Rattle.ref_machine.specs.Meant.{threads_of}
use Rattle.ref_machine.proofs.finishing.any_live.Given as goal

abbrev pub invariant-loop-thread : goal.invariant-loop-thread
invariant-loop-thread l = any_alive (threads_of (drop l.thread-index l.threads)) ≡ any_alive (threads_of l.threads)
