-- SPDX-License-Identifier: Apache-2.0
use Rattle.std.proofs.Common.{◌≡◌, drop}
use Rattle.ref_machine.specs.Losing.{any_reserved}
use Rattle.ref_machine.specs.Meant.{threads_of}
use Rattle.ref_machine.proofs.losing.any_reserved.Given as goal

abbrev pub invariant-loop-thread : goal.invariant-loop-thread
invariant-loop-thread l = any_reserved l.at (threads_of (drop l.thread-index l.threads)) ≡ any_reserved l.at (threads_of l.threads)
