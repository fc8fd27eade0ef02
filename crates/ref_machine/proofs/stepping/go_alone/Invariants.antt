-- SPDX-License-Identifier: Apache-2.0
use Rattle.std.proofs.Common.{◌≡◌, ℕ, ◌-◌, ◌≤◌}
use Rattle.sh_machines.specs.Unmoved.{Unmoved}
use Rattle.thread_acts.specs.Done.{meant}
use Rattle.ref_machine.specs.Next.{IsAt, IsAlone}
use Rattle.ref_machine.proofs.stepping.go_alone.Given as goal

abbrev pub invariant-loop-count : goal.invariant-loop-count
invariant-loop-count g l =
    record {
      alone : (n : ℕ) (u : Unmoved) → IsAt n l.watched u (meant l.fn.thread) (g.M.Contents.contents l.fn.memory) → IsAlone l.code n l.limit l.fn.count l.count u (meant l.thread) (g.M.Contents.contents l.memory);
      few : l.count ≤ l.limit;
      regions : g.M.Contents.regions l.memory ≡ g.M.Contents.regions l.fn.memory;
    }

abbrev pub decreases-loop-count : goal.decreases-loop-count
decreases-loop-count g l = l.limit - l.count
