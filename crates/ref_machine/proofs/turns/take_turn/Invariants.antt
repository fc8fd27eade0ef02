-- SPDX-License-Identifier: Apache-2.0
use Rattle.std.proofs.Common.{◌≡◌, ◌-◌}
use Rattle.std.specs.Prelude.{vec_capacity}
use Rattle.ref_machine.specs.Meant.{state_of}
use Rattle.ref_machine.specs.Ran.{Ran}
use Rattle.ref_machine.proofs.turns.take_turn.Given as goal

abbrev pub invariant-loop-state : goal.invariant-loop-state
invariant-loop-state g l =
    record {
      ran : Ran l.code l.at l.limit l.fn.state.count (state_of l.fn.state (g.M.Contents.contents l.fn.memory)) l.state.count (state_of l.state (g.M.Contents.contents l.memory));
      regions : g.M.Contents.regions l.memory ≡ g.M.Contents.regions l.fn.memory;
      room : vec_capacity l.state.threads ≡ vec_capacity l.fn.state.threads;
    }

abbrev pub decreases-loop-state : goal.decreases-loop-state
decreases-loop-state g l = l.limit - l.state.count
