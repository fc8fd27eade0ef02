-- SPDX-License-Identifier: Apache-2.0
use Rattle.std.proofs.Common.{◌≤◌, ◌+◌, ◌-◌}
use Rattle.std.specs.Prelude.{vec_capacity, vec_len}
use Rattle.guest_mem.specs.Held.{plain_of}
use Rattle.hart_turns.proofs.Bytes.{IsRest}
use Rattle.hart_turns.proofs.transfers.append.Given as goal

abbrev pub invariant-loop-k : goal.invariant-loop-k
invariant-loop-k l =
    record {
      rest : IsRest (plain_of l.memory) l.address l.length l.k l.initial.output.items l.output.items;
      room : vec_len l.output + (l.length - l.k) ≤ vec_capacity l.output;
    }
