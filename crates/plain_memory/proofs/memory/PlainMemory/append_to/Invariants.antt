-- SPDX-License-Identifier: Apache-2.0
use Rattle.std.proofs.Common.{◌≤◌, ◌+◌, ◌-◌}
use Rattle.std.specs.Prelude.{vec_capacity, vec_len}
use Rattle.plain_memory.specs.Access.{plain_in}
use Rattle.plain_memory.specs.Plain.{contents_of}
use Rattle.plain_memory.proofs.Spans.{IsRest}
use Rattle.plain_memory.proofs.memory.PlainMemory.append_to.Given as goal

abbrev pub invariant-loop-k : goal.invariant-loop-k
invariant-loop-k l =
    record {
      rest : IsRest (plain_in (contents_of l.self)) l.address l.length l.k l.initial.output.items l.output.items;
      room : vec_len l.output + (l.length - l.k) ≤ vec_capacity l.output;
    }
