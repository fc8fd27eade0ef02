-- SPDX-License-Identifier: Apache-2.0
use Rattle.std.proofs.Common.{◌≡◌, ℕ, ◌+◌, ◌<◌, length}
use Rattle.std.specs.Prelude.{slice_index}
use Rattle.sh_machines.specs.Memory.{first_byte}
use Rattle.plain_memory.proofs.areas.Areas.gather.Given as goal

abbrev pub invariant-loop-k : goal.invariant-loop-k
invariant-loop-k l =
    record {
      bytes : (j : ℕ) → j < l.k → slice_index l.buffer j ≡ first_byte l.self (l.address + j);
      room : length l.buffer ≡ 8;
    }
