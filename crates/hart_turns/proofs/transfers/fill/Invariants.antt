-- SPDX-License-Identifier: Apache-2.0
use Rattle.std.proofs.Common.{◌≡◌, ◌+◌, take}
use Rattle.sh_machines.specs.Shuffled.{fills}
use Rattle.guest_mem.specs.Held.{words_of, regions_of}
use Rattle.hart_turns.proofs.transfers.fill.Given as goal

abbrev pub invariant-loop-byte : goal.invariant-loop-byte
invariant-loop-byte l =
    record {
      at : l.at ≡ l.address + l.byte-index;
      words : words_of l.memory ≡ fills l.address (take l.byte-index l.bytes) (words_of l.fn.memory);
      regions : regions_of l.memory ≡ regions_of l.fn.memory;
    }
