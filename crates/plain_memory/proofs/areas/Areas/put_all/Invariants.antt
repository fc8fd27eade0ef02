-- SPDX-License-Identifier: Apache-2.0
use Rattle.std.proofs.Common.{◌≡◌, ◌+◌}
use Rattle.plain_memory.specs.Changed.{PutsBytes}
use Rattle.plain_memory.proofs.areas.Areas.put_all.Given as goal

abbrev pub invariant-loop-byte : goal.invariant-loop-byte
invariant-loop-byte l =
    record {
      at : l.at ≡ l.address + l.byte-index;
      puts : PutsBytes l.fn.self l.self l.address l.byte-index l.bytes;
    }
