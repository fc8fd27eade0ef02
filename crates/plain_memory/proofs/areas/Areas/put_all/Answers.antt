-- SPDX-License-Identifier: Apache-2.0
use Rattle.std.proofs.Common.{◌∙◌, ◌+◌, ap, arith}
use Rattle.std.specs.List.{list_any}
use Rattle.sh_machines.specs.Memory.{is_in_region}
use Rattle.plain_memory.proofs.Places.{same_in}
use Rattle.plain_memory.proofs.Words.{puts_none}
use Rattle.plain_memory.proofs.areas.Areas.put_all.Goals as goal

pub loop-byte-init : goal.loop-byte-init
loop-byte-init c = record { at = omega arith; puts = puts_none c.args.self.now c.args.address c.args.bytes.now }

pub put_byte-requires : goal.put_byte-requires
put_byte-requires c =
    ap (λ x. list_any (is_in_region x) c.loop-byte.self) c.loop-byte.invariant.at
    ∙ same_in c.args.self.now c.loop-byte.self (c.args.address + c.loop-byte.byte-index) c.loop-byte.invariant.puts.same
    ∙ c.requires c.loop-byte.byte-index (omega (arith, c.loop-byte-test.true))
