-- SPDX-License-Identifier: Apache-2.0
use Rattle.std.proofs.Common.{length, arith}
use Rattle.plain_memory.proofs.Stretches.{written_in}
use Rattle.plain_memory.proofs.Words.{fills_is}
use Rattle.plain_memory.proofs.areas.Areas.fill.Goals as goal

pub put_all-requires : goal.put_all-requires
put_all-requires c = λ k l. written_in c.args.self.now c.args.address (length c.args.bytes.now) k c.requires l

pub returns : goal.returns
returns c = fills_is c.args.self.now c.put_all.new.self c.args.address c.args.bytes.now c.laid.ensures (λ k. let h = c.type_inv.bytes k in omega (arith, h)) c.put_all.ensures
