-- SPDX-License-Identifier: Apache-2.0
use Rattle.std.proofs.Common.{arith}
use Rattle.plain_memory.proofs.Little.{there_put}
use Rattle.plain_memory.proofs.numbers.write_eight.Goals as goal

pub returns : goal.returns
returns c = there_put c.args.bytes.now c.args.at 8 c.args.value c.write_u64.new.buf c.requires (omega arith) c.write_u64.ensures
