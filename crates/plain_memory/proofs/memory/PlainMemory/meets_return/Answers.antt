-- SPDX-License-Identifier: Apache-2.0
use Rattle.std.proofs.Common.{refl}
use Rattle.plain_memory.proofs.Accesses.{plain}
use Rattle.plain_memory.proofs.Spans.{range_some, range_free, range_empty}
use Rattle.plain_memory.proofs.memory.PlainMemory.meets_return.Goals as goal

pub returns-then-length-gt0 : goal.returns-then-length-gt0
returns-then-length-gt0 c =
    rw (← c.self.view_is)
    (range_some (plain c.self.inside.areas c.self.inside.returns) c.args.address c.args.length c.in-Some.word c.from.result c.from-then-length-gt0.result c.from-then-length-gt0-2.result c.if-length-gt0.true c.in-Some.ensures.some c.in-Some.ensures.from c.in-Some.ensures.first c.from.ensures c.from-then-length-gt0.ensures c.from-then-length-gt0-2.ensures)

pub returns-else-length-gt0 : goal.returns-else-length-gt0
returns-else-length-gt0 c = range_empty c.args.self.now c.args.address c.args.length c.if-length-gt0.false

pub returns-in-None : goal.returns-in-None
returns-in-None c = rw (← c.self.view_is) (range_free (plain c.self.inside.areas c.self.inside.returns) c.args.address c.args.length (c.in-None.ensures.none refl))
