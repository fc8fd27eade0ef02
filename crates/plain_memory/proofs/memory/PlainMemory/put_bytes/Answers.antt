-- SPDX-License-Identifier: Apache-2.0
use Rattle.plain_memory.proofs.Spans.{contents_filled, plain_filled}
use Rattle.plain_memory.proofs.memory.PlainMemory.put_bytes.Goals as goal

pub invariant_of-self : goal.invariant_of-self
invariant_of-self c =
    let some = rw (← c.self.view_is) at c.requires.plain in
    plain_filled c.self.inside.areas c.fill.new.self c.self.inside.returns c.args.address c.args.bytes.now c.self.invariant c.fill.ensures some

pub returns-clause-contents : goal.returns-clause-contents
returns-clause-contents c = rw (← c.self.view_is) (contents_filled c.self.inside.areas c.fill.new.self c.self.inside.returns c.args.address c.args.bytes.now c.fill.ensures)
