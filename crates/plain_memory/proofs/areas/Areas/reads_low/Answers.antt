-- SPDX-License-Identifier: Apache-2.0
use Rattle.plain_memory.proofs.Stretches.{reads_low}
use Rattle.plain_memory.proofs.areas.Areas.reads_low.Goals as goal

pub returns : goal.returns
returns c =
    let r = rw (← c.self.view_is) at c.requires.readable in
    reads_low c.self.inside.areas.items c.args.address c.args.length c.self.invariant r c.requires.some
