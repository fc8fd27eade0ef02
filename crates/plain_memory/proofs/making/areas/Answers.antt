-- SPDX-License-Identifier: Apache-2.0
use Rattle.std.proofs.Common.{arith, subst, sym}
use Rattle.plain_memory.specs.Laid.{Laid}
use Rattle.plain_memory.proofs.Places.{all_laid}
use Rattle.plain_memory.proofs.making.areas.Goals as goal

pub from_parts-requires : goal.from_parts-requires
from_parts-requires c =
    let small = rw c.in_ok-areas.ensures.is at c.in_ok-areas.ensures.small in
    subst (Laid 0) (sym c.in_ok-areas.ensures.is) (all_laid 0 c.args.regions.now c.requires.low c.requires.apart c.requires.full small (λ d l. omega arith))
