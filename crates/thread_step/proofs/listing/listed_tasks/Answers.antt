-- SPDX-License-Identifier: Apache-2.0
use Rattle.std.proofs.Common.{◌≡◌, arith, length, subst}
use Rattle.sh_types.specs.Image.{sizes_of}
use Rattle.thread_step.specs.Listed.{AreListed}
use Rattle.thread_step.proofs.Numbering.{sizes_many}
use Rattle.thread_step.proofs.listing.listed_tasks.Goals as goal

pub overflow_cast-func : goal.overflow_cast-func
overflow_cast-func c = omega (arith, sizes_many c.args.image.now, c.requires.sized.few)

pub returns : goal.returns
returns c =
    let all : c.loop-func.func ≡ length (sizes_of c.args.image.now) = omega (arith, sizes_many c.args.image.now) in
    rw c.from_vec.ensures (subst (λ n. AreListed c.args.image.now n c.loop-func.all.items) all c.loop-func.invariant)
