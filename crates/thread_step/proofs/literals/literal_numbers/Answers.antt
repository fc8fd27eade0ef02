-- SPDX-License-Identifier: Apache-2.0
use Rattle.std.proofs.Common.{◌≡◌, arith, length, subst, sym}
use Rattle.sh_types.specs.Image.{sizes_of}
use Rattle.thread_step.specs.Numbered.{AreNumbered}
use Rattle.thread_step.proofs.Numbering.{below_none, numbered_none, sizes_many}
use Rattle.thread_step.proofs.literals.literal_numbers.Goals as goal

pub loop-func-init : goal.loop-func-init
loop-func-init c =
    record {
      all = rw c.in_ok-all.ensures.items (numbered_none c.args.image.now);
      first = sym (below_none c.args.image.now);
    }

pub numbers_of-requires-clause-func : goal.numbers_of-requires-clause-func
numbers_of-requires-clause-func c = omega (arith, sizes_many c.args.image.now)

pub overflow_cast-func : goal.overflow_cast-func
overflow_cast-func c = omega (arith, sizes_many c.args.image.now, c.requires.sized.few)

pub returns : goal.returns
returns c =
    let all : c.loop-func.func ≡ length (sizes_of c.args.image.now) = omega (arith, sizes_many c.args.image.now) in
    rw c.from_vec.ensures (subst (λ n. AreNumbered c.args.image.now n c.loop-func.all.items) all c.loop-func.invariant.all)
