-- SPDX-License-Identifier: Apache-2.0
use Rattle.std.proofs.Common.{◌<◌, length, arith}
use Rattle.guest_image.proofs.Numbers.{function_more}
use Rattle.guest_image.proofs.literals.all_literals.Goals as goal

pub loop-func-preserved : goal.loop-func-preserved
loop-func-preserved c =
    let l : c.loop-func.func < length c.args.bound.now.image.functions = omega (arith, c.requires.frames) in
    rw c.in_ok-add_function.ensures (function_more c.args.bound.now c.args.frames.now c.loop-func.func c.loop-func.literals.items _ l c.loop-func.invariant)
