-- SPDX-License-Identifier: Apache-2.0
use Rattle.std.proofs.Common.{arith}
use Rattle.image_binding.specs.Binds.{source}
use Rattle.image_binding.proofs.Classing.{one_more_function}
use Rattle.image_binding.proofs.classes.all_sites.Goals as goal

pub loop-i-preserved : goal.loop-i-preserved
loop-i-preserved c =
    rw c.in_ok-push.ensures.items
    (one_more_function (source c.args.binding.now c.args.words.now c.args.entry) c.loop-i.i c.args.binding.now.functions c.loop-i.sites.items _ _ (omega (arith, c.requires.many)) c.in_ok-function_sites.ensures c.loop-i.invariant)
