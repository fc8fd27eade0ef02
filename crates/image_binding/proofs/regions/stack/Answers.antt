-- SPDX-License-Identifier: Apache-2.0
use Rattle.image_binding.proofs.Stack.{stack_is}
use Rattle.image_binding.proofs.regions.stack.Goals as goal

pub returns : goal.returns
returns c = rw c.in_ok-zeros.ensures (stack_is c.args.size c.requires)
