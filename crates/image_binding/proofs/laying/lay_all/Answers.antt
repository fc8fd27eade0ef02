-- SPDX-License-Identifier: Apache-2.0
use Rattle.std.proofs.Common.{arith}
use Rattle.image_binding.specs.Binds.{no_token}
use Rattle.image_binding.proofs.Laid.{end_laid, next_laid, start_laid}
use Rattle.image_binding.proofs.laying.lay_all.Goals as goal

pub loop-i-init : goal.loop-i-init
loop-i-init c = start_laid c.args.tokens.now c.args.from _

pub loop-i-preserved : goal.loop-i-preserved
loop-i-preserved c = next_laid c.args.tokens.now _ no_token c.args.from _ _ _ c.loop-i-test.true c.loop-i.invariant c.lay_token.ensures

pub returns : goal.returns
returns c = end_laid c.args.tokens.now _ c.args.from _ _ (omega arith) c.loop-i.invariant
