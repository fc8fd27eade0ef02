-- SPDX-License-Identifier: Apache-2.0
use Rattle.image_binding.proofs.Laid.{all_laid}
use Rattle.image_binding.proofs.laying.lay.Goals as goal

pub returns : goal.returns
returns c = all_laid _ c.args.tokens.now c.args.from _ _ c.within-inside.ensures.found c.lay_all.ensures
