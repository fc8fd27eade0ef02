-- SPDX-License-Identifier: Apache-2.0
use Rattle.asm_places.specs.Maps.{has_at}
use Rattle.rv_asm.proofs.Reaching.{checked_fit}
use Rattle.rv_asm.proofs.data.text_of.Goals as goal

pub text_with-requires-clause-fit : goal.text_with-requires-clause-fit
text_with-requires-clause-fit c =
    checked_fit (has_at c.in_ok-targets.targets) c.last_place.result c.args.items.now c.requires.checked c.last_place.ensures.place c.in_ok-targets.ensures
