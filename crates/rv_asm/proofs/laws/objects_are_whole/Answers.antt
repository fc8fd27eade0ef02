-- SPDX-License-Identifier: Apache-2.0
use Rattle.rv_asm.proofs.Gathering.{whole}
use Rattle.rv_asm.proofs.laws.objects_are_whole.Goals as goal

pub returns : goal.returns
returns c = whole c.statements_lie_in_their_text.ensures
