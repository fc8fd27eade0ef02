-- SPDX-License-Identifier: Apache-2.0
use Rattle.std.proofs.Common.{sym, ◌∙◌}
use Rattle.guest_image.proofs.Recorded.{before_all}
use Rattle.guest_image.proofs.records.refused_by.Goals as goal

pub returns-in-None : goal.returns-in-None
returns-in-None c = before_all c.args.functions.now c.args.entry c.args.reloc.now c.in-Some.address (sym c.named_by.ensures ∙ c.in-Some.is) c.in-None.ensures
