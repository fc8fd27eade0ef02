-- SPDX-License-Identifier: Apache-2.0
use Rattle.std.proofs.Common.{sym, ◌∙◌}
use Rattle.thread_step.proofs.Framing.{unframed_kind}
use Rattle.thread_step.proofs.frames.framed.Goals as goal

pub returns-else-loads_ra-clause-kind : goal.returns-else-loads_ra-clause-kind
returns-else-loads_ra-clause-kind c = λ image p.
    c.plain.ensures.kind image p ∙ sym (unframed_kind c.args.row c.args.instr (sym c.stores_ra.ensures ∙ c.if-stores_ra.false) (sym c.loads_ra.ensures ∙ c.if-loads_ra.false))
