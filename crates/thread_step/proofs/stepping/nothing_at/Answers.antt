-- SPDX-License-Identifier: Apache-2.0
use Rattle.std.proofs.Common.{sym, ◌∙◌}
use Rattle.thread_step.proofs.Acting.{illegal_alone, past_alone}
use Rattle.thread_step.proofs.Classes.{nothing_kind, past_kind}
use Rattle.thread_step.proofs.stepping.nothing_at.Goals as goal

pub returns-then-is_end : goal.returns-then-is_end
returns-then-is_end c =
    λ thread. past_alone thread _ _ (past_kind c.args.code.now c.args.at (sym c.is_end.ensures ∙ c.if-is_end.true)) c.trapped.ensures

pub returns-else-is_end : goal.returns-else-is_end
returns-else-is_end c =
    λ thread. illegal_alone thread _ _ (nothing_kind c.args.code.now c.args.at (sym c.is_end.ensures ∙ c.if-is_end.false) c.requires) c.trapped-else-is_end.ensures
