-- SPDX-License-Identifier: Apache-2.0
use Rattle.std.proofs.Common.{sym, ◌∙◌}
use Rattle.thread_step.proofs.Classes.{class_kind, nothing_inside}
use Rattle.thread_step.proofs.sites.task_at.Goals as goal

pub returns-in-Some : goal.returns-in-Some
returns-in-Some c =
    record {
      kind = c.task_of.ensures.kind ∙ sym (class_kind c.args.image.now c.args.at c.in-Some.instr c.requires.inside (sym c.in-Some.ensures.is));
      doable = c.task_of.ensures.doable;
    }

pub returns-in-None : goal.returns-in-None
returns-in-None c =
    record {
      kind = sym (nothing_inside c.args.image.now c.args.at c.requires.inside (sym c.in-None.ensures.is));
      doable = tt;
    }
