-- SPDX-License-Identifier: Apache-2.0
use Rattle.std.proofs.Common.{sym, subst}
use Rattle.period_report.specs.Numbered.{IsNumbered}
use Rattle.period_report.proofs.Numbering.{journal_numbered}
use Rattle.period_report.proofs.writer.layouts.Goals as goal

pub events-requires-clause-numbered : goal.events-requires-clause-numbered
events-requires-clause-numbered c =
    subst (λ n. IsNumbered n c.journal.result.now) (sym c.in_ok-text.ensures.newest) (journal_numbered c.args.machine.now.image c.args.machine.now.origin c.journal.result.now c.journal.ensures.legal)
