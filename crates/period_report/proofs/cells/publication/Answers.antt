-- SPDX-License-Identifier: Apache-2.0
use Rattle.period_report.proofs.Counting.{kept_next}
use Rattle.period_report.proofs.cells.publication.Goals as goal

pub returns-clause-kept : goal.returns-clause-kept
returns-clause-kept c =
    record {
      few = c.in_ok-keep.ensures.few;
      recent = kept_next c.args.seed.now c.args.cells.now.recent.items c.keep.new.recent.items c.args.cells.now.newest c.args.number c.cell_at-cell.result c.requires.kept.recent c.requires.next c.cell_at-cell.ensures.is c.in_ok-keep.ensures.kept;
    }
