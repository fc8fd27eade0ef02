-- SPDX-License-Identifier: Apache-2.0
use Rattle.std.proofs.Common.{◌≡◌, ◌++◌, drop, string_bytes}
use Rattle.period_report.specs.Kept.{IsKept}
use Rattle.period_report.specs.Numbered.{IsNumbered}
use Rattle.period_report.specs.Text.{events_text, count_after}
use Rattle.period_report.proofs.writer.events.Given as goal

abbrev pub invariant-loop-one : goal.invariant-loop-one
invariant-loop-one l =
    record {
      text : string_bytes l.text ++ events_text l.seed l.count (drop l.one-index l.of) ≡ events_text l.seed 0 l.of;
      count : count_after l.count (drop l.one-index l.of) ≡ count_after 0 l.of;
      kept : IsKept l.seed l.cells;
      numbered : IsNumbered l.cells.newest (drop l.one-index l.of);
    }
