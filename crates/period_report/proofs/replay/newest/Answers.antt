-- SPDX-License-Identifier: Apache-2.0
use Rattle.std.specs.Prelude.{string_bytes}
use Rattle.period_report.proofs.Telling.{newest_live, newest_text}
use Rattle.period_report.proofs.replay.newest.Goals as goal

pub unreachable-requires : goal.unreachable-requires
unreachable-requires c = c.in_default.ensures.none (newest_live c.args.machine.now c.newest-layout.result.now c.newest-layout.ensures.is)

pub returns : goal.returns
returns c =
    newest_text c.args.machine.now c.args.count c.newest-layout.result.now c.in-Some.copy.now (string_bytes c.push_str.new.self) (string_bytes c.in_ok-text.text) c.as_str.result.now (string_bytes c.in_ok-line.line) c.in_ok-digest.digest
    c.newest-layout.ensures.is c.in-Some.ensures.copy c.in_ok-text.ensures c.in_ok-digest.ensures c.in_ok-line.ensures c.as_str.ensures.value c.in_ok-push_str.ensures.bytes
