-- SPDX-License-Identifier: Apache-2.0
use Rattle.std.specs.Prelude.{string_bytes}
use Rattle.sh_types.specs.declared.runs.Event.TheVariants.{Migrate}
use Rattle.guest_mem.specs.Held.{words_of}
use Rattle.shuf_machine.specs.Past.{state_of}
use Rattle.period_report.specs.Replay.{setting_in}
use Rattle.period_report.proofs.Replaying.{after_with}
use Rattle.period_report.proofs.Telling.{number_is, moved_text}
use Rattle.period_report.proofs.replay.migrate.Goals as goal

pub returns-clause-after : goal.returns-clause-after
returns-clause-after g c = after_with (Migrate c.args.hart) c.args.machine.now c.migrate-2.new.self c.in-Ok.ensures.ok

pub returns-clause-text : goal.returns-clause-text
returns-clause-text g c =
    let m = c.args.machine.now in
    let m' = c.migrate-2.new.self in
    let after = after_with (Migrate c.args.hart) m m' c.in-Ok.ensures.ok in
    moved_text (setting_in m) (state_of m) (state_of m') c.args.hart c.count.result c.newest.result.now.number c.len.result c.in_ok-of.of c.as_slice.result.now (words_of c.memory.result.now) (string_bytes c.push_str.new.self) (string_bytes c.in_ok-text.text) c.as_str.result.now (string_bytes c.in_ok-words.words)
    c.in_ok-of.ensures c.count.ensures.is (number_is m c.newest.result.now c.newest.ensures.is) c.len.ensures c.in_ok-text.ensures after.state c.memory.ensures c.as_slice.ensures c.in_ok-words.ensures c.as_str.ensures.value c.in_ok-push_str.ensures.bytes
