-- SPDX-License-Identifier: Apache-2.0
use Rattle.std.proofs.Common.{◌≡◌, subst}
use Rattle.std.specs.Prelude.{IfOk, string_bytes}
use Rattle.shuf_machine.specs.Past.{state_of}
use Rattle.period_report.specs.Replay.{setting_in}
use Rattle.period_report.proofs.Replaying.{next_layout}
use Rattle.period_report.proofs.Telling.{on_ok, after_publish, published_text}
use Rattle.period_report.proofs.replay.publish.Goals as goal

pub returns-in-Ok-clause-after : goal.returns-in-Ok-clause-after
returns-in-Ok-clause-after c =
    let m = c.args.machine.now in
    on_ok c.newest.result (after_publish m c.take_blank-blank.new.self c.publish.new.self c.args.layout c.in_ok-prepared.prepared.layout.number c.take_blank-blank.ensures.same c.in-Ok.ensures.ok c.in_ok-prepared.ensures.number (next_layout (setting_in m) (state_of m) c.args.layout c.requires))

pub returns-in-Ok-clause-text : goal.returns-in-Ok-clause-text
returns-in-Ok-clause-text c =
    let m = c.args.machine.now in
    let after = after_publish m c.take_blank-blank.new.self c.publish.new.self c.args.layout c.in_ok-prepared.prepared.layout.number c.take_blank-blank.ensures.same c.in-Ok.ensures.ok c.in_ok-prepared.ensures.number (next_layout (setting_in m) (state_of m) c.args.layout c.requires) in
    subst (λ x. IfOk c.newest.result (λ text. string_bytes text ≡ x)) (published_text m c.publish.new.self c.args.layout c.count-count.result after c.count-count.ensures.is) c.newest.ensures
