-- SPDX-License-Identifier: Apache-2.0
use Rattle.std.proofs.Common.{◌+◌, ◌≤◌, ◌++◌, ◌∙◌, length, drop, get_or, refl, sym, ap, subst, arith, append-nil}
use Rattle.std.specs.Prelude.{string_bytes}
use Rattle.std.proofs.lemmas.Bool.Decides.{nat_tests}
use Rattle.std.proofs.lemmas.List.{drop_all}
use Rattle.sh_types.specs.declared.runs.Event.TheVariants.{Run}
use Rattle.shuf_machine.specs.Past.{state_of}
use Rattle.period_report.specs.Full.{full_events}
use Rattle.period_report.specs.Replay.{setting_in, CanRun}
use Rattle.period_report.proofs.Replaying.{events_from, room_first, can_next}
use Rattle.period_report.proofs.Telling.{told_next}
use Rattle.period_report.proofs.full.events.Goals as goal

pub loop-one-init : goal.loop-one-init
loop-one-init g c =
    record {
      image = refl;
      origin = refl;
      can = c.requires;
      text = ap (λ x. x ++ full_events (setting_in c.args.machine.now) c.args.machine.now.origin.seed (state_of c.args.machine.now) c.args.of.now) c.new-text.ensures.bytes;
    }

pub event-requires-clause-allowed : goal.event-requires-clause-allowed
event-requires-clause-allowed g c =
    let i = c.loop-one.one-index in
    (subst (CanRun c.loop-one.machine) (events_from c.args.of.now i c.loop-one-test.true) c.loop-one.invariant.can).legal.0

pub event-requires-clause-room : goal.event-requires-clause-room
event-requires-clause-room g c =
    let i = c.loop-one.one-index in
    room_first c.loop-one.machine (get_or c.args.of.now i (Run 0 0)) (drop (i + 1) c.args.of.now) (subst (CanRun c.loop-one.machine) (events_from c.args.of.now i c.loop-one-test.true) c.loop-one.invariant.can)

pub loop-one-preserved : goal.loop-one-preserved
loop-one-preserved g c =
    let i = c.loop-one.one-index in
    let m = c.loop-one.machine in
    let e = get_or c.args.of.now i (Run 0 0) in
    let es = drop (i + 1) c.args.of.now in
    let from = events_from c.args.of.now i c.loop-one-test.true in
    let after = c.in_ok-lines.ensures.after in
    record {
      image = after.image ∙ c.loop-one.invariant.image;
      origin = after.origin ∙ c.loop-one.invariant.origin;
      can = can_next m c.event.new.machine e es (subst (CanRun m) from c.loop-one.invariant.can) after;
      text = told_next m c.event.new.machine e es (string_bytes c.loop-one.text) (string_bytes c.push_str.new.self) c.as_str.result.now (string_bytes c.in_ok-lines.lines) (full_events (setting_in c.args.machine.now) c.args.machine.now.origin.seed (state_of c.args.machine.now) c.args.of.now) after c.in_ok-lines.ensures.text c.as_str.ensures.value c.in_ok-push_str.ensures.bytes
          (ap (λ xs. string_bytes c.loop-one.text ++ full_events (setting_in m) m.origin.seed (state_of m) xs) (sym from) ∙ c.loop-one.invariant.text);
    }

pub returns : goal.returns
returns g c =
    let m = c.loop-one.machine in
    let l : length c.args.of.now ≤ c.loop-one.one-index = grind (arith, nat_tests, c.loop-one-test.false) in
    sym (append-nil (string_bytes c.loop-one.text)) ∙ ap (λ xs. string_bytes c.loop-one.text ++ full_events (setting_in m) m.origin.seed (state_of m) xs) (sym (drop_all c.loop-one.one-index c.args.of.now l)) ∙ c.loop-one.invariant.text
