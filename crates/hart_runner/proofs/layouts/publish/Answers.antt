-- SPDX-License-Identifier: Apache-2.0
use Rattle.std.proofs.Common.{◌+◌, sym, ap, ◌∙◌, subst, arith}
use Rattle.sh_types.specs.declared.runs.Event.TheVariants.{Publish}
use Rattle.shuf_machine.specs.Past.{Past, with_event, state_of}
use Rattle.shuf_machine.specs.Refusal.{publish_no}
use Rattle.hart_runner.specs.Standing.{pace_of}
use Rattle.hart_runner.proofs.Going.{never_refused}
use Rattle.hart_runner.proofs.Linking.{Linked, linked, may_publish}
use Rattle.hart_runner.proofs.layouts.publish.Goals as goal

pub prepare_next-requires : goal.prepare_next-requires
prepare_next-requires c =
    let m = c.args.machine.now in
    let l = linked m c.machines_stand.ensures.setting c.machines_stand.ensures.legal c.machines_stand.ensures.stands c.requires.pace in
    let same = ap (λ (x : Past). (state_of x).newest) c.take_blank-blank.ensures.same in
    let room = c.requires.room in
    omega (arith, same, l.newest, room)

pub unreachable-requires : goal.unreachable-requires
unreachable-requires c =
    let m = c.args.machine.now in
    let q = c.take_blank-blank.new.self in
    let l = linked m c.machines_stand.ensures.setting c.machines_stand.ensures.legal c.machines_stand.ensures.stands c.requires.pace in
    let k : Linked (state_of q) (pace_of m) = subst (λ x. Linked (state_of x) (pace_of m)) (sym c.take_blank-blank.ensures.same) l in
    never_refused c.in-Err-NotEnabled.field-0 (publish_no (state_of q) c.in_ok-prepared.prepared.layout.number) c.in-Err-NotEnabled.field-0-0 c.in-Err-NotEnabled.ensures.cause (may_publish (state_of q) (pace_of m) c.in_ok-prepared.prepared.layout.number k c.requires.goes c.requires.one c.in_ok-prepared.ensures.number) c.in-Err-NotEnabled.field-0-is

pub returns-in-Ok-clause-ok : goal.returns-in-Ok-clause-ok
returns-in-Ok-clause-ok c =
    let m = c.args.machine.now in
    let q = c.take_blank-blank.new.self in
    let l = linked m c.machines_stand.ensures.setting c.machines_stand.ensures.legal c.machines_stand.ensures.stands c.requires.pace in
    let k : Linked (state_of q) (pace_of m) = subst (λ x. Linked (state_of x) (pace_of m)) (sym c.take_blank-blank.ensures.same) l in
    c.in-Ok.ensures.ok ∙ ap (λ n. with_event q (Publish n)) (c.in_ok-prepared.ensures.number ∙ ap (λ n. n + 1) k.newest) ∙ ap (λ x. with_event x (Publish ((pace_of m).newest + 1))) c.take_blank-blank.ensures.same
