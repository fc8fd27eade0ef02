-- SPDX-License-Identifier: Apache-2.0
use Rattle.std.proofs.Common.{◌≡◌, sym, ap, ◌∙◌, arith}
use Rattle.std.specs.Prelude.{slice_get}
use Rattle.std.specs.Option.{option_copied}
use Rattle.sh_machines.specs.Event.{is_off}
use Rattle.shuf_machine.specs.Past.{state_of}
use Rattle.hart_runner.specs.Standing.{pace_of}
use Rattle.hart_runner.proofs.Linking.{linked, below_more, first_found, first_none}
use Rattle.hart_runner.proofs.layouts.next_behind.Goals as goal

pub returns-then-is_behind : goal.returns-then-is_behind
returns-then-is_behind c =
    let m = c.args.machine.now in
    let s = state_of m in
    let l = linked m c.machines_stand.ensures.setting c.machines_stand.ensures.legal c.machines_stand.ensures.stands c.requires in
    let off : is_off s.newest (slice_get s.harts c.loop-hart.hart) ≡ c.is_behind.result = ap (is_off s.newest) (sym c.hart.ensures) ∙ ap (λ n. is_off n (option_copied c.hart.result)) (l.newest ∙ sym c.newest-newest.ensures) ∙ sym c.is_behind.ensures in
    first_found s (pace_of m) c.loop-hart.hart l c.loop-hart.invariant (cc (off, c.if-is_behind.true))

pub loop-hart-preserved : goal.loop-hart-preserved
loop-hart-preserved c =
    let m = c.args.machine.now in
    let s = state_of m in
    let l = linked m c.machines_stand.ensures.setting c.machines_stand.ensures.legal c.machines_stand.ensures.stands c.requires in
    let off : is_off s.newest (slice_get s.harts c.loop-hart.hart) ≡ c.is_behind.result = ap (is_off s.newest) (sym c.hart.ensures) ∙ ap (λ n. is_off n (option_copied c.hart.result)) (l.newest ∙ sym c.newest-newest.ensures) ∙ sym c.is_behind.ensures in
    below_more s.newest s.harts c.loop-hart.hart c.loop-hart.invariant (cc (off, c.if-is_behind.false))

pub returns : goal.returns
returns c =
    let m = c.args.machine.now in
    let l = linked m c.machines_stand.ensures.setting c.machines_stand.ensures.legal c.machines_stand.ensures.stands c.requires in
    first_none (state_of m) (pace_of m) c.loop-hart.hart l c.loop-hart.invariant (omega (arith, c.started-hart-end.ensures, c.loop-hart-test.false))
