-- SPDX-License-Identifier: Apache-2.0
use Rattle.std.proofs.Common.{List, length, ap, subst, arith}
use Rattle.sh_types.specs.declared.runs.Hart.{Hart}
use Rattle.sh_machines.specs.Event.{with_harts}
use Rattle.sh_machines.specs.StandsFor.{layout_number}
use Rattle.hart_turns.specs.Meant.{meant, IsMade, setting_of}
use Rattle.hart_turns.proofs.Calling.{called, can_do}
use Rattle.hart_turns.proofs.Next.{current_here}
use Rattle.hart_turns.proofs.Reaching.{next_is_here}
use Rattle.hart_turns.proofs.calls.call.Goals as goal

pub act-requires-clause-made : goal.act-requires-clause-made
act-requires-clause-made c =
    subst (λ x. IsMade (setting_of c.args.code.now) (layout_number x) c.prepared_on-from.result.now) c.current-hart.ensures.is c.prepared_on-from.ensures

pub act-requires-clause-number : goal.act-requires-clause-number
act-requires-clause-number c =
    let next = next_is_here c.laws.ensures c.args.code.now c.prepared_on-from.result.now (meant c.args.code.now c.args.state.now) c.args.at c.requires.code c.requires.reached c.requires.can c.prepared_on-from.ensures in
    let here = current_here c.args.code.now c.prepared_on-from.result.now (meant c.args.code.now c.args.state.now) c.args.at c.current-hart.result next c.current-hart.ensures.is in
    omega (arith, here.number, here.small)

pub act-requires-clause-low : goal.act-requires-clause-low
act-requires-clause-low c =
    let next = next_is_here c.laws.ensures c.args.code.now c.prepared_on-from.result.now (meant c.args.code.now c.args.state.now) c.args.at c.requires.code c.requires.reached c.requires.can c.prepared_on-from.ensures in
    let here = current_here c.args.code.now c.prepared_on-from.result.now (meant c.args.code.now c.args.state.now) c.args.at c.current-hart.result next c.current-hart.ensures.is in
    here.pc

pub ask-requires-clause-few : goal.ask-requires-clause-few
ask-requires-clause-few c =
    let next = next_is_here c.laws.ensures c.args.code.now c.prepared_on-from.result.now (meant c.args.code.now c.args.state.now) c.args.at c.requires.code c.requires.reached c.requires.can c.prepared_on-from.ensures in
    let n = ap length c.make_room.ensures.items in
    omega (arith, next.few, n)

pub act-requires-clause-can : goal.act-requires-clause-can
act-requires-clause-can c =
    can_do (setting_of c.args.code.now) _ (meant c.args.code.now c.ask.new.state) c.current-hart.result c.in_ok-answer.answer c.requires.code.setting.image c.in_ok-answer.ensures.answer c.in_ok-answer.ensures.meant

pub returns-clause-done : goal.returns-clause-done
returns-clause-done c =
    let s = meant c.args.code.now c.args.state.now in
    called (setting_of c.args.code.now) s _ (meant c.args.code.now c.ask.new.state) (meant c.args.code.now c.act.new.state) c.args.at c.current-hart.result c.in_ok-answer.answer c.current-hart.ensures.is c.requires.next (ap (λ (hs : List Hart). with_harts s hs s.words) c.make_room.ensures.items) c.in_ok-answer.ensures.answer c.in_ok-answer.ensures.meant c.act.ensures.meant
