-- SPDX-License-Identifier: Apache-2.0
use Rattle.std.proofs.Common.{refl, ap, ◌∙◌}
use Rattle.sh_types.specs.declared.runs.End.TheVariants as end
use Rattle.sh_machines.specs.Need.{Traps}
use Rattle.sh_machines.specs.Shuffled.{stopped}
use Rattle.hart_turns.specs.Meant.{meant, setting_of}
use Rattle.hart_turns.proofs.Ending.{stopped_by}
use Rattle.hart_turns.proofs.Next.{current_here, pair_is}
use Rattle.hart_turns.proofs.finishing.trap.Goals as goal

pub returns-clause-done : goal.returns-clause-done
returns-clause-done c =
    let s = meant c.args.code.now c.args.state.now in
    let h = c.current-hart.result in
    let here = current_here c.args.code.now c.args.from.now s c.args.at h c.requires.here c.current-hart.ensures.is in
    stopped_by (setting_of c.args.code.now) c.args.at s _ h (Traps c.args.kind c.args.value) c.current-hart.ensures.is c.requires.next refl refl
    (c.stop.ensures.meant ∙ ap (λ p. stopped s (end.Trapped c.args.kind c.args.at p c.args.value)) (c.pair_at-pair.ensures ∙ pair_is c.args.code.now c.args.from.now h here.made))
