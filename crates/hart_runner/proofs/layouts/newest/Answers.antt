-- SPDX-License-Identifier: Apache-2.0
use Rattle.std.proofs.Common.{ap, ◌∙◌}
use Rattle.sh_types.specs.declared.layouts.Layout.{Layout}
use Rattle.shuf_machine.specs.Past.{state_of}
use Rattle.hart_runner.proofs.Linking.{linked, layout_number}
use Rattle.hart_runner.proofs.layouts.newest.Goals as goal

pub returns : goal.returns
returns c =
    let m = c.args.machine.now in
    ap (λ (l : Layout). l.number) c.newest.ensures.is ∙ layout_number m.image m.origin (state_of m).newest
    ∙ (linked m c.machines_stand.ensures.setting c.machines_stand.ensures.legal c.machines_stand.ensures.stands c.requires).newest
