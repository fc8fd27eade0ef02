-- SPDX-License-Identifier: Apache-2.0
use Rattle.std.proofs.Common.{◌∙◌, ap, Bool}
use Rattle.std.specs.Prelude.{cond, Some}
use Rattle.asm_places.specs.Maps.{has_at}
use Rattle.asm_places.proofs.Naming.{same_keys}
use Rattle.asm_places.proofs.Targeting.{cond_first}
use Rattle.asm_places.proofs.targets.define.Goals as goal

pub returns : goal.returns
returns c = λ s q.
    let was = has_at c.args.targets.now s q in
    c.in_ok-insert.ensures.updates.0 (s, record { ref_ptr = (0, 0); now = q })
    ∙ ap (λ (b : Bool). cond b (Some c.args.target) was) (same_keys c.args.scope s c.args.name.now q) ∙ cond_first _ c.args.target was
