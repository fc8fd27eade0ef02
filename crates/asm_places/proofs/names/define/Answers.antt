-- SPDX-License-Identifier: Apache-2.0
use Rattle.std.proofs.Common.{◌∙◌, ap, Bool}
use Rattle.std.specs.Prelude.{true, cond}
use Rattle.asm_places.specs.Sets.{has}
use Rattle.asm_places.proofs.Naming.{same_keys, or_cond}
use Rattle.asm_places.proofs.names.define.Goals as goal

pub returns-clause-after : goal.returns-clause-after
returns-clause-after c = λ s q.
    let was = has c.args.names.now s q in
    c.in_ok-insert.ensures.updates.0 (s, record { ref_ptr = (0, 0); now = q })
    ∙ ap (λ (b : Bool). cond b true was) (same_keys c.args.scope s c.args.name.now q) ∙ or_cond _ was
