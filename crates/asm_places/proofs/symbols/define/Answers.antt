-- SPDX-License-Identifier: Apache-2.0
use Rattle.std.proofs.Common.{◌∙◌, ap, Bool}
use Rattle.std.specs.Prelude.{cond, Some}
use Rattle.asm_places.proofs.Naming.{same_keys}
use Rattle.asm_places.specs.Numbers.{number_of}
use Rattle.asm_places.proofs.Counting.{cond_number}
use Rattle.asm_places.proofs.symbols.define.Goals as goal

pub returns : goal.returns
returns c = λ s q.
    let was = number_of c.args.numbers.now s q in
    c.in_ok-insert.ensures.updates.0 (s, record { ref_ptr = (0, 0); now = q })
    ∙ ap (λ (b : Bool). cond b (Some c.args.number) was) (same_keys c.args.scope s c.args.name.now q) ∙ cond_number _ c.args.number was
