-- SPDX-License-Identifier: Apache-2.0
use Rattle.std.proofs.Common.{rules, arith}
use Rattle.std.specs.Prelude.{Ok}
use Rattle.std.proofs.lemmas.Grind.{common_steps}
use Rattle.asm_text.specs.Source.{source_of}
use Rattle.rv_asm.specs.Checking.{Checks}
use Rattle.rv_asm.specs.Passes.{fault_of}
use Rattle.rv_asm.proofs.Faultless.{is_checked}
use Rattle.rv_asm.proofs.checking.checked.Goals as goal

pub returns-clause-checked : goal.returns-clause-checked
unfolding fault_of
returns-clause-checked c =
    let text = c.args.text.now in
    let items = c.in_ok-source.source.items in
    let first : Checks (Ok items) (fault_of text) (source_of text).items = first_of (search rules, grind (arith, common_steps)) in
    is_checked text items first
