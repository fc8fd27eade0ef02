-- SPDX-License-Identifier: Apache-2.0
use Rattle.std.proofs.Common.{◌∙◌, sym, ap}
use Rattle.std.specs.Prelude.{nat_le}
use Rattle.std.specs.List.{list_any}
use Rattle.elf_rules.specs.declared.elf.Head.{Head}
use Rattle.elf_symbols.proofs.Ending.{open_heads}
use Rattle.elf_symbols.proofs.rules.any_open_head.Goals as goal

pub returns : goal.returns
returns c =
    c.any_head_from.ensures ∙ ap (λ n. list_any (λ (x : Head). nat_le n x.name) c.args.heads.now) c.last_end.ensures
    ∙ sym (open_heads c.args.names.now c.args.heads.now)
