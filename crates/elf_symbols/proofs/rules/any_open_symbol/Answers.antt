-- SPDX-License-Identifier: Apache-2.0
use Rattle.std.proofs.Common.{◌∙◌, sym, ap}
use Rattle.std.specs.Prelude.{nat_le}
use Rattle.std.specs.List.{list_any}
use Rattle.elf_rules.specs.declared.elf.RawSymbol.{RawSymbol}
use Rattle.elf_symbols.proofs.Ending.{open_symbols}
use Rattle.elf_symbols.proofs.rules.any_open_symbol.Goals as goal

pub returns : goal.returns
returns c =
    c.any_symbol_from.ensures ∙ ap (λ n. list_any (λ (x : RawSymbol). nat_le n x.name) c.args.symbols.now) c.last_end.ensures
    ∙ sym (open_symbols c.args.names.now c.args.symbols.now)
