-- SPDX-License-Identifier: Apache-2.0
-- The symbol table lies in the file where the rule Symbols holds.
use Rattle.std.proofs.Common.{◌≡◌, ℕ, ◌+◌, ◌≤◌, false, List, length, Option, Some, None, arith}
use Rattle.std.specs.Prelude.{unwrap_or}
use Rattle.std.proofs.lemmas.Bool.{true≢false}
use Rattle.std.proofs.lemmas.Bool.Decides.{nat_tests}
use Rattle.elf_rules.specs.declared.elf.Head.{Head}
use Rattle.elf_rules.specs.declared.refusals.ElfRule.TheVariants as rules
use Rattle.elf_rules.specs.Elf.{heads_of, sole_table, table_of, no_head}
use Rattle.elf_rules.specs.ElfRules.{fails, bad_table}

by_cases : (b : List ℕ) (heads : List Head) (table : Option Head) → bad_table b heads table ≡ false → (unwrap_or table no_head).file_at + (unwrap_or table no_head).size ≤ length b
unfolding bad_table
by_cases b heads None h = absurd (true≢false h)
by_cases b heads (Some table) h = grind (arith, nat_tests, h)

pub inside : (b : List ℕ) → fails rules.Symbols b ≡ false → (table_of b).file_at + (table_of b).size ≤ length b
unfolding fails table_of
inside b h = by_cases b (heads_of b) (sole_table b) h
