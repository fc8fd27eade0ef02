-- SPDX-License-Identifier: Apache-2.0
use Rattle.elf_write.specs.Parts.{string_table, parts_of, text_records_part, data_records_part, symbols_part, strings_part, names_part, heads_part}
use Rattle.elf_write.proofs.parts.laid_out.Goals as goal

pub returns-clause-value : goal.returns-clause-value
unfolding parts_of text_records_part data_records_part symbols_part strings_part names_part heads_part string_table
returns-clause-value c = cc
