-- SPDX-License-Identifier: Apache-2.0
use Rattle.elf_write.proofs.Naming.{sections_are_named}
use Rattle.elf_write.proofs.laws.files_name_their_sections.Goals as goal

pub returns : goal.returns
returns c = sections_are_named
