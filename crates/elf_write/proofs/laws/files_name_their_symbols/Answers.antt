-- SPDX-License-Identifier: Apache-2.0
use Rattle.elf_write.proofs.Naming.{symbols_are}
use Rattle.elf_write.proofs.laws.files_name_their_symbols.Goals as goal

pub returns : goal.returns
returns c = symbols_are
