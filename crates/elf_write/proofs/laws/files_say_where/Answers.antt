-- SPDX-License-Identifier: Apache-2.0
use Rattle.elf_write.proofs.Saying.{says_all}
use Rattle.elf_write.proofs.laws.files_say_where.Goals as goal

pub returns : goal.returns
returns c = says_all
