-- SPDX-License-Identifier: Apache-2.0
use Rattle.elf_write.proofs.Laying.{holds_all}
use Rattle.elf_write.proofs.laws.files_hold_their_parts.Goals as goal

pub returns : goal.returns
returns c = holds_all
