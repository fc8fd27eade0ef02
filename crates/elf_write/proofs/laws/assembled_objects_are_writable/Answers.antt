-- SPDX-License-Identifier: Apache-2.0
use Rattle.asm_text.specs.Source.{source_of}
use Rattle.rv_asm.specs.Object.{object_of}
use Rattle.elf_write.proofs.Whole.{writable}
use Rattle.elf_write.proofs.laws.assembled_objects_are_writable.Goals as goal

pub returns : goal.returns
returns c = λ text small none. writable (source_of text).items (object_of text) (c.objects_are_whole.ensures text small none)
