-- SPDX-License-Identifier: Apache-2.0
use Rattle.cli_rows.proofs.Assembling.{writable}
use Rattle.cli_rows.proofs.asm.written.Goals as goal

pub write_elf-requires : goal.write_elf-requires
write_elf-requires c =
    writable c.args.source.now c.in_ok-object.object c.assembled_objects_are_writable.ensures c.requires c.in_ok-object.ensures
