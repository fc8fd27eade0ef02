-- SPDX-License-Identifier: Apache-2.0
-- A serial run, computed.
use Rattle.std.proofs.Common.{◌≡◌, Some, [], ◌∷◌, length, refl}
use Rattle.std.specs.Prelude.{take}
use Rattle.sh_types.specs.declared.runs.End.TheVariants as end
use Rattle.rv_table.specs.Arithmetic.{alu_of, amo_of, compare_of, extend_of}
use Rattle.sh_machines.specs.Copy.{saves, restores, literals_in, literals_below}
use Rattle.rv_table.specs.Decoding.{decoded, op_in}
use Rattle.sh_machines.specs.Environment.{call_of}
use Rattle.sh_machines.specs.Event.{written}
use Rattle.sh_types.specs.Image.{sizes_of, row_in}
use Rattle.rv_table.specs.Instruction.{row_of}
use Rattle.sh_machines.specs.Kind.{kind_at, plain_kind}
use Rattle.sh_machines.specs.Memory.{each_from, readable, writable, first_byte, first_word, bytes_from}
use Rattle.sh_machines.specs.Need.{part_of, with_part, patched, shares}
use Rattle.rv_table.specs.Operands.{is_register, reads_ra, computed, width_of, taken_as}
use Rattle.sh_machines.specs.PlainSerial.{plain_turns, plain_list}
use Rattle.sh_machines.specs.Serial.{calls_next, turn, serial_from, serial_list}
use Rattle.sh_machines.specs.Unmoved.{thread_needs, unmoved_step, unmoved_run}
use Rattle.sh_law.specs.Example.{example}
use Rattle.pace_law.specs.Order.{small_schedule, first_events}

pub begins : take 12 (serial_list example (72 ∷ 105 ∷ []) small_schedule) ≡ first_events
unfolding literals_in literals_below unmoved_run unmoved_step thread_needs calls_next turn serial_from serial_list plain_turns plain_list kind_at sizes_of row_in saves restores decoded op_in row_of plain_kind reads_ra is_register computed alu_of extend_of compare_of amo_of taken_as width_of part_of with_part patched shares readable writable each_from first_word first_byte bytes_from call_of
begins = refl

pub counts : length (written (serial_list example (72 ∷ 105 ∷ []) small_schedule)) ≡ 90
unfolding literals_in literals_below unmoved_run unmoved_step thread_needs calls_next turn serial_from serial_list plain_turns plain_list kind_at sizes_of row_in saves restores decoded op_in row_of plain_kind reads_ra is_register computed alu_of extend_of compare_of amo_of taken_as width_of part_of with_part patched shares readable writable each_from first_word first_byte bytes_from call_of
counts = refl

pub plain_counts : length (plain_list example (72 ∷ 105 ∷ []) 6 100) ≡ 90
unfolding literals_in literals_below unmoved_run unmoved_step thread_needs calls_next turn serial_from serial_list plain_turns plain_list kind_at sizes_of row_in saves restores decoded op_in row_of plain_kind reads_ra is_register computed alu_of extend_of compare_of amo_of taken_as width_of part_of with_part patched shares readable writable each_from first_word first_byte bytes_from call_of
plain_counts = refl

pub plain_ends : (unmoved_run example (72 ∷ 105 ∷ []) (plain_list example (72 ∷ 105 ∷ []) 6 100)).end ≡ Some (end.Exit 18)
unfolding literals_in literals_below unmoved_run unmoved_step thread_needs calls_next turn serial_from serial_list plain_turns plain_list kind_at sizes_of row_in saves restores decoded op_in row_of plain_kind reads_ra is_register computed alu_of extend_of compare_of amo_of taken_as width_of part_of with_part patched shares readable writable each_from first_word first_byte bytes_from call_of
plain_ends = refl
