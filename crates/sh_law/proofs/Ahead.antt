-- SPDX-License-Identifier: Apache-2.0
-- Turns of small images, computed.
use Rattle.std.proofs.Common.{◌≡◌, Some, None, [], ◌∷◌, refl}
use Rattle.std.specs.Prelude.{take}
use Rattle.rv_table.specs.Arithmetic.{alu_of, amo_of, compare_of, extend_of}
use Rattle.sh_machines.specs.Cipher.{seal, unseal}
use Rattle.sh_machines.specs.Copy.{copied, moved_word, saves, restores, literals_in, literals_below}
use Rattle.rv_table.specs.Decoding.{decoded, op_in}
use Rattle.sh_machines.specs.Environment.{call_of}
use Rattle.sh_machines.specs.Event.{state_after}
use Rattle.sh_types.specs.Image.{sizes_of, row_in}
use Rattle.rv_table.specs.Instruction.{row_of}
use Rattle.sh_machines.specs.Kind.{copied_kind, kind_of_instr, plain_kind}
use Rattle.rv_table.specs.MachineForm.{decoded_x}
use Rattle.sh_machines.specs.Memory.{each_from, readable, writable, first_byte, first_word, bytes_from}
use Rattle.sh_machines.specs.Need.{part_of, with_part, patched, shares, stored_at}
use Rattle.sh_machines.specs.Notes.{ahead_of, notes_of, effects_of}
use Rattle.rv_table.specs.Operands.{is_register, reads_ra, computed, width_of, taken_as}
use Rattle.sh_types.specs.Place.{whose_of}
use Rattle.sh_machines.specs.Shuffled.{is_guard, kind_there, hart_needs, shuffled_step, shuffled_start}
use Rattle.sh_law.specs.AheadExample.{tries_setting, note, turn_in}
use Rattle.sh_law.specs.Example.{example_layout, example_setting, example_events}

-- the word of a store-conditional that fails is noted, and the trap is not among the instructions
pub tries_notes : turn_in tries_setting 0 9 (shuffled_start tries_setting) ≡ Some (record { notes = note 0x2000 7 None ∷ []; count = 2; words = note 0x2000 7 None ∷ []; stores = [] })
unfolding state_after shuffled_step hart_needs kind_there is_guard whose_of copied moved_word literals_in literals_below sizes_of row_in saves restores decoded op_in row_of decoded_x copied_kind kind_of_instr plain_kind reads_ra is_register computed alu_of extend_of compare_of amo_of taken_as width_of part_of with_part patched shares readable writable each_from first_word first_byte bytes_from call_of seal unseal example_layout ahead_of notes_of effects_of
tries_notes = refl

-- the adder saves ra, adds three times, stores by a reservation, and takes ra back; it stops before its return to the root
pub adder_notes : turn_in example_setting 1 50 (state_after example_setting (take 2 example_events)) ≡ Some (record { notes = note 0x7fffdf9 0 None ∷ note 0x2000 0 None ∷ []; count = 19; words = note 0x7fffdf9 0 None ∷ note 0x2000 6 None ∷ []; stores = stored_at 0x3fffefc8 8 ∷ stored_at 0x10000 8 ∷ stored_at 0x10000 8 ∷ stored_at 0x10000 8 ∷ stored_at 0x10000 8 ∷ [] })
unfolding state_after shuffled_step hart_needs kind_there is_guard whose_of copied moved_word literals_in literals_below sizes_of row_in saves restores decoded op_in row_of decoded_x copied_kind kind_of_instr plain_kind reads_ra is_register computed alu_of extend_of compare_of amo_of taken_as width_of part_of with_part patched shares readable writable each_from first_word first_byte bytes_from call_of seal unseal example_layout ahead_of notes_of effects_of
adder_notes = refl
