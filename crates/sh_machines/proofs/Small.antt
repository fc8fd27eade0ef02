-- SPDX-License-Identifier: Apache-2.0
-- The small hart's instructions come out as they are said to.
use Rattle.std.proofs.Common.{◌≡◌, pos, Some, None, [], ◌∷◌, refl}
use Rattle.sh_types.specs.declared.code.CodeRef.TheVariants.{Root}
use Rattle.rv_table.specs.declared.instructions.Op.TheVariants.{Sd, ScW, ScD}
use Rattle.rv_table.specs.Decoding.{made}
use Rattle.sh_machines.specs.Environment.{Reads, call_of}
use Rattle.sh_machines.specs.Kind.{Stores, Atomics}
use Rattle.sh_machines.specs.Memory.{each_from, writable, bytes_from}
use Rattle.sh_machines.specs.Need.{Goes, Puts, with_part, shares, stored_at}
use Rattle.rv_table.specs.Operands.{width_of}
use Rattle.sh_machines.specs.Small.{small_memory, holder, made_by, short_read}
use Rattle.sh_machines.specs.Unmoved.{Number, reserves, steps, set_thread, threads_lose, new_thread}

pub others_lose : threads_lose 0 (Some (stored_at 0x20000 8)) (holder 0 ∷ holder 1 ∷ []) ≡ holder 0 ∷ reserves (holder 1) None ∷ []
unfolding shares
others_lose = refl

pub stores_out : made_by (Stores (made Sd 0 5 6 (pos 0))) ≡ Puts (steps (holder 0)) 0x4000 (Number 9) (Some (stored_at 0x20000 8))
unfolding writable each_from width_of with_part
stores_out = refl

pub held_out : made_by (Atomics (made ScD 10 5 6 (pos 0))) ≡ Puts (reserves (set_thread (holder 0) 10 0) None) 0x4000 (Number 9) (Some (stored_at 0x20000 8))
unfolding writable each_from width_of with_part
held_out = refl

pub other_width_out : made_by (Atomics (made ScW 10 5 6 (pos 0))) ≡ Goes (reserves (set_thread (holder 0) 10 1) None)
unfolding writable each_from width_of with_part
other_width_out = refl

pub started_out : (new_thread 1 2 3 4 5).ra ≡ Some Root
started_out = refl

pub short_out : call_of small_memory [] short_read ≡ Reads 0x20000 (1 ∷ 2 ∷ 3 ∷ [])
unfolding call_of writable each_from bytes_from
short_out = refl
