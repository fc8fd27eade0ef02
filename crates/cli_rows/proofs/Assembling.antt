-- SPDX-License-Identifier: Apache-2.0
-- What an assembly comes to, by what its steps answer.
use Rattle.std.proofs.Common.{◌≡◌, ◌≤◌, ℕ, List, length, refl, sym, subst, arith}
use Rattle.std.specs.Prelude.{Option, Some, None, Ok}
use Rattle.asm_text.specs.declared.faults.LineFault.{LineFault}
use Rattle.sh_types.specs.declared.objects.Object.{Object}
use Rattle.rv_asm.specs.Object.{object_of, Assembles}
use Rattle.rv_asm.specs.Passes.{fault_of}
use Rattle.elf_write.specs.Writable.{IsWritable}
use Rattle.cli_rows.specs.Limits.{file_limit}

-- an object is answered only where there is no fault
no_fault : (object all : Object) (found : Option LineFault) → Assembles (Ok object) found all → (found ≡ None) × (object ≡ all)
no_fault object all None same = (refl, same)
no_fault object all (Some fault) same = absurd same

-- an object that was assembled can be written, by the law on the objects of sources
pub writable : (text : List ℕ) (object : Object) → ((t : List ℕ) → length t ≤ 67108864 → fault_of t ≡ None → IsWritable (object_of t)) → length text ≤ file_limit
    → Assembles (Ok object) (fault_of text) (object_of text) → IsWritable object
writable text object law short assembles =
    let both = no_fault object (object_of text) (fault_of text) assembles in
    subst IsWritable (sym both.1) (law text (omega arith) both.0)
