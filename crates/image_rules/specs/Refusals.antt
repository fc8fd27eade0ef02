-- SPDX-License-Identifier: Apache-2.0
-- The records that refuse a function before its words are looked at. Their kinds are those of the RISC-V psABI
-- ("Relocations"); the rules are this project's own.
use Rattle.std.specs.Prelude.{ℕ, ◌-◌, ◌%◌, ◌==◌, ◌&&◌, not, Bool, false, Option, Some, None, List, [], ◌∷◌, if◌then◌else◌}
use Rattle.sh_types.specs.declared.code.Function.{Function}
use Rattle.sh_types.specs.declared.code.Rule.{Rule}
use Rattle.sh_types.specs.declared.code.Rule.TheVariants.{EntryUsed, PointerInside}
use Rattle.sh_types.specs.declared.relocs.Reloc.{Reloc}
use Rattle.sh_machines.specs.Class.{lies_inside, named_by}
use Rattle.image_rules.specs.Binding.{is_data_pointer, is_pointer, is_pointer_to}

-- how far an address is from the function's start
abbrev pub offset_in : Function → Option ℕ → ℕ
offset_in f None = 0
offset_in f (Some a) = a - f.home

-- the address lies inside the function past its start and is that of no whole word
abbrev pub splits_word : Function → Option ℕ → Bool
splits_word f None = false
splits_word f (Some a) = lies_inside a f && not ((a - f.home) % 4 == 0)

-- where a record refuses the function, and by which rule: one in data inside it that names no whole word, or, of the entry
-- function, one that takes its start
abbrev pub refusal_by : (is_entry : Bool) → Function → Reloc → Option (ℕ × Rule)
refusal_by is_entry f r =
    if is_data_pointer r && splits_word f (named_by r) then Some (offset_in f (named_by r), PointerInside)
    else if is_entry && is_pointer_to is_pointer f.home r then Some (0, EntryUsed)
    else None

abbrev pub refusal_or : Option (ℕ × Rule) → Option (ℕ × Rule) → Option (ℕ × Rule)
refusal_or None later = later
refusal_or (Some refusal) later = Some refusal

-- the first record that refuses the function, in file order
abbrev pub record_refusal : (is_entry : Bool) → Function → List Reloc → Option (ℕ × Rule)
record_refusal is_entry f [] = None
record_refusal is_entry f (r ∷ rs) = refusal_or (refusal_by is_entry f r) (record_refusal is_entry f rs)
