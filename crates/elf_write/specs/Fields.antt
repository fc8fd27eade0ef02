-- SPDX-License-Identifier: Apache-2.0
-- Numbers as a file holds them, the lowest byte first (System V gABI, "Data Representation").
use Rattle.std.specs.Prelude.{ℕ, zero, suc, ◌/◌, ◌%◌, List, [], ◌∷◌, ◌++◌}
use Rattle.elf_write.specs.declared.fields.Field.{Field}
use Rattle.elf_write.specs.declared.fields.Field.TheVariants.{Byte, Half, Word, Xword}

-- the n bytes of a number
unfoldable pub little : ℕ → ℕ → List ℕ
little zero value = []
little (suc n) value = value % 256 ∷ little n (value / 256)

-- the bytes of fields, each a number of bytes and a value, one behind the other
unfoldable pub fields : List (ℕ × ℕ) → List ℕ
fields [] = []
fields (field ∷ rest) = little field.0 field.1 ++ fields rest

-- the bytes that a type has, and the value
abbrev pub sized : Field → ℕ × ℕ
sized (Byte value) = (1, value)
sized (Half value) = (2, value)
sized (Word value) = (4, value)
sized (Xword value) = (8, value)
