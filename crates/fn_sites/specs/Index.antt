-- SPDX-License-Identifier: Apache-2.0
-- What an index of records and labels tells of them.
use Rattle.std.specs.Prelude.{◌≡◌, ◌==◌, ◌+◌, ◌*◌, ◌^◌, ◌<◌, ℕ, Bool, List}
use Rattle.std.specs.List.{list_any}
use Rattle.sh_types.specs.declared.code.Pair.{Pair}
use Rattle.sh_types.specs.declared.relocs.Reloc.{Reloc}
use Rattle.sh_machines.specs.Class.{record_on}
use Rattle.sh_machines.specs.Constants.{is_label_at}
use Rattle.elf_rules.specs.Relocs.{record_at}

-- the records on code, and a number for each label
pub record Marks : Type 0 where
  pub records : List Reloc
  pub labels : List ℕ

-- the number of a label of a function at an offset
abbrev pub label_number : (func off : ℕ) → ℕ
label_number func off = func * 2 ^ 32 + off

-- the number is one of these
abbrev pub is_among : List ℕ → ℕ → Bool
is_among numbers n = list_any (λ m. m == n) numbers

-- they find the records that stand on words, and the labels
pub record Tells (marks : Marks) (relocs : List Reloc) (labels : List Pair) : Type 0 where
  pub on : (address : ℕ) → record_at marks.records address ≡ record_on relocs address
  pub at : (func off : ℕ) → off < 2 ^ 32 → is_among marks.labels (label_number func off) ≡ is_label_at labels func off
