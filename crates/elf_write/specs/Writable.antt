-- SPDX-License-Identifier: Apache-2.0
-- What objects can be written.
use Rattle.std.specs.Prelude.{◌-◌, ◌^◌, ◌<◌, ◌≤◌, length, if◌then◌else◌}
use Rattle.std.specs.List.{All}
use Rattle.sh_types.specs.declared.objects.Object.{Object}
use Rattle.sh_types.specs.declared.objects.Mark.{Mark}
use Rattle.elf_write.specs.Parts.{string_table, names_in, text_part, data_part}

-- the mark lies in its part, and names a symbol
pub record IsMark (object : Object) (mark : Mark) : Type 0 where
  pub inside : mark.at < (if mark.in_text then (text_part object).size else (data_part object).size)
  pub symbol : mark.symbol < length object.symbols

pub record IsWritable (object : Object) : Type 0 where
  -- code and data have at most 64 MiB each
  pub text : (text_part object).size ≤ 67108864
  pub data_size : (data_part object).size ≤ 67108864
  -- places in the string table are numbers of four bytes
  pub names : length (string_table (names_in object.symbols)) < 2 ^ 32 - 1
  -- the entry is a function
  pub entry : object.entry < length object.functions
  pub marks : All (IsMark object) object.marks
  -- places in the file are numbers of eight bytes
  pub few : length object.marks < 2 ^ 32
