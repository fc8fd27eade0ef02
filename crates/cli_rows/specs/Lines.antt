-- SPDX-License-Identifier: Apache-2.0
-- The lines that the program writes to the report where it refuses, and its help. This project's own.
use Rattle.std.specs.Prelude.{ℕ, List, ◌++◌, codes, decimal}

unfoldable pub usage_line : List ℕ
usage_line = codes "shuffler: usage\n"

-- the commands, a line each
unfoldable pub help_text : List ℕ
help_text = codes "shuffler run FILE\nshuffler plain FILE\nshuffler check FILE\nshuffler asm SRC OUT\nshuffler demo N\nshuffler help\n"

unfoldable pub unreadable_line : List ℕ → List ℕ
unreadable_line name = codes "shuffler: file " ++ name ++ codes " cannot be read\n"

unfoldable pub unwritable_line : List ℕ → List ℕ
unwritable_line name = codes "shuffler: file " ++ name ++ codes " cannot be written\n"

unfoldable pub longer_front : List ℕ → List ℕ
longer_front name = codes "shuffler: file " ++ name ++ codes " is longer than "

abbrev pub too_long_line : (name : List ℕ) → (limit : ℕ) → List ℕ
too_long_line name limit = (longer_front name ++ decimal limit) ++ codes " bytes\n"
