-- SPDX-License-Identifier: Apache-2.0
-- The numbers of this machine, each named once: where memory and cells lie, how much code there may be, how many harts
-- and how deep a frame. This project's own.
use Rattle.std.specs.Prelude.{ℕ, ◌/◌, ◌^◌}

-- ---- the cells, in which layouts lie: how many there are, the bytes of each, and where the first begins. Memory ends there.

abbrev pub cell_count : ℕ
cell_count = 256

abbrev pub cell_size : ℕ
cell_size = 1048576

abbrev pub first_cell : ℕ
first_cell = 0x40000000

-- the words of a cell, and so of a copy
abbrev pub words_in_cell : ℕ
words_in_cell = cell_size / 4

-- how many cells a layout leaves alone: those of so many layouts before it
abbrev pub recent_cells : ℕ
recent_cells = 64

-- ---- the code: how many functions, how many bytes of code, and where an image ends at the latest

abbrev pub most_functions : ℕ
most_functions = 16384

abbrev pub most_code : ℕ
most_code = 524288

abbrev pub image_end : ℕ
image_end = 0x3f000000

-- the bytes of all segments in memory, at most
abbrev pub most_mapped : ℕ
most_mapped = 67108864

-- how many numbers a word of a copy can name a literal by
abbrev pub most_literals : ℕ
most_literals = 2 ^ 20

-- ---- the harts: how many are ever started, and so how many keys a layout has; and how deep a frame may be

abbrev pub most_harts : ℕ
most_harts = 64

abbrev pub most_depth : ℕ
most_depth = 2 ^ 20

-- ---- the first stack: where it begins and ends, how many bytes that are, and sp at first

abbrev pub stack_start : ℕ
stack_start = 0x3ff00000

abbrev pub stack_end : ℕ
stack_end = 0x40000000

abbrev pub stack_size : ℕ
stack_size = 1048576

abbrev pub first_sp : ℕ
first_sp = 0x3ffff000
