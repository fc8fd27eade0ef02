-- SPDX-License-Identifier: Apache-2.0
-- The kinds of relocation records by their numbers, named as the RISC-V psABI ("Relocations") has them without `R_RISCV_`;
-- `abs32` and `abs64` are R_RISCV_32 and R_RISCV_64.
use Rattle.std.specs.Prelude.{ℕ}

-- ---- no value

abbrev pub none : ℕ
none = 0

abbrev pub align : ℕ
align = 43

abbrev pub relax : ℕ
relax = 51

-- ---- whole addresses

abbrev pub abs32 : ℕ
abs32 = 1

abbrev pub abs64 : ℕ
abs64 = 2

-- ---- branches, jumps and calls

abbrev pub branch : ℕ
branch = 16

abbrev pub jal : ℕ
jal = 17

abbrev pub call : ℕ
call = 18

abbrev pub call_plt : ℕ
call_plt = 19

-- ---- distances from an AUIPC: the high part, of an entry of the global offset table or of the symbol itself, and the low
-- parts, whose symbol is the place of the high part

abbrev pub got_hi20 : ℕ
got_hi20 = 20

abbrev pub pcrel_hi20 : ℕ
pcrel_hi20 = 23

abbrev pub pcrel_lo12_i : ℕ
pcrel_lo12_i = 24

abbrev pub pcrel_lo12_s : ℕ
pcrel_lo12_s = 25

-- ---- addresses in a high and a low part

abbrev pub hi20 : ℕ
hi20 = 26

abbrev pub lo12_i : ℕ
lo12_i = 27

abbrev pub lo12_s : ℕ
lo12_s = 28

-- ---- offsets from the thread pointer

abbrev pub tprel_hi20 : ℕ
tprel_hi20 = 29

abbrev pub tprel_lo12_i : ℕ
tprel_lo12_i = 30

abbrev pub tprel_lo12_s : ℕ
tprel_lo12_s = 31

abbrev pub tprel_add : ℕ
tprel_add = 32
