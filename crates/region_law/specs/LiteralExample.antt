-- SPDX-License-Identifier: Apache-2.0
-- An example of a literal: two functions, the second called `work`, and the record of the AUIPC of `la a0, work`.
use Rattle.std.specs.Prelude.{ℕ, pos, List, [], ◌∷◌, true, codes}
use Rattle.sh_types.specs.declared.code.Function.{Function}
use Rattle.sh_types.specs.declared.relocs.Reloc.{Reloc}
use Rattle.elf_rules.specs.RelocKinds as riscv

-- `start` with 60 bytes at 0x10000, and `work` behind it
abbrev pub two_functions : List Function
two_functions =
    record { home = 0x10000; size = 60; name = codes "start" } ∷ record { home = 0x1003c; size = 4; name = codes "work" } ∷ []

-- R_RISCV_PCREL_HI20 to `work`, on the first word
abbrev pub high_of_work : Reloc
high_of_work = record { place = 0x10000; kind = riscv.pcrel_hi20; base = 0x1003c; addend = pos 0; code = true }

-- the word of `auipc a0, 0`
abbrev pub auipc_word : ℕ
auipc_word = 0x517
