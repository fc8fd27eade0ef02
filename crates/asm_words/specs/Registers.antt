-- SPDX-License-Identifier: Apache-2.0
-- The names of registers (RISC-V psABI, "Integer Register Convention").
use Rattle.std.specs.Prelude.{ℕ, Option, List, [], ◌∷◌, ◌++◌, codes}
use Rattle.asm_words.specs.Tables.{named, first_of}
use Rattle.asm_words.specs.Characters.{trimmed}

-- x0 to x9
unfoldable pub below_ten : List (List ℕ × ℕ)
below_ten =
    (codes "x0", 0) ∷ (codes "x1", 1) ∷ (codes "x2", 2) ∷ (codes "x3", 3) ∷ (codes "x4", 4)
    ∷ (codes "x5", 5) ∷ (codes "x6", 6) ∷ (codes "x7", 7) ∷ (codes "x8", 8) ∷ (codes "x9", 9) ∷ []

-- x10 to x19
unfoldable pub below_twenty : List (List ℕ × ℕ)
below_twenty =
    (codes "x10", 10) ∷ (codes "x11", 11) ∷ (codes "x12", 12) ∷ (codes "x13", 13) ∷ (codes "x14", 14)
    ∷ (codes "x15", 15) ∷ (codes "x16", 16) ∷ (codes "x17", 17) ∷ (codes "x18", 18) ∷ (codes "x19", 19) ∷ []

-- x20 to x31
unfoldable pub from_twenty : List (List ℕ × ℕ)
from_twenty =
    (codes "x20", 20) ∷ (codes "x21", 21) ∷ (codes "x22", 22) ∷ (codes "x23", 23) ∷ (codes "x24", 24) ∷ (codes "x25", 25)
    ∷ (codes "x26", 26) ∷ (codes "x27", 27) ∷ (codes "x28", 28) ∷ (codes "x29", 29) ∷ (codes "x30", 30) ∷ (codes "x31", 31) ∷ []

-- the names by number
unfoldable pub numbered : List (List ℕ × ℕ)
numbered = below_ten ++ (below_twenty ++ from_twenty)

-- zero, the return address and the pointers
unfoldable pub pointers : List (List ℕ × ℕ)
pointers =
    (codes "zero", 0) ∷ (codes "ra", 1) ∷ (codes "sp", 2) ∷ (codes "gp", 3) ∷ (codes "tp", 4) ∷ []

-- t0 to t6
unfoldable pub temporaries : List (List ℕ × ℕ)
temporaries =
    (codes "t0", 5) ∷ (codes "t1", 6) ∷ (codes "t2", 7) ∷ (codes "t3", 28) ∷ (codes "t4", 29) ∷ (codes "t5", 30) ∷ (codes "t6", 31) ∷ []

-- s0 to s11
unfoldable pub saved : List (List ℕ × ℕ)
saved =
    (codes "s0", 8) ∷ (codes "s1", 9) ∷ (codes "s2", 18) ∷ (codes "s3", 19) ∷ (codes "s4", 20) ∷ (codes "s5", 21)
    ∷ (codes "s6", 22) ∷ (codes "s7", 23) ∷ (codes "s8", 24) ∷ (codes "s9", 25) ∷ (codes "s10", 26) ∷ (codes "s11", 27) ∷ []

-- a0 to a7
unfoldable pub arguments : List (List ℕ × ℕ)
arguments =
    (codes "a0", 10) ∷ (codes "a1", 11) ∷ (codes "a2", 12) ∷ (codes "a3", 13) ∷ (codes "a4", 14) ∷ (codes "a5", 15) ∷ (codes "a6", 16) ∷ (codes "a7", 17) ∷ []

-- the names by use
unfoldable pub by_use : List (List ℕ × ℕ)
by_use = pointers ++ (temporaries ++ (saved ++ arguments))

-- the register of a name
unfoldable pub register_named : List ℕ → Option ℕ
register_named name = first_of (named by_use name) (named numbered name)

-- an operand that is a register
unfoldable pub register_of : List ℕ → Option ℕ
register_of text = register_named (trimmed text)
