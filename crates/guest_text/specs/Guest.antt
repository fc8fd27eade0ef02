-- SPDX-License-Identifier: Apache-2.0
-- The source of a guest by a number, in the assembler's language. This project's own program: four harts share the bytes
-- that it reads, a quarter each. A hart has a sum, 0 at first. For each byte it hands the sum plus the byte to one of the
-- functions in a table, the one in the row that is the byte modulo the guest's number, and what that returns is the next
-- sum. The last sums of the four are the output.
use Rattle.std.specs.Prelude.{ℕ, List, [], ◌∷◌, ◌++◌, map, codes, decimal}
use Rattle.std.specs.List.{concat, range_with_len}

-- pieces of text, one behind the other
abbrev pub text : List (List ℕ) → List ℕ
text [] = []
text (a ∷ []) = a
text (a ∷ b ∷ cs) = a ++ text (b ∷ cs)

-- the texts of the numbers from 0 on, so many, one behind the other
unfoldable pub each : (ℕ → List ℕ) → ℕ → List ℕ
each text_of count = concat (map text_of (range_with_len 0 count))

-- ---- the functions

-- The entry function: it reads, starts a hart for each quarter but the first, works on the first, waits until the other
-- harts have ended, writes the sums, and exits with 0.
unfoldable pub start_text : List ℕ
start_text =
    codes ".entry start\n.func start\nli a0, 0\nla a1, buf\nli a2, 16384\nli a7, 63\necall\nla t0, len\nsd a0, 0(t0)\n"
    ++ codes "li s0, 1\nmore:\nla a0, work\nmv a1, s0\nla t0, stk\nslli t1, s0, 12\nadd a2, t0, t1\nli a3, 0\nli a7, 2000\necall\naddi s0, s0, 1\nli t0, 4\nbne s0, t0, more\n"
    ++ codes "li a0, 0\ncall work\nli s0, 1\nwait:\nmv a0, s0\nli a7, 2001\necall\nbeqz a0, wait\naddi s0, s0, 1\nli t0, 4\nbne s0, t0, wait\n"
    ++ codes "li a0, 1\nla a1, sums\nli a2, 32\nli a7, 64\necall\nli a0, 0\nli a7, 93\necall\n.endfunc\n"

-- It saves registers, finds where its quarter begins and ends, and takes the next byte of it.
unfoldable pub work_begin : List ℕ
work_begin =
    codes ".func work\naddi sp, sp, -48\nsd ra, 40(sp)\nsd s0, 32(sp)\nsd s1, 24(sp)\nsd s2, 16(sp)\nsd s3, 8(sp)\n"
    ++ codes "mv s3, a0\nla t0, len\nld t1, 0(t0)\nmul s0, s3, t1\nsrli s0, s0, 2\naddi t2, s3, 1\nmul s1, t2, t1\nsrli s1, s1, 2\nli s2, 0\n"
    ++ codes "again:\nbeq s0, s1, done\nla t0, buf\nadd t0, t0, s0\nlbu t1, 0(t0)\n"

-- the number, by which the byte's remainder is taken
unfoldable pub divisor_line : ℕ → List ℕ
divisor_line number = text (codes "li t2, " ∷ decimal number ∷ codes "\n" ∷ [])

-- It takes the remainder, calls the function in that row of the table, and goes on with the next byte; behind the last
-- it keeps the sum, and restores registers.
unfoldable pub work_end : List ℕ
work_end =
    codes "remu t2, t1, t2\nslli t2, t2, 3\nla t3, tab\nadd t3, t3, t2\nld t3, 0(t3)\nadd a0, s2, t1\njalr ra, 0(t3)\nmv s2, a0\naddi s0, s0, 1\nj again\n"
    ++ codes "done:\nla t0, sums\nslli t1, s3, 3\nadd t0, t0, t1\nsd s2, 0(t0)\n"
    ++ codes "ld ra, 40(sp)\nld s0, 32(sp)\nld s1, 24(sp)\nld s2, 16(sp)\nld s3, 8(sp)\naddi sp, sp, 48\nret\n.endfunc\n"

-- the work on a quarter of the bytes, which it gets by its number
unfoldable pub work_text : ℕ → List ℕ
work_text number = work_begin ++ divisor_line number ++ work_end

-- A function of the table: it hands 31 times what it gets, and its own number more, to the last function, and returns
-- what that returns.
unfoldable pub function_text : ℕ → List ℕ
function_text number =
    text (codes ".func g" ∷ decimal number ∷ codes "\naddi sp, sp, -16\nsd ra, 8(sp)\nslli t0, a0, 5\nsub a0, t0, a0\nli t0, " ∷ decimal number ∷ codes "\nadd a0, a0, t0\ncall mix\nld ra, 8(sp)\naddi sp, sp, 16\nret\n.endfunc\n" ∷ [])

-- the last function: the exclusive or of what it gets and of the same shifted down by 7 bits
unfoldable pub mix_text : List ℕ
mix_text = codes ".func mix\nsrli t0, a0, 7\nxor a0, a0, t0\nret\n.endfunc\n"

-- ---- the data

-- the name of the table
unfoldable pub table_text : List ℕ
table_text = codes "tab:\n"

-- a row of the table: the address of the function with this number
unfoldable pub row_line : ℕ → List ℕ
row_line number = text (codes ".quad g" ∷ decimal number ∷ codes "\n" ∷ [])

-- room for how many bytes were read, for the sums, for the stacks of the harts that are started, and for the bytes
unfoldable pub room_text : List ℕ
room_text = codes "len:\n.quad 0\nsums:\n.zero 32\nstk:\n.zero 12288\nbuf:\n.zero 16384\n"

-- the table, and the room behind it
unfoldable pub data_text : ℕ → List ℕ
data_text number = table_text ++ each row_line number ++ room_text

-- ---- the whole

-- the source of the guest with so many functions in its table
unfoldable pub guest_text : ℕ → List ℕ
guest_text number = start_text ++ work_text number ++ each function_text number ++ mix_text ++ data_text number
