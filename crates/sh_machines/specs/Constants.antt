-- SPDX-License-Identifier: Apache-2.0
-- Which registers hold a known number, from barrier to word: LUI gives one, and ADDI, ADDIW and SLLI of a known register
-- do (RISC-V Unprivileged ISA, "Integer Computational Instructions"). That no more is known is this project's own.
use Rattle.std.specs.Prelude.{ℕ, zero, suc, ◌+◌, ◌*◌, ◌/◌, ◌==◌, ◌&&◌, ◌||◌, Bool, true, false, Option, Some, None, List, [], ◌∷◌, replicate, slice_set, slice_index, slice_index_or, if◌then◌else◌}
use Rattle.std.specs.Option.{option_map}
use Rattle.sh_types.specs.declared.code.Image.{Image}
use Rattle.sh_types.specs.declared.code.Pair.{Pair}
use Rattle.sh_types.specs.declared.code.Site.{Site}
use Rattle.sh_types.specs.declared.code.Site.TheVariants.{Plain, Literal, InnerJump, InnerBranch, DirectCall, DirectTail, IndirectCall, IndirectTail, ReturnLike, Environment, Stop}
use Rattle.sh_types.specs.declared.code.Site.TheVariants as site
use Rattle.rv_table.specs.declared.instructions.Instr.{Instr}
use Rattle.rv_table.specs.declared.instructions.Op.{Op}
use Rattle.rv_table.specs.declared.instructions.Op.TheVariants.{Lui, Addi, Addiw, Slli, Fence}
use Rattle.rv_table.specs.Arithmetic.{alu_of}
use Rattle.rv_table.specs.Decoding.{decoded}
use Rattle.sh_machines.specs.Kind.{opcode_of}
use Rattle.rv_table.specs.Operands.{number_of_imm, plus_imm}

-- x0 alone
unfoldable pub nothing_known : List (Option ℕ)
nothing_known = slice_set (replicate 32 None) 0 (Some 0)

-- what is known of a register
abbrev pub known_in : List (Option ℕ) → ℕ → Option ℕ
known_in known r = slice_index_or known r None

-- the number that the word gives, where it is known
abbrev pub made_known : Op → Instr → List (Option ℕ) → Option ℕ
made_known Lui i known = Some (number_of_imm i.imm)
made_known Addi i known = option_map (λ a. alu_of Addi a (number_of_imm i.imm)) (known_in known i.rs1)
made_known Addiw i known = option_map (λ a. alu_of Addiw a (number_of_imm i.imm)) (known_in known i.rs1)
made_known Slli i known = option_map (λ a. alu_of Slli a (number_of_imm i.imm)) (known_in known i.rs1)
made_known _ i known = None

-- a fence has a field rd that means nothing
abbrev pub is_fence : Op → Bool
is_fence Fence = true
is_fence _ = false

-- what is known after a word: of the register that it writes, what it made, and of the others what was known
abbrev pub after_instr : Option Instr → List (Option ℕ) → List (Option ℕ)
after_instr None known = known
after_instr (Some i) known = if is_fence i.op || (i.rd == 0) then known else slice_set known i.rd (made_known i.op i known)

-- a JAL with rd 0 or a branch at one offset leads to another
abbrev pub leads_to : (to at : ℕ) → Option Instr → Bool
leads_to to a None = false
leads_to to a (Some i) = (((opcode_of i.op == 0x6f) && (i.rd == 0)) || (opcode_of i.op == 0x63)) && (plus_imm a i.imm == to)

-- one of the words from an offset on does, whatever its class
abbrev pub any_leads : (to at : ℕ) → List ℕ → Bool
any_leads to a [] = false
any_leads to a (w ∷ ws) = leads_to to a (decoded w) || any_leads to (a + 4) ws

-- The word after it is a barrier. After a refused word none is needed: no walk goes past it.
abbrev pub cuts : Site → Bool
cuts Plain = false
cuts Literal = false
cuts (InnerJump to) = true
cuts (InnerBranch to) = false
cuts (DirectCall g) = true
cuts (DirectTail g) = true
cuts IndirectCall = true
cuts IndirectTail = true
cuts ReturnLike = true
cuts Environment = true
cuts Stop = true
cuts (site.Bad rule) = false

-- a label of the function stands at the offset
abbrev pub is_label_at : List Pair → (func off : ℕ) → Bool
is_label_at [] f o = false
is_label_at (q ∷ qs) f o = ((q.func == f) && (q.off == o)) || is_label_at qs f o

-- a jump or a branch among all words of the function leads to word k + 1, a label stands there, or word k is a call, an
-- environment call, a jump, a tail, a return or a stop
unfoldable pub is_barrier : (words : List ℕ) → List Site → List Pair → (func k : ℕ) → Bool
is_barrier words sites labels f k =
    any_leads (4 * suc k) 0 words || (is_label_at labels f (4 * suc k) || cuts (slice_index_or sites k Plain))

-- what is known before a word of a function
unfoldable pub known_of : (words : List ℕ) → List Site → List Pair → (func k : ℕ) → List (Option ℕ)
known_of words sites labels f zero = nothing_known
known_of words sites labels f (suc k) =
    if is_barrier words sites labels f k then nothing_known else after_instr (decoded (slice_index words k)) (known_of words sites labels f k)

-- what is known before word k of a function of the image
abbrev pub known_at : Image → (func k : ℕ) → List (Option ℕ)
known_at image f k = known_of (slice_index_or image.words f []) (slice_index_or image.sites f []) image.labels f k

-- the known number in a register at a pair
abbrev pub constant_at : Image → Pair → ℕ → Option ℕ
constant_at image p r = known_in (known_at image p.func (p.off / 4)) r
