-- SPDX-License-Identifier: Apache-2.0
-- The instructions of a statement in range are instructions of the table.
use Rattle.std.proofs.Common.{◌≡◌, ℕ, ◌+◌, ◌-◌, ◌*◌, ◌/◌, ◌%◌, ◌^◌, ◌<◌, ◌≤◌, Bool, true, false, refl, sym, subst, lit<, lit≤, arith}
use Rattle.std.specs.Prelude.{ℤ, pos, negsuc, nat_lt, [], ◌∷◌, if◌then◌else◌}
use Rattle.std.proofs.lemmas.Bool.{ltb-true, ltb-false}
use Rattle.rv_table.specs.declared.instructions.Op.{Op}
use Rattle.rv_table.specs.declared.instructions.Op.TheVariants.{Lui, Auipc, Jal, Jalr, Addi, Addiw, Slli, Srli, Srai, Slliw, Srliw, Sraiw}
use Rattle.rv_table.specs.Instruction.{row_of, low_bits, IsSigned, IsUnsigned, FieldsFit, IsInstr}
use Rattle.rv_table.specs.declared.rows.Form.{Form}
use Rattle.rv_table.specs.declared.rows.Form.TheVariants.{Upper, Jump, Branch, Immediate, Storing, Register, Shift6, Shift5, Atomic, Reserving, Fencing, Whole}
use Rattle.rv_table.specs.Decoding.{made, signed_bits}
use Rattle.asm_text.specs.declared.statements.Statement.{Statement}
use Rattle.asm_text.specs.declared.statements.Statement.TheVariants as statement
use Rattle.asm_places.specs.Places.{natural, is_small}
use Rattle.asm_places.specs.Ranges.{is_from, is_immediate, is_in_range}
use Rattle.rv_asm.specs.Formed.{HasOperands, IsFormed}
use Rattle.rv_asm.specs.Words.{upper, lower, instrs_of, AreInstrs}

-- a number in range fits the form
abbrev NumberFits : Form → ℤ → Type 0
NumberFits Shift6 imm = IsUnsigned 6 imm
NumberFits Shift5 imm = IsUnsigned 5 imm
NumberFits _ imm = IsSigned 11 imm

unsigned : (k high : ℕ) (imm : ℤ) → high ≤ 2 ^ k → is_from 0 high imm ≡ true → IsUnsigned k imm
unsigned k high (pos n) l e = let lt : n < high = ltb-true n high e in omega arith
unsigned k high (negsuc n) l e = let lt : n < 0 = ltb-true n 0 e in absurd (omega arith)

signed : (k low : ℕ) (imm : ℤ) → low ≤ 2 ^ k → is_from low low imm ≡ true → IsSigned k imm
signed k low (pos n) l e = let lt : n < low = ltb-true n low e in omega arith
signed k low (negsuc n) l e = let lt : n < low = ltb-true n low e in omega arith

number_fits : (op : Op) (imm : ℤ) → is_immediate op imm ≡ true → NumberFits (row_of op).form imm
unfolding is_immediate row_of
number_fits Slli imm e = unsigned 6 64 imm (lit≤ tt) e
number_fits Srli imm e = unsigned 6 64 imm (lit≤ tt) e
number_fits Srai imm e = unsigned 6 64 imm (lit≤ tt) e
number_fits Slliw imm e = unsigned 5 32 imm (lit≤ tt) e
number_fits Srliw imm e = unsigned 5 32 imm (lit≤ tt) e
number_fits Sraiw imm e = unsigned 5 32 imm (lit≤ tt) e
number_fits _ imm e = signed 11 2048 imm (lit≤ tt) e

zero_below : (n : ℕ) → n ≡ 0 → n < 32
zero_below n e = omega arith

zero_fits : (k : ℕ) (imm : ℤ) → 0 < 2 ^ k → imm ≡ pos 0 → IsUnsigned k imm
zero_fits k imm low e = subst (IsUnsigned k) (sym e) low

fields_fit : (rd rs1 rs2 : ℕ) (imm : ℤ) (f : Form) → HasOperands rd rs1 rs2 imm f → NumberFits f imm → FieldsFit rd rs1 rs2 imm f
fields_fit rd rs1 rs2 imm Upper h n = absurd h
fields_fit rd rs1 rs2 imm Jump h n = absurd h
fields_fit rd rs1 rs2 imm Branch h n = absurd h
fields_fit rd rs1 rs2 imm Immediate h n = (h.0, h.1, h.2, n)
fields_fit rd rs1 rs2 imm Storing h n = (h.0, h.1, h.2, n)
fields_fit rd rs1 rs2 imm Register h n = h
fields_fit rd rs1 rs2 imm Shift6 h n = (h.0, h.1, h.2, n)
fields_fit rd rs1 rs2 imm Shift5 h n = (h.0, h.1, h.2, n)
fields_fit rd rs1 rs2 imm Atomic h n = (h.0, h.1, h.2, zero_fits 2 imm (lit< tt) h.3)
fields_fit rd rs1 rs2 imm Reserving h n = (h.0, h.1, h.2, zero_fits 2 imm (lit< tt) h.3)
fields_fit rd rs1 rs2 imm Fencing h n = (zero_below rd h.0, zero_below rs1 h.1, h.2, zero_fits 12 imm (lit< tt) h.3)
fields_fit rd rs1 rs2 imm Whole h n = h

-- ---- halves of 32 bits

abbrev UpperFits : ℤ → Type 0
UpperFits imm = IsSigned 31 imm × (low_bits 32 imm % 2 ^ 12 ≡ 0)

upper_by : (n : ℕ) (t : Bool) → nat_lt n (2 ^ 31) ≡ t → n < 2 ^ 32 → n % 2 ^ 12 ≡ 0 → UpperFits (if t then pos n else negsuc (2 ^ 31 + 2 ^ 31 - (n + 1)))
upper_by n true e small whole = (ltb-true n (2 ^ 31) e, whole)
upper_by n false e small whole =
    let high : 2 ^ 31 ≤ n = ltb-false n (2 ^ 31) e in
    let back : 2 ^ 32 - (2 ^ 31 + 2 ^ 31 - (n + 1) + 1) ≡ n = omega arith in
    (omega arith, subst (λ (m : ℕ). m % 2 ^ 12 ≡ 0) (sym back) whole)

upper_fits : (n : ℕ) → n < 2 ^ 32 → n % 2 ^ 12 ≡ 0 → UpperFits (signed_bits 31 n)
upper_fits n small whole = upper_by n (nat_lt n (2 ^ 31)) refl small whole

pages : (n : ℕ) → n < 2 ^ 20 → UpperFits (signed_bits 31 (n * 4096))
pages n small = upper_fits (n * 4096) (omega arith) (omega arith)

lower_by : (n : ℕ) (t : Bool) → nat_lt n (2 ^ 11) ≡ t → n < 2 ^ 12 → IsSigned 11 (if t then pos n else negsuc (2 ^ 11 + 2 ^ 11 - (n + 1)))
lower_by n true e small = ltb-true n (2 ^ 11) e
lower_by n false e small = let high : 2 ^ 11 ≤ n = ltb-false n (2 ^ 11) e in omega arith

upper_half : (value : ℤ) → UpperFits (upper value)
unfolding upper
upper_half value = pages ((low_bits 32 value + 2048) / 4096 % 2 ^ 20) (omega arith)

lower_half : (value : ℤ) → IsSigned 11 (lower value)
unfolding lower
lower_half value = let n = low_bits 32 value % 4096 in lower_by n (nat_lt n (2 ^ 11)) refl (omega arith)

-- ---- statements

upper_instr : (rd : ℕ) (imm : ℤ) (f : Form) → f ≡ Upper → rd < 32 → UpperFits imm → FieldsFit rd 0 0 imm f
upper_instr rd imm f e r u = subst (FieldsFit rd 0 0 imm) (sym e) (r, refl, refl, u.0, u.1)

branch_instr : (rs1 rs2 : ℕ) (imm : ℤ) (f : Form) → f ≡ Branch → rs1 < 32 → rs2 < 32 → IsSigned 12 imm → low_bits 13 imm % 2 ≡ 0 → FieldsFit 0 rs1 rs2 imm f
branch_instr rs1 rs2 imm f e a b s even = subst (FieldsFit 0 rs1 rs2 imm) (sym e) (refl, a, b, s, even)

small_signed : (value : ℤ) → is_small value ≡ true → IsSigned 11 value
small_signed (pos n) e = let lt : n < 2048 = ltb-true n 2048 e in omega arith
small_signed (negsuc n) e = let lt : n < 2048 = ltb-true n 2048 e in omega arith

literal_fits : (t : Bool) (rd : ℕ) (value : ℤ) → is_small value ≡ t → rd < 32
    → AreInstrs (if t then made Addi rd 0 0 value ∷ [] else made Lui rd 0 0 (upper value) ∷ made Addiw rd rd 0 (lower value) ∷ [])
unfolding row_of
literal_fits true rd value e r = ((r, lit< tt, refl, small_signed value e), tt)
literal_fits false rd value e r = ((r, refl, refl, (upper_half value).0, (upper_half value).1), ((r, r, refl, lower_half value), tt))

upper_value : (op : Op) (rd : ℕ) (value : ℤ) → rd < 32 → (row_of op).form ≡ Upper → is_from 0 (2 ^ 20) value ≡ true → IsInstr (made op rd 0 0 (signed_bits 31 (natural value * 4096)))
upper_value op rd (pos n) r f e = let lt : n < 2 ^ 20 = ltb-true n (2 ^ 20) e in upper_instr rd (signed_bits 31 (n * 4096)) (row_of op).form f r (pages n lt)
upper_value op rd (negsuc n) r f e = let lt : n < 0 = ltb-true n 0 e in absurd (omega arith)

pair_fits : (base rd : ℕ) (distance : ℤ) → base < 32 → rd < 32 → AreInstrs (made Auipc base 0 0 (upper distance) ∷ made Jalr rd base 0 (lower distance) ∷ [])
unfolding row_of
pair_fits base rd distance b r = ((b, refl, refl, (upper_half distance).0, (upper_half distance).1), ((r, b, refl, lower_half distance), tt))

address_fits : (rd : ℕ) (distance : ℤ) → rd < 32 → AreInstrs (made Auipc rd 0 0 (upper distance) ∷ made Addi rd rd 0 (lower distance) ∷ [])
unfolding row_of
address_fits rd distance r = ((r, refl, refl, (upper_half distance).0, (upper_half distance).1), ((r, r, refl, lower_half distance), tt))

jump_fits : (rd : ℕ) (distance : ℤ) → rd < 32 → IsSigned 20 distance → low_bits 21 distance % 2 ≡ 0 → IsInstr (made Jal rd 0 0 distance)
unfolding row_of
jump_fits rd distance r s even = (r, refl, refl, s, even)

-- the distance suits a branch or JAL
abbrev pub Reaches : ℤ → Statement → Type 0
Reaches d (statement.Branch op rs1 rs2 label) = IsSigned 12 d × (low_bits 13 d % 2 ≡ 0)
Reaches d (statement.Jump rd target) = IsSigned 20 d × (low_bits 21 d % 2 ≡ 0)
Reaches d _ = Unit {0}

pub are_instrs : (d : ℤ) (s : Statement) → IsFormed s → is_in_range s ≡ true → Reaches d s → AreInstrs (instrs_of d s)
unfolding instrs_of is_in_range
are_instrs d (statement.Plain op rd rs1 rs2 imm) h e r = (fields_fit rd rs1 rs2 imm (row_of op).form h (number_fits op imm e), tt)
are_instrs d (statement.Upper op rd value) h e r = (upper_value op rd value h.0 h.1 e, tt)
are_instrs d (statement.Branch op rs1 rs2 label) h e r = (branch_instr rs1 rs2 d (row_of op).form h.2 h.0 h.1 r.0 r.1, tt)
are_instrs d (statement.Jump rd target) h e r = (jump_fits rd d h r.0 r.1, tt)
are_instrs d (statement.Literal rd value) h e r = literal_fits (is_small value) rd value refl h
are_instrs d (statement.Address rd name) h e r = address_fits rd d h
are_instrs d (statement.Call name) h e r = pair_fits 1 1 d (lit< tt) (lit< tt)
are_instrs d (statement.Tail name) h e r = pair_fits 6 0 d (lit< tt) (lit< tt)
are_instrs d _ h e r = tt
