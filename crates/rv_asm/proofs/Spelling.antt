-- SPDX-License-Identifier: Apache-2.0
-- The words of instructions decode to them.
use Rattle.std.proofs.Common.{◌≡◌, ◌∙◌, ℕ, ◌^◌, ◌<◌, Bool, true, false, List, [], ◌∷◌, refl, ap, arith}
use Rattle.std.specs.Prelude.{ℤ, pos, negsuc, ◌&&◌, nat_lt, Option, Some, map}
use Rattle.std.proofs.lemmas.Bool.{ltb-true}
use Rattle.rv_table.specs.declared.instructions.Op.{Op}
use Rattle.rv_table.specs.declared.instructions.Op.TheVariants.{Lui}
use Rattle.rv_table.specs.declared.instructions.Instr.{Instr}
use Rattle.rv_table.specs.Instruction.{row_of, low_bits, IsSigned, FieldsFit, IsInstr, fields, word_of}
use Rattle.rv_table.specs.declared.rows.Form.{Form}
use Rattle.rv_table.specs.declared.rows.Form.TheVariants.{Upper, Jump, Branch, Immediate, Storing, Register, Shift6, Shift5, Atomic, Reserving, Fencing, Whole}
use Rattle.rv_table.specs.declared.rows.Row.{Row}
use Rattle.rv_table.specs.Decoding.{decoded}
use Rattle.rv_table.proofs.Reading.{decoded_encodes}
use Rattle.asm_text.specs.declared.statements.Item.{Item}
use Rattle.asm_places.specs.declared.places.Place.{Place}
use Rattle.asm_places.specs.declared.targets.Target.{Target}
use Rattle.asm_places.specs.Places.{place_after, first_place}
use Rattle.asm_places.specs.Targets.{distance_to, target_of, last_place}
use Rattle.asm_places.specs.Laying.{text_end}
use Rattle.rv_asm.specs.Checking.{IsChecked}
use Rattle.rv_asm.specs.Data.{target_in}
use Rattle.rv_asm.specs.Fitting.{AllFit, AllDecode}
use Rattle.rv_asm.specs.Words.{AreInstrs, instrs_of}
use Rattle.rv_asm.proofs.Reaching.{checked_fit}

-- what stands above the fields fits its place
abbrev above_fits : Form → ℕ → Bool
above_fits Register n = nat_lt n 128
above_fits Shift6 n = nat_lt n 64
above_fits Shift5 n = nat_lt n 128
above_fits Atomic n = nat_lt n 32
above_fits Reserving n = nat_lt n 32
above_fits Whole n = nat_lt n 4096
above_fits _ n = true

abbrev row_fits : Row → Bool
row_fits r = nat_lt r.opcode 128 && (nat_lt r.funct3 8 && above_fits r.form r.above)

all_fit : (op : Op) → row_fits (row_of op) ≡ true
unfolding row_of
all_fit Lui = refl
all_fit _ = refl

both : (a b : Bool) → (a && b) ≡ true → (a ≡ true) × (b ≡ true)
both true b e = (refl, e)
both false b e = (cc, cc)

low_32 : (imm : ℤ) → IsSigned 31 imm → low_bits 32 imm < 2 ^ 32
low_32 (pos n) h = omega arith
low_32 (negsuc n) h = omega arith

low_21 : (imm : ℤ) → IsSigned 20 imm → low_bits 21 imm < 2 ^ 21
low_21 (pos n) h = omega arith
low_21 (negsuc n) h = omega arith

low_13 : (imm : ℤ) → IsSigned 12 imm → low_bits 13 imm < 2 ^ 13
low_13 (pos n) h = omega arith
low_13 (negsuc n) h = omega arith

low_12 : (imm : ℤ) → IsSigned 11 imm → low_bits 12 imm < 2 ^ 12
low_12 (pos n) h = omega arith
low_12 (negsuc n) h = omega arith

below : (r : Row) (rd rs1 rs2 : ℕ) (imm : ℤ) (f : Form) → r.opcode < 128 → r.funct3 < 8 → above_fits f r.above ≡ true → FieldsFit rd rs1 rs2 imm f → fields r rd rs1 rs2 imm f < 2 ^ 32
below r rd rs1 rs2 imm Upper o k a h = let n : low_bits 32 imm < 2 ^ 32 = low_32 imm h.3 in omega arith
below r rd rs1 rs2 imm Jump o k a h = let n : low_bits 21 imm < 2 ^ 21 = low_21 imm h.3 in omega arith
below r rd rs1 rs2 imm Branch o k a h = let n : low_bits 13 imm < 2 ^ 13 = low_13 imm h.3 in omega arith
below r rd rs1 rs2 imm Immediate o k a h = let n : low_bits 12 imm < 2 ^ 12 = low_12 imm h.3 in omega arith
below r rd rs1 rs2 imm Storing o k a h = let n : low_bits 12 imm < 2 ^ 12 = low_12 imm h.3 in omega arith
below r rd rs1 rs2 imm Register o k a h = let t : r.above < 128 = ltb-true r.above 128 a in omega arith
below r rd rs1 rs2 (pos n) Shift6 o k a h = let t : r.above < 64 = ltb-true r.above 64 a in omega arith
below r rd rs1 rs2 (negsuc n) Shift6 o k a h = absurd h.3
below r rd rs1 rs2 (pos n) Shift5 o k a h = let t : r.above < 128 = ltb-true r.above 128 a in omega arith
below r rd rs1 rs2 (negsuc n) Shift5 o k a h = absurd h.3
below r rd rs1 rs2 (pos n) Atomic o k a h = let t : r.above < 32 = ltb-true r.above 32 a in omega arith
below r rd rs1 rs2 (negsuc n) Atomic o k a h = absurd h.3
below r rd rs1 rs2 (pos n) Reserving o k a h = let t : r.above < 32 = ltb-true r.above 32 a in omega arith
below r rd rs1 rs2 (negsuc n) Reserving o k a h = absurd h.3
below r rd rs1 rs2 (pos n) Fencing o k a h = omega arith
below r rd rs1 rs2 (negsuc n) Fencing o k a h = absurd h.3
below r rd rs1 rs2 imm Whole o k a h = let t : r.above < 4096 = ltb-true r.above 4096 a in omega arith

pub word_decodes : (i : Instr) → IsInstr i → decoded (word_of i) ≡ Some i
word_decodes i h =
    let r = row_of i.op in
    let first = both (nat_lt r.opcode 128) (nat_lt r.funct3 8 && above_fits r.form r.above) (all_fit i.op) in
    let second = both (nat_lt r.funct3 8) (above_fits r.form r.above) first.1 in
    let small : word_of i < 2 ^ 32 = below r i.rd i.rs1 i.rs2 i.imm r.form (ltb-true r.opcode 128 first.0) (ltb-true r.funct3 8 second.0) second.1 h in
    decoded_encodes (word_of i) i small (record { fits = h; spelled = refl })

words_decode : (is : List Instr) → AreInstrs is → map decoded (map word_of is) ≡ map Some is
words_decode [] h = refl
words_decode (i ∷ is) h =
    ap (λ (o : Option Instr). o ∷ map decoded (map word_of is)) (word_decodes i h.0) ∙ ap (λ (os : List (Option Instr)). Some i ∷ os) (words_decode is h.1)

fit_decode : (find : ℕ → List ℕ → Option Target) (size : ℕ) (place : Place) (items : List Item) → AllFit find size place items → AllDecode find size place items
unfolding AllFit AllDecode
fit_decode find size place [] h = tt
fit_decode find size place (item ∷ items) h =
    (words_decode (instrs_of (distance_to size place (target_of find place.functions item.statement)) item.statement) h.0.instrs, fit_decode find size (place_after place item.statement) items h.1)

pub checked_decode : (items : List Item) → IsChecked items → AllDecode (target_in items) (text_end items) first_place items
checked_decode items h =
    fit_decode (target_in items) (text_end items) first_place items (checked_fit (target_in items) (last_place first_place items) items h refl (λ s q. refl))
