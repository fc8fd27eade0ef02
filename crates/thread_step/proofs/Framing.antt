-- SPDX-License-Identifier: Apache-2.0
-- Saves and restores, by what the instruction says and what the frame's state says.
use Rattle.std.proofs.Common.{◌≡◌, Bool, true, false, Option, Some, None, refl, ap, ◌∙◌}
use Rattle.std.specs.Prelude.{IsTrue, ◌&&◌}
use Rattle.std.proofs.lemmas.Bool.{and_parts}
use Rattle.rv_table.specs.Arithmetic.{is_load}
use Rattle.rv_table.specs.Instruction.{row_of}
use Rattle.rv_table.specs.declared.instructions.Instr.{Instr}
use Rattle.rv_table.specs.declared.instructions.Op.{Op}
use Rattle.rv_table.specs.declared.instructions.Op.TheVariants.{Ld, Sd}
use Rattle.sh_machines.specs.Copy.{is_ld, is_reg, is_sd, is_slot_at, restores, saves}
use Rattle.sh_machines.specs.Kind.{Loads, Restores, Saves, Stores, framed_kind, plain_kind}
use Rattle.sh_types.specs.declared.code.FrameState.{FrameState}
use Rattle.sh_types.specs.declared.code.Pair.{Pair}
use Rattle.thread_step.specs.Framed.{is_in_ra, is_saved_at, loads_ra, stores_ra}
use Rattle.thread_step.proofs.Grouping.{loads_kind, stores_kind}

sd_is : (op : Op) → is_sd op ≡ true → op ≡ Sd
sd_is Sd e = refl
sd_is _ e = absurd (cc)

ld_is : (op : Op) → is_ld op ≡ true → op ≡ Ld
ld_is Ld e = refl
ld_is _ e = absurd (cc)

stored : (i : Instr) → stores_ra i ≡ true → i.op ≡ Sd
stored i e = sd_is i.op (and_parts _ _ (and_parts _ _ e).0).0

loaded : (i : Instr) → loads_ra i ≡ true → i.op ≡ Ld
loaded i e = ld_is i.op (and_parts _ _ (and_parts _ _ e).0).0

-- a save or a restore in two parts
saves_by : (s : FrameState) (i : Instr) (a b : Bool) → stores_ra i ≡ a → is_reg s.ra ≡ b → saves s i ≡ (a && b)
unfolding saves
saves_by s i a b e f = ap (λ x. x && is_reg s.ra) e ∙ ap (λ y. a && y) f

restores_by : (s : FrameState) (i : Instr) (a b : Bool) → loads_ra i ≡ a → is_slot_at i.imm s.depth s.ra ≡ b → restores s i ≡ (a && b)
unfolding restores
restores_by s i a b e f = ap (λ x. x && is_slot_at i.imm s.depth s.ra) e ∙ ap (λ y. a && y) f

load_saves_none : (i : Instr) → loads_ra i ≡ true → stores_ra i ≡ false
load_saves_none i e = rw (loaded i e) refl

store_loads_none : (i : Instr) → stores_ra i ≡ true → loads_ra i ≡ false
store_loads_none i e = rw (stored i e) refl

store_plain : (i : Instr) → stores_ra i ≡ true → plain_kind {T = Pair} i ≡ Stores i
unfolding row_of
store_plain i e = stores_kind i (rw (stored i e) refl)

pub is_loading : (i : Instr) → loads_ra i ≡ true → IsTrue (is_load i.op)
unfolding row_of
is_loading i e = rw (loaded i e) refl

load_plain : (i : Instr) → loads_ra i ≡ true → plain_kind {T = Pair} i ≡ Loads i
load_plain i e = loads_kind i (is_loading i e)

-- the kinds of `sd ra,k(sp)`
pub save_kind : (row : Option FrameState) (i : Instr) → stores_ra i ≡ true → is_in_ra row ≡ true → framed_kind {T = Pair} row i ≡ Saves i.imm
save_kind None i e f = absurd (cc)
save_kind (Some s) i e f = rw (saves_by s i true true e f) refl

pub store_kind : (row : Option FrameState) (i : Instr) → stores_ra i ≡ true → is_in_ra row ≡ false → framed_kind {T = Pair} row i ≡ Stores i
store_kind None i e f = store_plain i e
store_kind (Some s) i e f =
    let none = restores_by s i false (is_slot_at i.imm s.depth s.ra) (store_loads_none i e) refl in
    rw (saves_by s i true false e f, none) (store_plain i e)

-- and of `ld ra,k(sp)`
pub restore_kind : (row : Option FrameState) (i : Instr) → loads_ra i ≡ true → is_saved_at i.imm row ≡ true → framed_kind {T = Pair} row i ≡ Restores i.imm
restore_kind None i e f = absurd (cc)
restore_kind (Some s) i e f =
    let none = saves_by s i false (is_reg s.ra) (load_saves_none i e) refl in
    rw (none, restores_by s i true true e f) refl

pub load_kind : (row : Option FrameState) (i : Instr) → loads_ra i ≡ true → is_saved_at i.imm row ≡ false → framed_kind {T = Pair} row i ≡ Loads i
load_kind None i e f = load_plain i e
load_kind (Some s) i e f =
    let none = saves_by s i false (is_reg s.ra) (load_saves_none i e) refl in
    rw (none, restores_by s i true false e f) (load_plain i e)

-- all others go by their mnemonic
pub unframed_kind : (row : Option FrameState) (i : Instr) → stores_ra i ≡ false → loads_ra i ≡ false → framed_kind {T = Pair} row i ≡ plain_kind i
unframed_kind None i e f = refl
unframed_kind (Some s) i e f =
    let none = saves_by s i false (is_reg s.ra) e refl in
    let neither = restores_by s i false (is_slot_at i.imm s.depth s.ra) f refl in
    rw (none, neither) refl
