-- SPDX-License-Identifier: Apache-2.0
-- What the machines read and how wide is what the manual's table says.
use Rattle.std.proofs.Common.{◌≡◌, ◌⊎◌, inl, inr, ℕ, Bool, true, false, Option, Some, None, refl, sym, ap, ◌∙◌, arith}
use Rattle.std.specs.Prelude.{slice_index, not, ◌==◌, ◌&&◌, ◌||◌, ◌<◌, if◌then◌else◌}
use Rattle.std.specs.Option.{option_map}
use Rattle.std.proofs.lemmas.Bool.Decides.{nat_tests}
use Rattle.sh_types.specs.declared.code.FrameState.{FrameState}
use Rattle.sh_types.specs.declared.code.Image.{Image}
use Rattle.sh_types.specs.declared.code.Pair.{Pair}
use Rattle.sh_types.specs.declared.code.Site.{Site}
use Rattle.sh_types.specs.declared.code.Site.TheVariants.{Plain, Literal, InnerJump, InnerBranch, DirectCall, DirectTail, IndirectCall, IndirectTail, ReturnLike, Environment, Stop}
use Rattle.sh_types.specs.declared.code.Site.TheVariants as site
use Rattle.rv_table.specs.declared.instructions.Instr.{Instr}
use Rattle.rv_table.specs.declared.instructions.Op.{Op}
use Rattle.rv_table.specs.declared.instructions.Op.TheVariants.{Lui}
use Rattle.rv_table.specs.Arithmetic.{is_arithmetic}
use Rattle.sh_machines.specs.Copy.{saves as saves_word, restores}
use Rattle.rv_table.specs.Decoding.{decoded, op_in, read}
use Rattle.sh_machines.specs.Fine.{IsFine, SiteFits}
use Rattle.sh_types.specs.Image.{sizes_of, word_at, site_at, row_at}
use Rattle.rv_table.specs.Instruction.{row_of}
use Rattle.rv_table.specs.declared.rows.Form.{Form}
use Rattle.rv_table.specs.declared.rows.Form.TheVariants.{Upper, Branch, Storing, Register, Atomic}
use Rattle.sh_machines.specs.Kind.{Kind, Sets, Computes, Passes, Loads, Stores, Atomics, Saves, Restores, CallsTo, JumpsTo, Branches, CallsThrough, JumpsThrough, GoesBack, Asks, Breaks, Illegal, Past, opcode_of, is_system, plain_kind, framed_kind, word_kind, kind_at}
use Rattle.rv_table.specs.Operands.{is_register, reads_ra, both_ra, width_of, is_lr}
use Rattle.sh_machines.specs.Uses.{reads_rs1, reads_rs2, is_reserving, has_operand, bytes_of}

-- ---- the table

abbrev implies : Bool → Bool → Bool
implies a b = not a || b

use_implied : (a b : Bool) → implies a b ≡ true → a ≡ true → b ≡ true
use_implied true b e f = e
use_implied false b e f = absurd (cc)

-- loads, stores and atomics
abbrev has_bytes : Op → Bool
has_bytes op = (opcode_of op == 0x03) || (opcode_of op == 0x23) || (opcode_of op == 0x2f)

wide : (op : Op) → implies (has_bytes op) (bytes_of op == width_of op) ≡ true
unfolding row_of bytes_of width_of
wide Lui = refl
wide _ = refl

same_width : (op : Op) → has_bytes op ≡ true → bytes_of op ≡ width_of op
same_width op e = let b = use_implied _ _ (wide op) e in equal (bytes_of op) (width_of op) b
  where
    equal : (a b : ℕ) → (a == b) ≡ true → a ≡ b
    equal a b e = grind (arith, nat_tests)

arithmetic_first : (op : Op) → implies (is_arithmetic op) (reads_rs1 (row_of op).form) ≡ true
unfolding row_of
arithmetic_first Lui = refl
arithmetic_first _ = refl

arithmetic_second : (op : Op) → implies (is_arithmetic op) (if is_register op then reads_rs2 (row_of op).form else not (reads_rs2 (row_of op).form)) ≡ true
unfolding row_of is_register
arithmetic_second Lui = refl
arithmetic_second _ = refl

load_first : (op : Op) → implies (opcode_of op == 0x03) (reads_rs1 (row_of op).form) ≡ true
unfolding row_of
load_first Lui = refl
load_first _ = refl

load_second : (op : Op) → implies (opcode_of op == 0x03) (not (reads_rs2 (row_of op).form)) ≡ true
unfolding row_of
load_second Lui = refl
load_second _ = refl

store_first : (op : Op) → implies (opcode_of op == 0x23) (reads_rs1 (row_of op).form) ≡ true
unfolding row_of
store_first Lui = refl
store_first _ = refl

branch_first : (op : Op) → implies (opcode_of op == 0x63) (reads_rs1 (row_of op).form) ≡ true
unfolding row_of
branch_first Lui = refl
branch_first _ = refl

atomic_first : (op : Op) → implies (opcode_of op == 0x2f) (reads_rs1 (row_of op).form) ≡ true
unfolding row_of
atomic_first Lui = refl
atomic_first _ = refl

pub reserving_form : (op : Op) → is_reserving (row_of op).form ≡ is_lr op
unfolding row_of
reserving_form Lui = refl
reserving_form _ = refl

-- ---- an operand that the form lacks is 0

read_op : (op : Op) (form : Form) (w : ℕ) → (read op form w).op ≡ op
read_op op Upper w = refl
read_op op _ w = refl

read_none : (op : Op) (form : Form) (w : ℕ) → reads_rs2 form ≡ false → (read op form w).rs2 ≡ 0
read_none op Branch w e = absurd (cc)
read_none op Storing w e = absurd (cc)
read_none op Register w e = absurd (cc)
read_none op Atomic w e = absurd (cc)
read_none op _ w e = refl

none_second : (w : ℕ) (i : Instr) → decoded w ≡ Some i → reads_rs2 (row_of i.op).form ≡ false → i.rs2 ≡ 0
unfolding decoded
none_second w i d f = by (op_in w) d
  where
    same : (a b : Instr) → Some a ≡ Some b → a ≡ b
    same a b e = cc

    by : (x : Option Op) → option_map (λ op. read op (row_of op).form w) x ≡ Some i → i.rs2 ≡ 0
    by None e = absurd (cc)
    by (Some op) e =
        let q : read op (row_of op).form w ≡ i = same _ _ e in
        let o : op ≡ i.op = sym (read_op op (row_of op).form w) ∙ ap (λ (x : Instr). x.op) q in
        sym (ap (λ (x : Instr). x.rs2) q) ∙ read_none op (row_of op).form w (ap (λ op. reads_rs2 (row_of op).form) o ∙ f)

-- ---- what is read

two : (a b x y : Bool) → a ≡ true → (b ≡ false → y ≡ false) → ((a && x) || (b && y)) ≡ (x || y)
two true true x y e f = refl
two true false x y e f = ap (λ z. x || z) (sym (f refl))
two false b x y e f = absurd (cc)

one : (a b x y : Bool) → a ≡ true → not b ≡ true → ((a && x) || (b && y)) ≡ x
one true false true y e f = refl
one true false false y e f = refl
one true true x y e f = absurd (cc)
one false b x y e f = absurd (cc)

as_said : (a b c x y : Bool) → a ≡ true → (if c then b else not b) ≡ true → ((a && x) || (b && y)) ≡ (x || (c && y))
as_said true true true x y e f = refl
as_said true false false x y e f = refl
as_said true true false x y e f = absurd (cc)
as_said true false true x y e f = absurd (cc)
as_said false b c x y e f = absurd (cc)

-- both operands, of the word's instruction
both_read : (w : ℕ) (i : Instr) → decoded w ≡ Some i → reads_rs1 (row_of i.op).form ≡ true → has_operand 1 i ≡ both_ra i
both_read w i d e =
    two (reads_rs1 (row_of i.op).form) (reads_rs2 (row_of i.op).form) (i.rs1 == 1) (i.rs2 == 1) e (λ f. ap (λ n. n == 1) (none_second w i d f))

-- a load's one operand
first_read : (i : Instr) → (opcode_of i.op == 0x03) ≡ true → has_operand 1 i ≡ (i.rs1 == 1)
first_read i e =
    one (reads_rs1 (row_of i.op).form) (reads_rs2 (row_of i.op).form) (i.rs1 == 1) (i.rs2 == 1) (use_implied _ _ (load_first i.op) e) (use_implied _ _ (load_second i.op) e)

-- the operands of arithmetic
sum_read : (i : Instr) → is_arithmetic i.op ≡ true → has_operand 1 i ≡ reads_ra i
unfolding reads_ra
sum_read i e =
    as_said (reads_rs1 (row_of i.op).form) (reads_rs2 (row_of i.op).form) (is_register i.op) (i.rs1 == 1) (i.rs2 == 1) (use_implied _ _ (arithmetic_first i.op) e) (use_implied _ _ (arithmetic_second i.op) e)

-- ---- by kind

-- the step reads what the instruction's form has, and touches as many bytes as its row says
abbrev pub ReadsSo : Kind Pair → Type 0
ReadsSo (Sets rd v) = Unit {0}
ReadsSo (Computes i) = has_operand 1 i ≡ reads_ra i
ReadsSo Passes = Unit {0}
ReadsSo (Loads i) = (has_operand 1 i ≡ (i.rs1 == 1)) × (bytes_of i.op ≡ width_of i.op)
ReadsSo (Stores i) = (has_operand 1 i ≡ both_ra i) × (bytes_of i.op ≡ width_of i.op)
ReadsSo (Atomics i) = (has_operand 1 i ≡ both_ra i) × (bytes_of i.op ≡ width_of i.op)
ReadsSo (Saves imm) = Unit {0}
ReadsSo (Restores imm) = Unit {0}
ReadsSo (CallsTo p) = Unit {0}
ReadsSo (JumpsTo p) = Unit {0}
ReadsSo (Branches i p) = has_operand 1 i ≡ both_ra i
ReadsSo (CallsThrough rs1 imm way) = Unit {0}
ReadsSo (JumpsThrough rs1 imm way) = Unit {0}
ReadsSo (GoesBack imm) = Unit {0}
ReadsSo Asks = Unit {0}
ReadsSo Breaks = Unit {0}
ReadsSo Illegal = Unit {0}
ReadsSo Past = Unit {0}

-- a kind that a test chose
choose_so : (b : Bool) (x y : Kind Pair) → (b ≡ true → ReadsSo x) → ReadsSo y → ReadsSo (if b then x else y)
choose_so true x y p q = p refl
choose_so false x y p q = q

any_bytes : (a b c : Bool) → (a ≡ true) ⊎ ((b ≡ true) ⊎ (c ≡ true)) → (a || b || c) ≡ true
any_bytes a b c (inl e) = rw e refl
any_bytes true b c (inr e) = refl
any_bytes false b c (inr (inl e)) = rw e refl
any_bytes false true c (inr (inr e)) = refl
any_bytes false false c (inr (inr e)) = e

plain_so : (w : ℕ) (i : Instr) → decoded w ≡ Some i → ReadsSo (plain_kind i)
unfolding plain_kind
plain_so w i d =
    choose_so (opcode_of i.op == 0x37) _ _ (λ e. tt)
    (choose_so (is_arithmetic i.op) (Computes i) _ (λ e. sum_read i e)
    (choose_so (opcode_of i.op == 0x03) (Loads i) _ (λ e. (first_read i e, same_width i.op (any_bytes (opcode_of i.op == 0x03) (opcode_of i.op == 0x23) (opcode_of i.op == 0x2f) (inl e))))
    (choose_so (opcode_of i.op == 0x23) (Stores i) _ (λ e. (both_read w i d (use_implied _ _ (store_first i.op) e), same_width i.op (any_bytes (opcode_of i.op == 0x03) (opcode_of i.op == 0x23) (opcode_of i.op == 0x2f) (inr (inl e)))))
    (choose_so (opcode_of i.op == 0x2f) (Atomics i) _ (λ e. (both_read w i d (use_implied _ _ (atomic_first i.op) e), same_width i.op (any_bytes (opcode_of i.op == 0x03) (opcode_of i.op == 0x23) (opcode_of i.op == 0x2f) (inr (inr e)))))
    (choose_so (opcode_of i.op == 0x0f) Passes Illegal (λ e. tt) tt)))))

framed_so : (w : ℕ) (i : Instr) → decoded w ≡ Some i → (row : Option FrameState) → ReadsSo (framed_kind row i)
framed_so w i d None = plain_so w i d
framed_so w i d (Some s) =
    choose_so (saves_word s i) (Saves i.imm) _ (λ e. tt) (choose_so (restores s i) (Restores i.imm) (plain_kind i) (λ e. tt) (plain_so w i d))

module _ (image : Image) (p : Pair) where
  site_so : (s : Site) (o : Option Instr) → decoded (word_at image p) ≡ o → SiteFits image p s o → ReadsSo (word_kind image p s o)
  site_so s None e fit = tt
  site_so Plain (Some i) e fit = framed_so (word_at image p) i e (row_at image p)
  site_so Literal (Some i) e fit = tt
  site_so (InnerJump to) (Some i) e fit = tt
  site_so (InnerBranch to) (Some i) e fit = both_read (word_at image p) i e (use_implied _ _ (branch_first i.op) (test (opcode_of i.op) 0x63 fit.0))
    where
      test : (a b : ℕ) → a ≡ b → (a == b) ≡ true
      test a b e = grind (arith, nat_tests)
  site_so (DirectCall g) (Some i) e fit = tt
  site_so (DirectTail g) (Some i) e fit = tt
  site_so IndirectCall (Some i) e fit = tt
  site_so IndirectTail (Some i) e fit = tt
  site_so ReturnLike (Some i) e fit = tt
  site_so Environment (Some i) e fit = tt
  site_so Stop (Some i) e fit = choose_so (is_system i 1) Breaks Illegal (λ e. tt) tt
  site_so (site.Bad rule) (Some i) e fit = tt

  -- at a pair that a path reaches
  pub kind_so : IsFine image → (row : FrameState) → row_at image p ≡ Some row → ReadsSo (kind_at image p)
  unfolding kind_at
  kind_so fi row e = by (p.off == slice_index (sizes_of image) p.func) refl
    where
      by : (b : Bool) → (p.off == slice_index (sizes_of image) p.func) ≡ b → ReadsSo (if b then Past else word_kind image p (site_at image p) (decoded (word_at image p)))
      by true q = tt
      by false q =
          let ip = fi.frames.inside p row e in
          let low : p.off < slice_index (sizes_of image) p.func = grind (arith, nat_tests, ip.off) in
          site_so (site_at image p) (decoded (word_at image p)) refl (fi.sites p row e low)
