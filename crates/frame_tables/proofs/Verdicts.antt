-- SPDX-License-Identifier: Apache-2.0
-- A word's verdict goes by one known number.
use Rattle.std.proofs.Common.{◌≡◌, ℕ, ◌/◌, Bool, true, false, Option, Some, None, Ok, Err, List, [], ◌∷◌, length, refl, sym, ap, ◌∙◌, arith}
use Rattle.std.specs.Prelude.{◌==◌, ◌&&◌, ◌||◌, not, slice_index, if◌then◌else◌}
use Rattle.std.proofs.lemmas.Bool.Decides.{nat_tests}
use Rattle.sh_types.specs.declared.code.FrameState.{FrameState}
use Rattle.sh_types.specs.declared.code.Pair.{Pair}
use Rattle.sh_types.specs.declared.code.Rule.{Rule}
use Rattle.sh_types.specs.declared.code.Rule.TheVariants.{Join}
use Rattle.sh_types.specs.declared.code.Site.{Site}
use Rattle.sh_types.specs.declared.code.Site.TheVariants.{Plain, Literal, InnerJump, InnerBranch, DirectCall, DirectTail, IndirectCall, IndirectTail, ReturnLike, Environment, Stop}
use Rattle.sh_types.specs.declared.code.Site.TheVariants as site
use Rattle.rv_table.specs.declared.instructions.Instr.{Instr}
use Rattle.rv_table.specs.Arithmetic.{is_arithmetic}
use Rattle.rv_table.specs.Decoding.{decoded}
use Rattle.sh_machines.specs.Constants.{known_of}
use Rattle.sh_machines.specs.Copy.{saves, restores}
use Rattle.sh_machines.specs.Frame.{Shifts, Loses, is_addi, is_add, shift_by, shift_of, move_of}
use Rattle.rv_table.specs.Operands.{number_of_imm}
use Rattle.sh_machines.specs.Grammar.{Body, plain_verdict, moved_by, verdict_of, verdict_at, known_before, lead, next_in, own_labels, points_behind, same_state, site_in}
use Rattle.sh_machines.specs.Kind.{Kind, Sets, Computes, Passes, Loads, Stores, Atomics, Saves, Restores, Illegal, framed_kind, opcode_of, plain_kind}
use Rattle.sh_machines.specs.Tokens.{has_label}
use Rattle.sh_machines.specs.Walk.{Walk, Fails, examine, examine_in, follow, put_all, state_at}
use Rattle.frame_tables.specs.Operand.{operand_of, operand_in, verdict_by}

-- by the three tests of an `add` and an `addi` to sp
shift_same : (known : ℕ → Option ℕ) (i : Instr) → shift_of (λ r. operand_of (Some i) known) i ≡ shift_of known i
unfolding shift_of
shift_same known i = by (is_addi i.op) (is_add i.op) (i.rs1 == 2) (i.rs2 == 2)
  where
    by : (a b c d : Bool) → (if a && c then Shifts (number_of_imm i.imm) else if b && c then shift_by (if c then known i.rs2 else known i.rs1) else if b && d then shift_by (if c then known i.rs2 else known i.rs1) else Loses) ≡ (if a && c then Shifts (number_of_imm i.imm) else if b && c then shift_by (known i.rs2) else if b && d then shift_by (known i.rs1) else Loses)
    by true b true d = refl
    by true true false d = refl
    by true false false d = refl
    by false true true d = refl
    by false true false d = refl
    by false false c d = refl

plain_same : (entry : Bool) (known : ℕ → Option ℕ) (s : FrameState) (i : Instr) → plain_verdict entry (λ r. operand_of (Some i) known) s (plain_kind i) ≡ plain_verdict entry known s (plain_kind i)
unfolding plain_kind
plain_same entry known s i =
    by (opcode_of i.op == 0x37) (is_arithmetic i.op) (opcode_of i.op == 0x03) (opcode_of i.op == 0x23) (opcode_of i.op == 0x2f) (opcode_of i.op == 0x0f)
  where
    kind : (a b c d e f : Bool) → Kind Pair
    kind a b c d e f = if a then Sets i.rd (number_of_imm i.imm) else if b then Computes i else if c then Loads i else if d then Stores i else if e then Atomics i else if f then Passes else Illegal

    by : (a b c d e f : Bool) → plain_verdict entry (λ r. operand_of (Some i) known) s (kind a b c d e f) ≡ plain_verdict entry known s (kind a b c d e f)
    by true b c d e f = refl
    by false true c d e f = ap (λ m. moved_by entry s (move_of i.rd m)) (shift_same known i)
    by false false true d e f = refl
    by false false false true e f = refl
    by false false false false true f = refl
    by false false false false false true = refl
    by false false false false false false = refl

framed_same : (entry : Bool) (known : ℕ → Option ℕ) (s : FrameState) (i : Instr) → plain_verdict entry (λ r. operand_of (Some i) known) s (framed_kind (Some s) i) ≡ plain_verdict entry known s (framed_kind (Some s) i)
framed_same entry known s i = by (saves s i) (restores s i)
  where
    by : (a b : Bool) → plain_verdict entry (λ r. operand_of (Some i) known) s (if a then Saves i.imm else if b then Restores i.imm else plain_kind i) ≡ plain_verdict entry known s (if a then Saves i.imm else if b then Restores i.imm else plain_kind i)
    by true b = refl
    by false true = refl
    by false false = plain_same entry known s i

verdict_same : (entry labelled : Bool) (known : ℕ → Option ℕ) (s : FrameState) (x : Site) (i : Option Instr) → verdict_of entry labelled (λ r. operand_of i known) s x i ≡ verdict_of entry labelled known s x i
verdict_same entry labelled known s (site.Bad rule) i = refl
verdict_same entry labelled known s Plain None = refl
verdict_same entry labelled known s Plain (Some i) = framed_same entry known s i
verdict_same entry labelled known s Literal None = refl
verdict_same entry labelled known s Literal (Some i) = refl
verdict_same entry labelled known s (InnerJump to) None = refl
verdict_same entry labelled known s (InnerJump to) (Some i) = refl
verdict_same entry labelled known s (InnerBranch to) None = refl
verdict_same entry labelled known s (InnerBranch to) (Some i) = refl
verdict_same entry labelled known s (DirectCall g) None = refl
verdict_same entry labelled known s (DirectCall g) (Some i) = refl
verdict_same entry labelled known s (DirectTail g) None = refl
verdict_same entry labelled known s (DirectTail g) (Some i) = refl
verdict_same entry labelled known s IndirectCall None = refl
verdict_same entry labelled known s IndirectCall (Some i) = refl
verdict_same entry labelled known s IndirectTail None = refl
verdict_same entry labelled known s IndirectTail (Some i) = refl
verdict_same entry labelled known s ReturnLike None = refl
verdict_same entry labelled known s ReturnLike (Some i) = refl
verdict_same entry labelled known s Environment None = refl
verdict_same entry labelled known s Environment (Some i) = refl
verdict_same entry labelled known s Stop None = refl
verdict_same entry labelled known s Stop (Some i) = refl

has_own : (f : ℕ) (labels : List Pair) → has_label labels f ≡ not (length (own_labels f labels) == 0)
has_own f [] = refl
has_own f (q ∷ qs) = by (q.func == f) (has_own f qs)
  where
    by : (b : Bool) → has_label qs f ≡ not (length (own_labels f qs) == 0) → b || has_label qs f ≡ not (length (if b then q.off / 4 ∷ own_labels f qs else own_labels f qs) == 0)
    by true h = let some : (length (q.off / 4 ∷ own_labels f qs) == 0) ≡ false = grind (arith, nat_tests) in sym (ap not some)
    by false h = h

-- the one number gives the verdict that all give
pub verdict_is : (b : Body) (k : ℕ) (s : FrameState) (own : List ℕ) (empty : Bool) (i : Option Instr) (operand : Option ℕ) → own ≡ own_labels b.func b.labels → empty ≡ (length own == 0) → i ≡ decoded (slice_index b.words k) → operand ≡ operand_in (decoded (slice_index b.words k)) (known_of b.words b.sites b.labels b.func k) → verdict_by b.entry (not empty) operand s (site_in b k) i ≡ verdict_at b k s
verdict_is b k s own empty i operand same none instr known =
    ap (λ empty. verdict_by b.entry (not empty) operand s (site_in b k) i) (none ∙ ap (λ own. length own == 0) same)
    ∙ ap (λ labelled. verdict_by b.entry labelled operand s (site_in b k) i) (sym (has_own b.func b.labels))
    ∙ ap (λ i. verdict_by b.entry (has_label b.labels b.func) operand s (site_in b k) i) instr
    ∙ ap (λ operand. verdict_by b.entry (has_label b.labels b.func) operand s (site_in b k) (decoded (slice_index b.words k))) known
    ∙ verdict_same b.entry (has_label b.labels b.func) (known_before b k) s (site_in b k) (decoded (slice_index b.words k))

-- a rule that is broken refuses the word
pub refuses : (b : Body) (k : ℕ) (s : FrameState) (rule : Rule) (w : Walk FrameState) → state_at w.table k ≡ Some s → verdict_at b k s ≡ Err rule → examine same_state Join (length b.words) (next_in b) k w ≡ Fails k rule
refuses b k s rule w e v =
    ap (examine_in same_state Join (length b.words) (next_in b) k w) e ∙ ap (λ v. follow same_state Join (length b.words) k w (lead (points_behind (own_labels b.func b.labels) (site_in b k) k) v)) v

-- else each point behind it gets the state
pub leads : (b : Body) (k : ℕ) (s after : FrameState) (points : List ℕ) (w : Walk FrameState) → state_at w.table k ≡ Some s → verdict_at b k s ≡ Ok after → points ≡ points_behind (own_labels b.func b.labels) (site_in b k) k → examine same_state Join (length b.words) (next_in b) k w ≡ put_all same_state Join (length b.words) after points w
leads b k s after points w e v p =
    ap (examine_in same_state Join (length b.words) (next_in b) k w) e
    ∙ ap (λ v. follow same_state Join (length b.words) k w (lead (points_behind (own_labels b.func b.labels) (site_in b k) k) v)) v
    ∙ ap (λ points. put_all same_state Join (length b.words) after points w) (sym p)
