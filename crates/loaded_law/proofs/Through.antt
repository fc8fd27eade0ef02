-- SPDX-License-Identifier: Apache-2.0
-- Classes: direct calls and jumps name functions, and an indirect one is that of a JALR.
use Rattle.std.proofs.Common.{◌≡◌, ◌⊎◌, inl, inr, ℕ, zero, suc, ◌+◌, ◌-◌, ◌*◌, ◌/◌, ◌≤◌, Bool, true, false, Option, Some, None, List, [], ◌∷◌, length, refl, sym, ◌∙◌, subst, arith}
use Rattle.std.specs.Prelude.{◌==◌, ◌&&◌, not, slice_index, slice_index_or, if◌then◌else◌}
use Rattle.std.specs.List.{list_all}
use Rattle.std.proofs.lemmas.Bool.{cases_lt, cond_both, true≢false}
use Rattle.std.proofs.lemmas.Bool.Decides.{nat_tests}
use Rattle.sh_types.specs.declared.code.Function.{Function}
use Rattle.sh_types.specs.declared.code.Pair.{Pair}
use Rattle.sh_types.specs.declared.code.Rule.TheVariants.{BranchOut, LinkRegister, PointerInside, GotFunction, RelocKind, EntryUsed}
use Rattle.sh_types.specs.declared.code.Site.{Site}
use Rattle.sh_types.specs.declared.code.Site.TheVariants.{Plain, Literal, InnerJump, InnerBranch, DirectCall, DirectTail, Environment, Stop, Bad}
use Rattle.sh_types.specs.declared.relocs.Reloc.{Reloc}
use Rattle.rv_table.specs.declared.instructions.Instr.{Instr}
use Rattle.rv_table.specs.declared.instructions.Op.{Op}
use Rattle.rv_table.specs.declared.instructions.Op.TheVariants.{Jalr}
use Rattle.rv_table.specs.Decoding.{decoded}
use Rattle.rv_table.specs.Instruction.{row_of}
use Rattle.sh_types.specs.Image.{number_of, site_at, starts_of, word_at}
use Rattle.elf_rules.specs.Relocs.{relocs_of}
use Rattle.image_rules.specs.Bound.{bound_image, classes_from, classes_of, sites_from}
use Rattle.sh_machines.specs.Class.{Source, branch_class, call_class, class_at, entry_class, home_of, instr_class, is_in_function, is_inside_function, is_link, is_number, is_own, is_word_kind, jump_class, named_by, pair_before, record_class, record_on, register_class, source_of, started_at, tail_class, takes_address, target_of}
use Rattle.sh_machines.specs.Copy.{goes_to, is_through}
use Rattle.sh_machines.specs.Kind.{is_system, opcode_of}
use Rattle.bound_law.specs.Targets.{IsTarget}
use Rattle.bound_law.proofs.Sited.{no_site, site_is}
use Rattle.bound_law.proofs.Targets.{class_target}

-- ---- direct calls and jumps

target_goes : (b : Source) (s : Site) → IsTarget b s → goes_to (length b.functions) s ≡ true
target_goes b (DirectCall g) t = let l = t.0 in grind (arith, nat_tests, l)
target_goes b (DirectTail g) t = let l = t.0 in grind (arith, nat_tests, l)
target_goes b _ t = refl

classes_go : (b : Source) (k n : ℕ) → list_all (goes_to (length b.functions)) (classes_from b k n) ≡ true
classes_go b k zero = refl
classes_go b k (suc n) =
    let here = target_goes b (class_at b k) (class_target b k) in
    let rest = classes_go b (suc k) n in
    rw (here, rest) refl

-- of all functions
pub sites_go : (source : ℕ → Source) (n : ℕ) → ((f : ℕ) → length (source f).functions ≡ n) → (j : ℕ) (gs : List Function) → list_all (λ sites. list_all (goes_to n) sites) (sites_from source j gs) ≡ true
sites_go source n many j [] = refl
sites_go source n many j (g ∷ gs) =
    let here = subst (λ n. list_all (goes_to n) (classes_of (source j)) ≡ true) (many j) (classes_go (source j) 0 (length (source j).words)) in
    let rest = sites_go source n many (suc j) gs in
    rw (here, rest) refl

-- ---- indirect calls and jumps

jalr_of : (op : Op) → (opcode_of op == 0x67) ≡ true → op ≡ Jalr
unfolding row_of
jalr_of Jalr e = refl
jalr_of _ e = absurd (cc)

-- where the class is that of an indirect call or jump, the word is a JALR
abbrev IsJalr : Option Instr → Site → Type 0
IsJalr o s = is_through s ≡ true → (i : Instr) → o ≡ Some i → i.op ≡ Jalr

direct : (o : Option Instr) (s : Site) → is_through s ≡ false → IsJalr o s
direct o s e t = absurd (true≢false (sym t ∙ e))

tail_direct : (x : Option ℕ) → is_through (tail_class x) ≡ false
tail_direct None = refl
tail_direct (Some g) = refl

call_direct : (x : Option ℕ) → is_through (call_class x) ≡ false
call_direct None = refl
call_direct (Some g) = refl

jump_direct : (b : Source) (a : ℕ) → is_through (jump_class b a) ≡ false
jump_direct b a =
    cond_both (is_own b a) (InnerJump (a - home_of b)) (tail_class (number_of (starts_of b.functions) a)) (λ s. is_through s ≡ false) (λ e. refl) (λ e. tail_direct (number_of (starts_of b.functions) a))

branch_direct : (b : Source) (a : ℕ) → is_through (branch_class b a) ≡ false
branch_direct b a = cond_both (is_own b a) (InnerBranch (a - home_of b)) (Bad BranchOut) (λ s. is_through s ≡ false) (λ e. refl) (λ e. refl)

jalr_same : (i : Instr) (s : Site) → i.op ≡ Jalr → IsJalr (Some i) s
jalr_same i s e t j same = let q : i ≡ j = cc in subst (λ (j : Instr). j.op ≡ Jalr) q e

instr_jalr : (b : Source) (k : ℕ) (o : Option Instr) → IsJalr o (instr_class b k o)
instr_jalr b k None = direct None Stop refl
instr_jalr b k (Some i) =
    cond_both (is_system i 1) Stop _ (IsJalr (Some i)) (λ e. direct (Some i) Stop refl) (λ e.
    cond_both (is_system i 0) Environment _ (IsJalr (Some i)) (λ e. direct (Some i) Environment refl) (λ e.
    cond_both (opcode_of i.op == 0x17) Literal _ (IsJalr (Some i)) (λ e. direct (Some i) Literal refl) (λ e.
    cond_both (opcode_of i.op == 0x6f) _ _ (IsJalr (Some i))
    (λ e. cond_both (i.rd == 0) (jump_class b (target_of b k i)) _ (IsJalr (Some i)) (λ f. direct (Some i) (jump_class b (target_of b k i)) (jump_direct b (target_of b k i))) (λ f.
    cond_both (i.rd == 1) (call_class (number_of (starts_of b.functions) (target_of b k i))) (Bad LinkRegister) (IsJalr (Some i)) (λ g. direct (Some i) (call_class (number_of (starts_of b.functions) (target_of b k i))) (call_direct (number_of (starts_of b.functions) (target_of b k i)))) (λ g. direct (Some i) (Bad LinkRegister) refl)))
    (λ e. cond_both (opcode_of i.op == 0x63) (branch_class b (target_of b k i)) _ (IsJalr (Some i)) (λ f. direct (Some i) (branch_class b (target_of b k i)) (branch_direct b (target_of b k i))) (λ f.
    cond_both (opcode_of i.op == 0x67) (if is_link i.rd then register_class b k i (pair_before b k) else Bad LinkRegister) Plain (IsJalr (Some i)) (λ g. jalr_same i (if is_link i.rd then register_class b k i (pair_before b k) else Bad LinkRegister) (jalr_of i.op g)) (λ g. direct (Some i) Plain refl))))))

entry_jalr : (b : Source) (o : Option Instr) (s : Site) → IsJalr o s → IsJalr o (entry_class b s)
entry_jalr b o (DirectCall g) h = cond_both (g == b.entry) (Bad EntryUsed) (DirectCall g) (IsJalr o) (λ e. direct o (Bad EntryUsed) refl) (λ e. h)
entry_jalr b o (DirectTail g) h =
    cond_both ((g == b.entry) && not (g == b.func)) (Bad EntryUsed) (DirectTail g) (IsJalr o) (λ e. direct o (Bad EntryUsed) refl) (λ e. h)
entry_jalr b o _ h = h

record_jalr : (b : Source) (o : Option Instr) (r : Option Reloc) (s : Site) → IsJalr o s → IsJalr o (record_class b r s)
record_jalr b o None s h = h
record_jalr b o (Some r) s h =
    by (not (is_word_kind r.kind)) ((r.kind == 20) && is_in_function b.functions (named_by r)) (takes_address r.kind && is_inside_function b.functions (named_by r))
    (takes_address r.kind && is_number (started_at b.functions (named_by r)) b.entry)
  where
    by : (w x y z : Bool) → IsJalr o (if w then Bad RelocKind else if x then Bad GotFunction else if y then Bad PointerInside else if z then Bad EntryUsed else s)
    by true x y z = direct o (Bad RelocKind) refl
    by false true y z = direct o (Bad GotFunction) refl
    by false false true z = direct o (Bad PointerInside) refl
    by false false false true = direct o (Bad EntryUsed) refl
    by false false false false = h

class_jalr : (b : Source) (k : ℕ) → IsJalr (decoded (slice_index b.words k)) (class_at b k)
unfolding class_at
class_jalr b k =
    record_jalr b (decoded (slice_index b.words k)) (record_on b.relocs (home_of b + 4 * k)) (entry_class b (instr_class b k (decoded (slice_index b.words k))))
    (entry_jalr b (decoded (slice_index b.words k)) (instr_class b k (decoded (slice_index b.words k))) (instr_jalr b k (decoded (slice_index b.words k))))

-- ---- the bound image

pub bound_through : (b : List ℕ) (p : Pair) → IsJalr (decoded (word_at (bound_image b) p)) (site_at (bound_image b) p)
bound_through b p = elim (cases_lt p.func (length (bound_image b).functions)) [
  | inl l ↦ elim (cases_lt (p.off / 4) (length (slice_index_or (bound_image b).words p.func []))) [
    | inl m ↦ subst (IsJalr (decoded (word_at (bound_image b) p))) (sym (site_is b p.func (p.off / 4) l m)) (class_jalr (source_of (bound_image b) (relocs_of b) p.func) (p.off / 4))
    | inr m ↦ plainly (inr m)
  ]
  | inr l ↦ plainly (inl l)
]
  where
    plainly : (length (bound_image b).functions ≤ p.func) ⊎ (length (slice_index_or (bound_image b).words p.func []) ≤ p.off / 4) → IsJalr (decoded (word_at (bound_image b) p)) (site_at (bound_image b) p)
    plainly h = subst (IsJalr (decoded (word_at (bound_image b) p))) (sym (no_site b p.func (p.off / 4) h)) (direct (decoded (word_at (bound_image b) p)) Plain refl)
