-- SPDX-License-Identifier: Apache-2.0
-- What the classes of words name, by the table of classes.
use Rattle.std.proofs.Common.{◌≡◌, ◌≢◌, ◌⊎◌, inl, inr, ℕ, ◌+◌, ◌-◌, ◌*◌, ◌%◌, ◌<◌, ◌≤◌, Bool, true, false, Option, Some, None, List, [], ◌∷◌, length, arith}
use Rattle.std.specs.Prelude.{◌==◌, ◌&&◌, not, slice_index, if◌then◌else◌}
use Rattle.std.specs.List.{position_from}
use Rattle.std.proofs.lemmas.Bool.{cases_Bool, cond_both}
use Rattle.std.proofs.lemmas.Bool.Decides.{nat_tests}
use Rattle.std.proofs.lemmas.List.{length-map}
use Rattle.sh_types.specs.declared.code.Function.{Function}
use Rattle.sh_types.specs.declared.code.Rule.TheVariants.{EntryUsed, GotFunction, PointerInside, RelocKind}
use Rattle.sh_types.specs.declared.code.Site.{Site}
use Rattle.sh_types.specs.declared.code.Site.TheVariants.{Plain, Literal, InnerJump, InnerBranch, DirectCall, DirectTail, IndirectCall, IndirectTail, ReturnLike, Environment, Stop}
use Rattle.sh_types.specs.declared.code.Site.TheVariants as site
use Rattle.sh_types.specs.declared.relocs.Reloc.{Reloc}
use Rattle.rv_table.specs.declared.instructions.Instr.{Instr}
use Rattle.sh_machines.specs.Class.{Source, branch_class, call_class, class_at, entry_class, home_of, instr_class, is_call_record, is_in_function, is_inside_function, is_link, is_number, is_own, is_whole_pair, is_word_kind, jump_class, named_by, pair_before, pair_class, record_class, record_on, register_class, size_of, started_at, tail_class, takes_address, target_of, through_class}
use Rattle.sh_machines.specs.Kind.{is_system, opcode_of}
use Rattle.sh_types.specs.Image.{number_of, starts_of}
use Rattle.rv_table.specs.Decoding.{decoded}
use Rattle.bound_law.specs.Targets.{IsTarget}

-- a call or a tail goes to a function
abbrev IsNamed : Source → Site → Type 0
IsNamed b Plain = Unit {0}
IsNamed b Literal = Unit {0}
IsNamed b (InnerJump to) = (to < size_of b) × (to % 4 ≡ 0)
IsNamed b (InnerBranch to) = (to < size_of b) × (to % 4 ≡ 0)
IsNamed b (DirectCall g) = g < length b.functions
IsNamed b (DirectTail g) = g < length b.functions
IsNamed b IndirectCall = Unit {0}
IsNamed b IndirectTail = Unit {0}
IsNamed b ReturnLike = Unit {0}
IsNamed b Environment = Unit {0}
IsNamed b Stop = Unit {0}
IsNamed b (site.Bad rule) = Unit {0}

-- a function's number is below how many there are
abbrev IsBelow : ℕ → Option ℕ → Type 0
IsBelow n None = Unit {0}
IsBelow n (Some g) = g < n

position_low : (p : ℕ → Bool) (k n : ℕ) (xs : List ℕ) → k + length xs ≤ n → IsBelow n (position_from p k xs)
position_low p k n [] l = tt
position_low p k n (x ∷ xs) l =
    let rest = position_low p (k + 1) n xs (omega (arith, l)) in
    cond_both (p x) (Some k) (position_from p (k + 1) xs) (IsBelow n) (λ e. omega (arith, l)) (λ e. rest)

numbered : (fs : List Function) (a : ℕ) → IsBelow (length fs) (number_of (starts_of fs) a)
numbered fs a = position_low (λ s. s == a) 0 (length fs) (starts_of fs) (let many = length-map fs (λ (f : Function). f.home) in omega (arith, many))

started : (fs : List Function) (o : Option ℕ) → IsBelow (length fs) (started_at fs o)
started fs None = tt
started fs (Some a) = numbered fs a

record IsInner (b : Source) (a : ℕ) : Type 0 where
  low : a - home_of b < size_of b
  whole : (a - home_of b) % 4 ≡ 0

own_inner : (b : Source) (a : ℕ) → is_own b a ≡ true → IsInner b a
own_inner b a e = record { low = grind (arith, nat_tests, e); whole = grind (arith, nat_tests, e) }

tail_named : (b : Source) (o : Option ℕ) → IsBelow (length b.functions) o → IsNamed b (tail_class o)
tail_named b None l = tt
tail_named b (Some g) l = l

call_named : (b : Source) (o : Option ℕ) → IsBelow (length b.functions) o → IsNamed b (call_class o)
call_named b None l = tt
call_named b (Some g) l = l

pair_named : (b : Source) (rd : ℕ) (o : Option ℕ) → IsBelow (length b.functions) o → IsNamed b (pair_class rd o)
pair_named b rd None l = tt
pair_named b rd (Some g) l = cond_both (rd == 1) (DirectCall g) (DirectTail g) (IsNamed b) (λ e. l) (λ e. l)

through_named : (b : Source) (i : Instr) → IsNamed b (through_class i)
through_named b i =
    cond_both ((i.rd == 0) && (i.rs1 == 1)) ReturnLike _ (IsNamed b) (λ e. tt) (λ e. cond_both (i.rd == 0) IndirectTail IndirectCall (IsNamed b) (λ f. tt) (λ f. tt))

register_named : (b : Source) (k : ℕ) (i : Instr) (o : Option Reloc) → IsNamed b (register_class b k i o)
register_named b k i None = through_named b i
register_named b k i (Some r) =
    cond_both (is_call_record r.kind) _ (through_class i) (IsNamed b)
    (λ e. cond_both (is_whole_pair b k i) (pair_class i.rd (started_at b.functions (named_by r))) _ (IsNamed b) (λ f. pair_named b i.rd (started_at b.functions (named_by r)) (started b.functions (named_by r))) (λ f. tt))
    (λ e. through_named b i)

jump_named : (b : Source) (a : ℕ) → IsNamed b (jump_class b a)
jump_named b a =
    cond_both (is_own b a) (InnerJump (a - home_of b)) (tail_class (number_of (starts_of b.functions) a)) (IsNamed b)
    (λ e. let h = own_inner b a e in (h.low, h.whole)) (λ e. tail_named b (number_of (starts_of b.functions) a) (numbered b.functions a))

branch_named : (b : Source) (a : ℕ) → IsNamed b (branch_class b a)
branch_named b a =
    cond_both (is_own b a) (InnerBranch (a - home_of b)) _ (IsNamed b) (λ e. let h = own_inner b a e in (h.low, h.whole)) (λ e. tt)

instr_named : (b : Source) (k : ℕ) (o : Option Instr) → IsNamed b (instr_class b k o)
instr_named b k None = tt
instr_named b k (Some i) =
    cond_both (is_system i 1) Stop _ (IsNamed b) (λ e. tt) (λ e.
    cond_both (is_system i 0) Environment _ (IsNamed b) (λ e. tt) (λ e.
    cond_both (opcode_of i.op == 0x17) Literal _ (IsNamed b) (λ e. tt) (λ e.
    cond_both (opcode_of i.op == 0x6f) _ _ (IsNamed b)
    (λ e. cond_both (i.rd == 0) (jump_class b (target_of b k i)) _ (IsNamed b) (λ f. jump_named b (target_of b k i)) (λ f.
    cond_both (i.rd == 1) (call_class (number_of (starts_of b.functions) (target_of b k i))) _ (IsNamed b) (λ g. call_named b (number_of (starts_of b.functions) (target_of b k i)) (numbered b.functions (target_of b k i))) (λ g. tt)))
    (λ e. cond_both (opcode_of i.op == 0x63) (branch_class b (target_of b k i)) _ (IsNamed b) (λ f. branch_named b (target_of b k i)) (λ f.
    cond_both (opcode_of i.op == 0x67) _ Plain (IsNamed b)
    (λ g. cond_both (is_link i.rd) (register_class b k i (pair_before b k)) _ (IsNamed b) (λ h. register_named b k i (pair_before b k)) (λ h. tt))
    (λ g. tt))))))

is_not : (g e : ℕ) → (g == e) ≡ false → g ≢ e
is_not g e t same = absurd (grind (arith, nat_tests, t, same))

entry_named : (b : Source) (s : Site) → IsNamed b s → IsTarget b (entry_class b s)
entry_named b Plain h = tt
entry_named b Literal h = tt
entry_named b (InnerJump to) h = h
entry_named b (InnerBranch to) h = h
entry_named b (DirectCall g) h = cond_both (g == b.entry) _ (DirectCall g) (IsTarget b) (λ e. tt) (λ e. (h, is_not g b.entry e))
entry_named b (DirectTail g) h =
    cond_both ((g == b.entry) && not (g == b.func)) _ (DirectTail g) (IsTarget b) (λ e. tt) (λ e. (h, other g e))
  where
    other : (g : ℕ) → ((g == b.entry) && not (g == b.func)) ≡ false → (g ≢ b.entry) ⊎ (g ≡ b.func)
    other g e = elim (cases_Bool (g == b.func)) [
      | inl t ↦ inr (grind (arith, nat_tests, t))
      | inr f ↦ inl (λ same. absurd (grind (arith, nat_tests, e, f, same)))
    ]
entry_named b IndirectCall h = tt
entry_named b IndirectTail h = tt
entry_named b ReturnLike h = tt
entry_named b Environment h = tt
entry_named b Stop h = tt
entry_named b (site.Bad rule) h = tt

record_named : (b : Source) (o : Option Reloc) (s : Site) → IsTarget b s → IsTarget b (record_class b o s)
record_named b None s h = h
record_named b (Some r) s h =
    by (not (is_word_kind r.kind)) ((r.kind == 20) && is_in_function b.functions (named_by r)) (takes_address r.kind && is_inside_function b.functions (named_by r))
    (takes_address r.kind && is_number (started_at b.functions (named_by r)) b.entry)
  where
    by : (w x y z : Bool) → IsTarget b (if w then site.Bad RelocKind else if x then site.Bad GotFunction else if y then site.Bad PointerInside else if z then site.Bad EntryUsed else s)
    by true x y z = tt
    by false true y z = tt
    by false false true z = tt
    by false false false true = tt
    by false false false false = h

pub class_target : (b : Source) (k : ℕ) → IsTarget b (class_at b k)
unfolding class_at
class_target b k =
    record_named b (record_on b.relocs (home_of b + 4 * k)) (entry_class b (instr_class b k (decoded (slice_index b.words k))))
    (entry_named b (instr_class b k (decoded (slice_index b.words k))) (instr_named b k (decoded (slice_index b.words k))))
