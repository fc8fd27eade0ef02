-- SPDX-License-Identifier: Apache-2.0
-- A run of the unmoved machine that has not ended has a live hart.
use Rattle.std.proofs.Common.{◌≡◌, ℕ, zero, suc, Bool, true, false, Option, Some, None, List, [], ◌∷◌, ◌++◌, length, refl, ap, ◌∙◌}
use Rattle.std.specs.Prelude.{slice_get, slice_set, slice_index, ◌==◌, ◌&&◌, ◌||◌, ◌/◌, ◌%◌, if◌then◌else◌}
use Rattle.sh_types.specs.declared.code.CodeRef.{CodeRef}
use Rattle.sh_types.specs.declared.code.CodeRef.TheVariants.{Root, At}
use Rattle.sh_types.specs.declared.code.Image.{Image}
use Rattle.sh_types.specs.declared.code.Pair.{Pair}
use Rattle.sh_types.specs.declared.code.Region.{Region}
use Rattle.sh_types.specs.declared.runs.Stored.{Stored}
use Rattle.sh_types.specs.declared.runs.Trap.{Trap}
use Rattle.sh_types.specs.declared.runs.Trap.TheVariants as trap
use Rattle.rv_table.specs.declared.instructions.Instr.{Instr}
use Rattle.sh_machines.specs.Environment.{CallDid, Answers, Reads, Starts, ExitsHart, ExitsRun, LeaksWord, call_of}
use Rattle.sh_machines.specs.Kind.{Kind, Sets, Computes, Passes, Loads, Stores, Atomics, Saves, Restores, CallsTo, JumpsTo, Branches, CallsThrough, JumpsThrough, GoesBack, Asks, Breaks, Illegal, Past, kind_at}
use Rattle.sh_machines.specs.Memory.{readable, writable}
use Rattle.sh_machines.specs.Need.{Outcome, Goes, Puts, Calls, Quits, Traps, Leaks, Need, Makes, Touches, answered, touching, stored_at, kept_from, is_held}
use Rattle.rv_table.specs.Operands.{plus_imm, reads_ra, both_ra, computed, width_of, is_lr, is_sc}
use Rattle.rv_table.specs.Arithmetic.{compare_of}
use Rattle.sh_machines.specs.Tokens.{jump_number}
use Rattle.sh_machines.specs.Unmoved.{Thread, Content, Number, Return, is_return, next_of, goes, reserves, set_thread, load_content, store_content, reserve_content, store_if, amo_content, atomic_content, save_content, take_content, save_by, call_by, jump_by, back_to, thread_does, thread_needs, Unmoved, any_alive, end_if, thread_loses, threads_lose, ended_thread, new_thread, then_call, thread_asks, then_leaves, on_thread, goes_still, is_alive, can_go, unmoved_step, unmoved_from, unmoved_start, unmoved_run}
use Rattle.pace_law.proofs.Bools.{and_second}

-- ---- a hart is live after its instruction, where that neither ends it nor the run

abbrev OutLive : Thread → Outcome Thread Content → Type 0
OutLive t (Goes t') = t'.live ≡ t.live
OutLive t (Puts t' w c stored) = t'.live ≡ t.live
OutLive t Calls = Unit {0}
OutLive t Quits = Unit {0}
OutLive t (Traps k v) = Unit {0}
OutLive t Leaks = Unit {0}

record NeedIs (t : Thread) (u : ℕ → Content) (need : Need Thread Content) : Type 0 where
  is : OutLive t (answered need u)

makes : (t : Thread) (u : ℕ → Content) (out : Outcome Thread Content) → OutLive t out → NeedIs t u (Makes out)
makes t u out o = record { is = o }

if_out : (t : Thread) (b : Bool) (x y : Outcome Thread Content) → OutLive t x → OutLive t y → OutLive t (if b then x else y)
if_out t true x y p q = p
if_out t false x y p q = q

if_need : (t : Thread) (u : ℕ → Content) (b : Bool) (x y : Need Thread Content) → NeedIs t u x → NeedIs t u y → NeedIs t u (if b then x else y)
if_need t u true x y p q = p
if_need t u false x y p q = q

touching_live : (t : Thread) (u : ℕ → Content) (mapped : ℕ → ℕ → Bool) (width : ℕ) (misaligned fault : Trap) (a : ℕ) (act : Content → Outcome Thread Content) → ((c : Content) → OutLive t (act c)) → NeedIs t u (touching mapped width misaligned fault a act)
touching_live t u mapped width misaligned fault a act f =
    if_need t u (a % width == 0) (if mapped a width then Touches (a / 8) act else Makes (Traps fault a)) (Makes (Traps misaligned a)) (if_need t u (mapped a width) (Touches (a / 8) act) (Makes (Traps fault a)) (record { is = f (u (a / 8)) }) (record { is = tt })) (record { is = tt })

-- behind a test on ra
unless : (t : Thread) (u : ℕ → Content) (b : Bool) (y : Need Thread Content) → NeedIs t u y → NeedIs t u (if b then Makes Leaks else y)
unless t u true y q = record { is = tt }
unless t u false y q = q

loads : (t : Thread) (i : Instr) (a : ℕ) (c : Content) → OutLive t (load_content t i a c)
loads t i a (Number v) = refl
loads t i a (Return k r) = tt

stores : (t : Thread) (a width x : ℕ) (c : Content) → OutLive t (store_content t a width x c)
stores t a width x (Number v) = refl
stores t a width x (Return k r) = tt

reserve : (t : Thread) (i : Instr) (a : ℕ) (c : Content) → OutLive t (reserve_content t i a c)
reserve t i a (Number v) = refl
reserve t i a (Return k r) = tt

stores_if : (t : Thread) (i : Instr) (a x v : ℕ) (b : Bool) → OutLive t (store_if t i a x v b)
stores_if t i a x v true = refl
stores_if t i a x v false = refl

atomic : (t : Thread) (i : Instr) (a x : ℕ) (c : Content) → OutLive t (atomic_content t i a x c)
atomic t i a x (Number v) = if_out t (is_sc i.op) (store_if t i a x v (is_held t.reserved a (width_of i.op))) (amo_content t i a x v) (stores_if t i a x v (is_held t.reserved a (width_of i.op))) refl
atomic t i a x (Return k r) = tt

saves : (t : Thread) (a : ℕ) (r : CodeRef) (c : Content) → OutLive t (save_content t a r c)
saves t a r (Number v) = refl
saves t a r (Return k s) = tt

takes : (t : Thread) (a : ℕ) (c : Content) → OutLive t (take_content t a c)
takes t a (Number v) = tt
takes t a (Return k r) = by (k == t.number)
  where
    by : (b : Bool) → OutLive t (if b then Puts (goes t (next_of t.at) t.regs (Some r)) (a / 8) (Number 0) None else Leaks)
    by true = refl
    by false = tt

saves_by : (t : Thread) (u : ℕ → Content) (can_write : ℕ → ℕ → Bool) (a : ℕ) (ra : Option CodeRef) → NeedIs t u (save_by can_write t a ra)
saves_by t u can_write a None = record { is = tt }
saves_by t u can_write a (Some r) = touching_live t u can_write 8 trap.Misaligned trap.Store a (λ c. save_content t a r c) (saves t a r)

calls_by : (t : Thread) (v : ℕ) (p : Option Pair) → OutLive t (call_by t v p)
calls_by t v None = tt
calls_by t v (Some p) = refl

jumps_by : (t : Thread) (v : ℕ) (p : Option Pair) → OutLive t (jump_by t v p)
jumps_by t v None = tt
jumps_by t v (Some p) = refl

backs : (t : Thread) (ra : Option CodeRef) → OutLive t (back_to ra t)
backs t None = tt
backs t (Some Root) = tt
backs t (Some (At p)) = refl

does_live : (regions : List Region) (t : Thread) (k : Kind Pair) (u : ℕ → Content) → NeedIs t u (thread_does regions t k)
does_live regions t (Sets rd v) u = record { is = refl }
does_live regions t (Computes i) u = unless t u (is_return t.ra && reads_ra i) (Makes (Goes (set_thread t i.rd (computed i (slice_index t.regs i.rs1) (slice_index t.regs i.rs2))))) (record { is = refl })
does_live regions t Passes u = record { is = refl }
does_live regions t (Loads i) u =
    let a = plus_imm (slice_index t.regs i.rs1) i.imm in
    unless t u (is_return t.ra && (i.rs1 == 1)) (touching (readable regions) (width_of i.op) trap.Misaligned trap.Load a (λ c. load_content t i a c)) (touching_live t u (readable regions) (width_of i.op) trap.Misaligned trap.Load a (λ c. load_content t i a c) (loads t i a))
does_live regions t (Stores i) u =
    let a = plus_imm (slice_index t.regs i.rs1) i.imm in
    let x = slice_index t.regs i.rs2 in
    unless t u (is_return t.ra && both_ra i) (touching (writable regions) (width_of i.op) trap.Misaligned trap.Store a (λ c. store_content t a (width_of i.op) x c)) (touching_live t u (writable regions) (width_of i.op) trap.Misaligned trap.Store a (λ c. store_content t a (width_of i.op) x c) (stores t a (width_of i.op) x))
does_live regions t (Atomics i) u =
    let a = slice_index t.regs i.rs1 in
    let x = slice_index t.regs i.rs2 in
    let reserving : Need Thread Content = touching (readable regions) (width_of i.op) trap.Misaligned trap.Load a (λ c. reserve_content t i a c) in
    let storing : Need Thread Content = touching (writable regions) (width_of i.op) trap.Misaligned trap.Store a (λ c. atomic_content t i a x c) in
    unless t u (is_return t.ra && both_ra i) (if is_lr i.op then reserving else storing) (if_need t u (is_lr i.op) reserving storing (touching_live t u (readable regions) (width_of i.op) trap.Misaligned trap.Load a (λ c. reserve_content t i a c) (reserve t i a)) (touching_live t u (writable regions) (width_of i.op) trap.Misaligned trap.Store a (λ c. atomic_content t i a x c) (atomic t i a x)))
does_live regions t (Saves imm) u = saves_by t u (writable regions) (plus_imm (slice_index t.regs 2) imm) t.ra
does_live regions t (Restores imm) u =
    let a = plus_imm (slice_index t.regs 2) imm in
    touching_live t u (readable regions) 8 trap.Misaligned trap.Load a (λ c. take_content t a c) (takes t a)
does_live regions t (CallsTo p) u = record { is = refl }
does_live regions t (JumpsTo p) u = record { is = refl }
does_live regions t (Branches i p) u =
    unless t u (is_return t.ra && both_ra i) (Makes (Goes (goes t (if compare_of i.op (slice_index t.regs i.rs1) (slice_index t.regs i.rs2) then p else next_of t.at) t.regs t.ra))) (record { is = refl })
does_live regions t (CallsThrough rs1 imm way) u =
    let v = jump_number (slice_index t.regs rs1) imm in
    unless t u (is_return t.ra && (rs1 == 1)) (Makes (call_by t v (way v))) (makes t u (call_by t v (way v)) (calls_by t v (way v)))
does_live regions t (JumpsThrough rs1 imm way) u =
    let v = jump_number (slice_index t.regs rs1) imm in
    unless t u (is_return t.ra && (rs1 == 1)) (Makes (jump_by t v (way v))) (makes t u (jump_by t v (way v)) (jumps_by t v (way v)))
does_live regions t (GoesBack imm) u = record { is = backs t t.ra }
does_live regions t Asks u = record { is = tt }
does_live regions t Breaks u = record { is = tt }
does_live regions t Illegal u = record { is = tt }
does_live regions t Past u = record { is = tt }

needs_live : (i : Image) (t : Thread) (u : ℕ → Content) → OutLive t (answered (thread_needs i t) u)
unfolding thread_needs
needs_live i t u = (does_live i.regions t (kind_at i t.at) u).is

-- ---- one of the threads is live

or_true : (b : Bool) → (b || true) ≡ true
or_true true = refl
or_true false = refl

set_alive : (ts : List Thread) (n : ℕ) (t t' : Thread) → slice_get ts n ≡ Some t → t'.live ≡ true → any_alive (slice_set ts n t') ≡ true
set_alive [] n t t' e l = absurd (cc)
set_alive (x ∷ ts) zero t t' e l = ap (λ b. b || any_alive ts) l
set_alive (x ∷ ts) (suc n) t t' e l = ap (λ b. x.live || b) (set_alive ts n t t' e l) ∙ or_true x.live

lose_same : (n : ℕ) (s : Stored) (t : Thread) → (thread_loses n s t).live ≡ t.live
lose_same n s t = by (t.number == n)
  where
    by : (b : Bool) → (if b then t else reserves t (kept_from s t.reserved)).live ≡ t.live
    by true = refl
    by false = refl

lose_alive : (n : ℕ) (s : Option Stored) (ts : List Thread) → any_alive (threads_lose n s ts) ≡ any_alive ts
lose_alive n None ts = refl
lose_alive n (Some s) [] = refl
lose_alive n (Some s) (t ∷ ts) = ap (λ b. b || any_alive (threads_lose n (Some s) ts)) (lose_same n s t) ∙ ap (λ b. t.live || b) (lose_alive n (Some s) ts)

more_alive : (ts : List Thread) (t : Thread) → any_alive ts ≡ true → any_alive (ts ++ t ∷ []) ≡ true
more_alive [] t e = absurd (cc)
more_alive (x ∷ ts) t e = by x.live (more_alive ts t) e
  where
    by : (b : Bool) → (any_alive ts ≡ true → any_alive (ts ++ t ∷ []) ≡ true) → (b || any_alive ts) ≡ true → (b || any_alive (ts ++ t ∷ [])) ≡ true
    by true ih e = refl
    by false ih e = ih e

-- ---- whole states

abbrev pub StillLive : Unmoved → Type 0
StillLive u = goes_still u.end ≡ true → any_alive u.threads ≡ true

ended_live : (b : Bool) (code : ℕ) → goes_still (end_if b code) ≡ true → b ≡ true
ended_live true code e = refl
ended_live false code e = absurd (cc)

call_live : (u : Unmoved) (n : ℕ) (t : Thread) (c : CallDid) → slice_get u.threads n ≡ Some t → t.live ≡ true → StillLive (then_call u n t c)
call_live u n t (Answers v more) e l = λ q. set_alive u.threads n t (set_thread t 10 v) e l
call_live u n t (Reads a bytes) e l = λ q. lose_alive n (Some (stored_at a (length bytes))) (slice_set u.threads n (set_thread t 10 (length bytes))) ∙ set_alive u.threads n t (set_thread t 10 (length bytes)) e l
call_live u n t (Starts f a0 sp tp) e l = λ q. more_alive (slice_set u.threads n (set_thread t 10 (length u.threads))) (new_thread (length u.threads) f a0 sp tp) (set_alive u.threads n t (set_thread t 10 (length u.threads)) e l)
call_live u n t (ExitsHart code) e l = λ q. ended_live (any_alive (slice_set u.threads n (ended_thread t code))) _ q
call_live u n t (ExitsRun code) e l = λ q. absurd (cc)
call_live u n t LeaksWord e l = λ q. absurd (cc)

out_live : (i : Image) (u : Unmoved) (n : ℕ) (t : Thread) (out : Outcome Thread Content) → slice_get u.threads n ≡ Some t → t.live ≡ true → OutLive t out → StillLive (then_leaves i u n t out)
out_live i u n t (Goes t') e l o = λ q. set_alive u.threads n t t' e (o ∙ l)
out_live i u n t (Puts t' w c stored) e l o = λ q. lose_alive n stored (slice_set u.threads n t') ∙ set_alive u.threads n t t' e (o ∙ l)
out_live i u n t Calls e l o = call_live u n t (call_of i.regions i.rows (thread_asks u t)) e l
out_live i u n t Quits e l o = λ q. ended_live (any_alive (slice_set u.threads n (ended_thread t _))) _ q
out_live i u n t (Traps k v) e l o = λ q. absurd (cc)
out_live i u n t Leaks e l o = λ q. absurd (cc)

pub step_live : (i : Image) (n : ℕ) (u : Unmoved) → StillLive u → StillLive (unmoved_step i n u)
unfolding unmoved_step
step_live i n u s = by (can_go u n) refl
  where
    at : (x : Option Thread) → slice_get u.threads n ≡ x → is_alive x ≡ true → StillLive (on_thread i u n x)
    at None e l = s
    at (Some t) e l = out_live i u n t _ e l (needs_live i t u.contents)

    by : (b : Bool) → can_go u n ≡ b → StillLive (if b then on_thread i u n (slice_get u.threads n) else u)
    by true c = at (slice_get u.threads n) refl (and_second (goes_still u.end) _ c)
    by false c = s

pub from_live : (i : Image) (ns : List ℕ) (u : Unmoved) → StillLive u → StillLive (unmoved_from i ns u)
from_live i [] u s = s
from_live i (n ∷ ns) u s = from_live i ns (unmoved_step i n u) (step_live i n u s)

pub start_live : (i : Image) (input : List ℕ) → StillLive (unmoved_start i input)
start_live i input = λ q. refl

pub run_live : (i : Image) (input ns : List ℕ) → StillLive (unmoved_run i input ns)
unfolding unmoved_run
run_live i input ns = from_live i ns (unmoved_start i input) (start_live i input)
