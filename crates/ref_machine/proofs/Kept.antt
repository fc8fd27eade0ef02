-- SPDX-License-Identifier: Apache-2.0
-- An instruction leaves its hart alive and numbered as it was, and only an environment call calls.
use Rattle.std.proofs.Common.{◌≡◌, ℕ, Bool, true, false, Option, Some, None, List, refl}
use Rattle.std.specs.Prelude.{slice_index, ◌==◌, ◌&&◌, ◌/◌, ◌%◌, if◌then◌else◌}
use Rattle.sh_types.specs.declared.code.CodeRef.{CodeRef}
use Rattle.sh_types.specs.declared.code.CodeRef.TheVariants.{Root, At}
use Rattle.sh_types.specs.declared.code.Image.{Image}
use Rattle.sh_types.specs.declared.code.Pair.{Pair}
use Rattle.sh_types.specs.declared.code.Region.{Region}
use Rattle.sh_types.specs.declared.runs.Trap.{Trap}
use Rattle.sh_types.specs.declared.runs.Trap.TheVariants as trap
use Rattle.rv_table.specs.declared.instructions.Instr.{Instr}
use Rattle.sh_machines.specs.Kind.{Kind, Sets, Computes, Passes, Loads, Stores, Atomics, Saves, Restores, CallsTo, JumpsTo, Branches, CallsThrough, JumpsThrough, GoesBack, Asks, Breaks, Illegal, Past, kind_at}
use Rattle.sh_machines.specs.Memory.{readable, writable}
use Rattle.sh_machines.specs.Need.{Outcome, Goes, Puts, Calls, Quits, Traps, Leaks, Need, Makes, Touches, answered, touching, is_held}
use Rattle.rv_table.specs.Operands.{plus_imm, reads_ra, both_ra, computed, width_of, is_lr, is_sc}
use Rattle.rv_table.specs.Arithmetic.{compare_of}
use Rattle.sh_machines.specs.Tokens.{jump_number}
use Rattle.sh_machines.specs.Unmoved.{Thread, Content, Number, Return, is_return, next_of, goes, set_thread, load_content, store_content, reserve_content, store_if, amo_content, atomic_content, save_content, take_content, save_by, call_by, jump_by, back_to, thread_does, thread_needs}

-- where the hart goes on, it lives and has its number
pub record Continues (t t' : Thread) : Type 0 where
  pub live : t'.live ≡ t.live
  pub number : t'.number ≡ t.number

abbrev pub OutKept : Kind Pair → Thread → Outcome Thread Content → Type 0
OutKept k t (Goes t') = Continues t t'
OutKept k t (Puts t' w c stored) = Continues t t'
OutKept k t Calls = k ≡ Asks
OutKept k t Quits = Unit {0}
OutKept k t (Traps kind v) = Unit {0}
OutKept k t Leaks = Unit {0}

record NeedKept (k : Kind Pair) (t : Thread) (u : ℕ → Content) (need : Need Thread Content) : Type 0 where
  is : OutKept k t (answered need u)

makes : (k : Kind Pair) (t : Thread) (u : ℕ → Content) (out : Outcome Thread Content) → OutKept k t out → NeedKept k t u (Makes out)
makes k t u out o = record { is = o }

if_out : (k : Kind Pair) (t : Thread) (b : Bool) (x y : Outcome Thread Content) → OutKept k t x → OutKept k t y → OutKept k t (if b then x else y)
if_out k t true x y p q = p
if_out k t false x y p q = q

if_need : (k : Kind Pair) (t : Thread) (u : ℕ → Content) (b : Bool) (x y : Need Thread Content) → NeedKept k t u x → NeedKept k t u y → NeedKept k t u (if b then x else y)
if_need k t u true x y p q = p
if_need k t u false x y p q = q

touching_kept : (k : Kind Pair) (t : Thread) (u : ℕ → Content) (mapped : ℕ → ℕ → Bool) (width : ℕ) (misaligned fault : Trap) (a : ℕ) (act : Content → Outcome Thread Content) → ((c : Content) → OutKept k t (act c)) → NeedKept k t u (touching mapped width misaligned fault a act)
touching_kept k t u mapped width misaligned fault a act f =
    if_need k t u (a % width == 0) (if mapped a width then Touches (a / 8) act else Makes (Traps fault a)) (Makes (Traps misaligned a)) (if_need k t u (mapped a width) (Touches (a / 8) act) (Makes (Traps fault a)) (record { is = f (u (a / 8)) }) (record { is = tt })) (record { is = tt })

-- behind a test on ra
unless : (k : Kind Pair) (t : Thread) (u : ℕ → Content) (b : Bool) (y : Need Thread Content) → NeedKept k t u y → NeedKept k t u (if b then Makes Leaks else y)
unless k t u true y q = record { is = tt }
unless k t u false y q = q

loads : (k : Kind Pair) (t : Thread) (i : Instr) (a : ℕ) (c : Content) → OutKept k t (load_content t i a c)
loads k t i a (Number v) = record { live = refl; number = refl }
loads k t i a (Return n r) = tt

stores : (k : Kind Pair) (t : Thread) (a width x : ℕ) (c : Content) → OutKept k t (store_content t a width x c)
stores k t a width x (Number v) = record { live = refl; number = refl }
stores k t a width x (Return n r) = tt

reserve : (k : Kind Pair) (t : Thread) (i : Instr) (a : ℕ) (c : Content) → OutKept k t (reserve_content t i a c)
reserve k t i a (Number v) = record { live = refl; number = refl }
reserve k t i a (Return n r) = tt

stores_if : (k : Kind Pair) (t : Thread) (i : Instr) (a x v : ℕ) (b : Bool) → OutKept k t (store_if t i a x v b)
stores_if k t i a x v true = record { live = refl; number = refl }
stores_if k t i a x v false = record { live = refl; number = refl }

atomic : (k : Kind Pair) (t : Thread) (i : Instr) (a x : ℕ) (c : Content) → OutKept k t (atomic_content t i a x c)
atomic k t i a x (Number v) = if_out k t (is_sc i.op) (store_if t i a x v (is_held t.reserved a (width_of i.op))) (amo_content t i a x v) (stores_if k t i a x v (is_held t.reserved a (width_of i.op))) (record { live = refl; number = refl })
atomic k t i a x (Return n r) = tt

saves : (k : Kind Pair) (t : Thread) (a : ℕ) (r : CodeRef) (c : Content) → OutKept k t (save_content t a r c)
saves k t a r (Number v) = record { live = refl; number = refl }
saves k t a r (Return n s) = tt

takes : (k : Kind Pair) (t : Thread) (a : ℕ) (c : Content) → OutKept k t (take_content t a c)
takes k t a (Number v) = tt
takes k t a (Return n r) = if_out k t (n == t.number) (Puts (goes t (next_of t.at) t.regs (Some r)) (a / 8) (Number 0) None) Leaks (record { live = refl; number = refl }) tt

saves_by : (k : Kind Pair) (t : Thread) (u : ℕ → Content) (can_write : ℕ → ℕ → Bool) (a : ℕ) (ra : Option CodeRef) → NeedKept k t u (save_by can_write t a ra)
saves_by k t u can_write a None = record { is = tt }
saves_by k t u can_write a (Some r) = touching_kept k t u can_write 8 trap.Misaligned trap.Store a (λ c. save_content t a r c) (saves k t a r)

calls_by : (k : Kind Pair) (t : Thread) (v : ℕ) (p : Option Pair) → OutKept k t (call_by t v p)
calls_by k t v None = tt
calls_by k t v (Some p) = record { live = refl; number = refl }

jumps_by : (k : Kind Pair) (t : Thread) (v : ℕ) (p : Option Pair) → OutKept k t (jump_by t v p)
jumps_by k t v None = tt
jumps_by k t v (Some p) = record { live = refl; number = refl }

backs : (k : Kind Pair) (t : Thread) (ra : Option CodeRef) → OutKept k t (back_to ra t)
backs k t None = tt
backs k t (Some Root) = tt
backs k t (Some (At p)) = record { live = refl; number = refl }

does_kept : (regions : List Region) (t : Thread) (k : Kind Pair) (u : ℕ → Content) → NeedKept k t u (thread_does regions t k)
does_kept regions t (Sets rd v) u = record { is = record { live = refl; number = refl } }
does_kept regions t (Computes i) u = unless (Computes i) t u (is_return t.ra && reads_ra i) (Makes (Goes (set_thread t i.rd (computed i (slice_index t.regs i.rs1) (slice_index t.regs i.rs2))))) (record { is = record { live = refl; number = refl } })
does_kept regions t Passes u = record { is = record { live = refl; number = refl } }
does_kept regions t (Loads i) u =
    let a = plus_imm (slice_index t.regs i.rs1) i.imm in
    unless (Loads i) t u (is_return t.ra && (i.rs1 == 1)) (touching (readable regions) (width_of i.op) trap.Misaligned trap.Load a (λ c. load_content t i a c)) (touching_kept (Loads i) t u (readable regions) (width_of i.op) trap.Misaligned trap.Load a (λ c. load_content t i a c) (loads (Loads i) t i a))
does_kept regions t (Stores i) u =
    let a = plus_imm (slice_index t.regs i.rs1) i.imm in
    let x = slice_index t.regs i.rs2 in
    unless (Stores i) t u (is_return t.ra && both_ra i) (touching (writable regions) (width_of i.op) trap.Misaligned trap.Store a (λ c. store_content t a (width_of i.op) x c)) (touching_kept (Stores i) t u (writable regions) (width_of i.op) trap.Misaligned trap.Store a (λ c. store_content t a (width_of i.op) x c) (stores (Stores i) t a (width_of i.op) x))
does_kept regions t (Atomics i) u =
    let a = slice_index t.regs i.rs1 in
    let x = slice_index t.regs i.rs2 in
    let reserving : Need Thread Content = touching (readable regions) (width_of i.op) trap.Misaligned trap.Load a (λ c. reserve_content t i a c) in
    let storing : Need Thread Content = touching (writable regions) (width_of i.op) trap.Misaligned trap.Store a (λ c. atomic_content t i a x c) in
    unless (Atomics i) t u (is_return t.ra && both_ra i) (if is_lr i.op then reserving else storing) (if_need (Atomics i) t u (is_lr i.op) reserving storing (touching_kept (Atomics i) t u (readable regions) (width_of i.op) trap.Misaligned trap.Load a (λ c. reserve_content t i a c) (reserve (Atomics i) t i a)) (touching_kept (Atomics i) t u (writable regions) (width_of i.op) trap.Misaligned trap.Store a (λ c. atomic_content t i a x c) (atomic (Atomics i) t i a x)))
does_kept regions t (Saves imm) u = saves_by (Saves imm) t u (writable regions) (plus_imm (slice_index t.regs 2) imm) t.ra
does_kept regions t (Restores imm) u =
    let a = plus_imm (slice_index t.regs 2) imm in
    touching_kept (Restores imm) t u (readable regions) 8 trap.Misaligned trap.Load a (λ c. take_content t a c) (takes (Restores imm) t a)
does_kept regions t (CallsTo p) u = record { is = record { live = refl; number = refl } }
does_kept regions t (JumpsTo p) u = record { is = record { live = refl; number = refl } }
does_kept regions t (Branches i p) u =
    unless (Branches i p) t u (is_return t.ra && both_ra i) (Makes (Goes (goes t (if compare_of i.op (slice_index t.regs i.rs1) (slice_index t.regs i.rs2) then p else next_of t.at) t.regs t.ra))) (record { is = record { live = refl; number = refl } })
does_kept regions t (CallsThrough rs1 imm way) u =
    let v = jump_number (slice_index t.regs rs1) imm in
    unless (CallsThrough rs1 imm way) t u (is_return t.ra && (rs1 == 1)) (Makes (call_by t v (way v))) (makes (CallsThrough rs1 imm way) t u (call_by t v (way v)) (calls_by (CallsThrough rs1 imm way) t v (way v)))
does_kept regions t (JumpsThrough rs1 imm way) u =
    let v = jump_number (slice_index t.regs rs1) imm in
    unless (JumpsThrough rs1 imm way) t u (is_return t.ra && (rs1 == 1)) (Makes (jump_by t v (way v))) (makes (JumpsThrough rs1 imm way) t u (jump_by t v (way v)) (jumps_by (JumpsThrough rs1 imm way) t v (way v)))
does_kept regions t (GoesBack imm) u = record { is = backs (GoesBack imm) t t.ra }
does_kept regions t Asks u = record { is = refl }
does_kept regions t Breaks u = record { is = tt }
does_kept regions t Illegal u = record { is = tt }
does_kept regions t Past u = record { is = tt }

pub needs_kept : (i : Image) (t : Thread) (u : ℕ → Content) → OutKept (kind_at i t.at) t (answered (thread_needs i t) u)
unfolding thread_needs
needs_kept i t u = (does_kept i.regions t (kind_at i t.at) u).is
