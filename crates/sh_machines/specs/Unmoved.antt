-- SPDX-License-Identifier: Apache-2.0
-- The machine that never moves: pairs in place of addresses, and return addresses that are no numbers. There are no
-- layouts, places or keys in it. Instructions are those of the RISC-V Unprivileged ISA (RV64I, M, A); calls, returns,
-- saves and restores are those of the RISC-V psABI, "Integer Calling Convention" (ra is x1, sp is x2).
use Rattle.std.specs.Prelude.{ℕ, ◌+◌, ◌/◌, ◌%◌, ◌==◌, ◌&&◌, ◌||◌, Bool, true, false, Option, Some, None, List, [], ◌∷◌, ◌++◌, length, map, drop, replicate, slice_get, slice_index, slice_set, if◌then◌else◌}
use Rattle.sh_types.specs.declared.code.CodeRef.{CodeRef}
use Rattle.sh_types.specs.declared.code.CodeRef.TheVariants.{Root, At}
use Rattle.sh_types.specs.declared.code.Image.{Image}
use Rattle.sh_types.specs.declared.code.Pair.{Pair}
use Rattle.sh_types.specs.declared.code.Region.{Region}
use Rattle.rv_table.specs.declared.instructions.Instr.{Instr}
use Rattle.rv_table.specs.declared.instructions.Reservation.{Reservation}
use Rattle.sh_types.specs.declared.runs.End.{End}
use Rattle.sh_types.specs.declared.runs.End.TheVariants as end
use Rattle.sh_types.specs.declared.runs.Stored.{Stored}
use Rattle.sh_types.specs.declared.runs.Trap.TheVariants as trap
use Rattle.rv_table.specs.Arithmetic.{compare_of, extend_of, amo_of}
use Rattle.sh_machines.specs.Environment.{CallDid, Answers, Reads, Starts, ExitsHart, ExitsRun, LeaksWord, Request, call_of}
use Rattle.sh_types.specs.Image.{first_sp}
use Rattle.sh_machines.specs.Kind.{Kind, Sets, Computes, Passes, Loads, Stores, Atomics, Saves, Restores, CallsTo, JumpsTo, Branches, CallsThrough, JumpsThrough, GoesBack, Asks, Breaks, Illegal, Past, kind_at}
use Rattle.sh_machines.specs.Memory.{readable, writable, first_word}
use Rattle.sh_machines.specs.Need.{Outcome, Goes, Puts, Calls, Quits, Traps, Leaks, Need, Makes, answered, set_at, write_reg, touching, part_of, with_part, stored_at, patched, kept_from, reserved_at, is_held}
use Rattle.rv_table.specs.Operands.{plus_imm, reads_ra, both_ra, computed, width_of, is_lr, is_sc, taken_as}
use Rattle.sh_types.specs.Place.{pair}
use Rattle.sh_machines.specs.Tokens.{jump_number}

-- A hart of this machine: it is at a pair, and a return address in ra is no number. In the machine that runs from moved
-- copies the same hart is a `Hart`, at an address and with a mark at ra.
pub record Thread : Type 0 where
  pub number : ℕ
  pub live : Bool
  pub code : ℕ
  pub at : Pair
  pub regs : List ℕ
  pub ra : Option CodeRef
  pub reserved : Option Reservation

-- an aligned word of eight bytes: a number, or a return word of a hart
pub data Content : Type 0 where
  Number : (value : ℕ) → Content
  Return : (hart : ℕ) → (to : CodeRef) → Content

-- ra holds a return address
abbrev pub is_return : Option CodeRef → Bool
is_return None = false
is_return (Some r) = true

-- the pair of the next word
abbrev pub next_of : Pair → Pair
next_of p = pair p.func (p.off + 4)

-- the thread at a pair, with these registers and this in ra
abbrev pub goes : Thread → Pair → List ℕ → Option CodeRef → Thread
goes t p regs ra = record { number = t.number; live = t.live; code = t.code; at = p; regs = regs; ra = ra; reserved = t.reserved }

-- the same with another reservation
abbrev pub reserves : Thread → Option Reservation → Thread
reserves t r = record { number = t.number; live = t.live; code = t.code; at = t.at; regs = t.regs; ra = t.ra; reserved = r }

-- on to the next offset, with all else as it is
abbrev pub steps : Thread → Thread
steps t = goes t (next_of t.at) t.regs t.ra

-- a plain number in a register, and on to the next offset
abbrev pub set_thread : Thread → ℕ → ℕ → Thread
set_thread t rd v = goes t (next_of t.at) (write_reg t.regs rd v) (if rd == 1 then None else t.ra)

-- ---- what an instruction demands, and what it makes

-- a load: rd gets the bytes; of a return word it is a leak
abbrev pub load_content : Thread → Instr → ℕ → Content → Outcome Thread Content
load_content t i a (Number v) = Goes (set_thread t i.rd (extend_of i.op (part_of a (width_of i.op) v)))
load_content t i a (Return k r) = Leaks

-- a store: the bytes are replaced; on a return word it is a leak
abbrev pub store_content : Thread → ℕ → ℕ → ℕ → Content → Outcome Thread Content
store_content t a width x (Number v) = Puts (steps t) (a / 8) (Number (with_part a width x v)) (Some (stored_at a width))
store_content t a width x (Return k r) = Leaks

-- load-reserved
abbrev pub reserve_content : Thread → Instr → ℕ → Content → Outcome Thread Content
reserve_content t i a (Number v) = Goes (reserves (set_thread t i.rd (taken_as i.op (part_of a (width_of i.op) v))) (Some (reserved_at a (width_of i.op))))
reserve_content t i a (Return k r) = Leaks

-- store-conditional, where the reservation holds and where not; it ends either way
abbrev pub store_if : Thread → Instr → ℕ → ℕ → ℕ → Bool → Outcome Thread Content
store_if t i a x v true = Puts (reserves (set_thread t i.rd 0) None) (a / 8) (Number (with_part a (width_of i.op) x v)) (Some (stored_at a (width_of i.op)))
store_if t i a x v false = Goes (reserves (set_thread t i.rd 1) None)

-- what an atomic memory operation stores, of the word before
abbrev pub amo_word : Instr → ℕ → ℕ → ℕ → ℕ
amo_word i a x v = with_part a (width_of i.op) (amo_of i.op (part_of a (width_of i.op) v) x) v

-- an atomic memory operation
abbrev pub amo_content : Thread → Instr → ℕ → ℕ → ℕ → Outcome Thread Content
amo_content t i a x v =
    Puts (set_thread t i.rd (taken_as i.op (part_of a (width_of i.op) v))) (a / 8) (Number (amo_word i a x v)) (Some (stored_at a (width_of i.op)))

-- a store-conditional or an atomic memory operation; on a return word it is a leak, whether or not it would succeed
abbrev pub atomic_content : Thread → Instr → ℕ → ℕ → Content → Outcome Thread Content
atomic_content t i a x (Number v) = if is_sc i.op then store_if t i a x v (is_held t.reserved a (width_of i.op)) else amo_content t i a x v
atomic_content t i a x (Return k r) = Leaks

-- a save
abbrev pub save_content : Thread → ℕ → CodeRef → Content → Outcome Thread Content
save_content t a r (Number v) = Puts (steps t) (a / 8) (Return t.number r) (Some (stored_at a 8))
save_content t a r (Return k s) = Leaks

-- a restore. A live hart's meets a return word of its own, always
abbrev pub take_content : Thread → ℕ → Content → Outcome Thread Content
take_content t a (Number v) = Leaks
take_content t a (Return k r) = if k == t.number then Puts (goes t (next_of t.at) t.regs (Some r)) (a / 8) (Number 0) None else Leaks

-- a save of an unmarked ra. A live hart never comes there
abbrev pub save_by : (ℕ → ℕ → Bool) → Thread → ℕ → Option CodeRef → Need Thread Content
save_by can_write t a None = Makes (Traps trap.Illegal 0)
save_by can_write t a (Some r) = touching can_write 8 trap.Misaligned trap.Store a (λ c. save_content t a r c)

-- a return, which from an unmarked ra never comes
abbrev pub back_to : Option CodeRef → Thread → Outcome Thread Content
back_to None t = Traps trap.Illegal 0
back_to (Some Root) t = Quits
back_to (Some (At p)) t = Goes (goes t p t.regs t.ra)

-- an indirect call, and an indirect jump, by a number that leads somewhere or nowhere
abbrev pub call_by : Thread → ℕ → Option Pair → Outcome Thread Content
call_by t v None = Traps trap.BadJump v
call_by t v (Some p) = Goes (goes t p t.regs (Some (At (next_of t.at))))

-- an indirect jump, the same without a return address
abbrev pub jump_by : Thread → ℕ → Option Pair → Outcome Thread Content
jump_by t v None = Traps trap.BadJump v
jump_by t v (Some p) = Goes (goes t p t.regs t.ra)

-- what an instruction of each kind demands. The checks stand in their order: ra read while it holds a return address,
-- then the address, then the word
abbrev pub thread_does : List Region → Thread → Kind Pair → Need Thread Content
thread_does regions t (Sets rd v) = Makes (Goes (set_thread t rd v))
thread_does regions t (Computes i) =
    if is_return t.ra && reads_ra i then Makes Leaks
    else Makes (Goes (set_thread t i.rd (computed i (slice_index t.regs i.rs1) (slice_index t.regs i.rs2))))
thread_does regions t Passes = Makes (Goes (steps t))
thread_does regions t (Loads i) =
    if is_return t.ra && (i.rs1 == 1) then Makes Leaks
    else touching (readable regions) (width_of i.op) trap.Misaligned trap.Load (plus_imm (slice_index t.regs i.rs1) i.imm) (λ c. load_content t i (plus_imm (slice_index t.regs i.rs1) i.imm) c)
thread_does regions t (Stores i) =
    if is_return t.ra && both_ra i then Makes Leaks
    else touching (writable regions) (width_of i.op) trap.Misaligned trap.Store (plus_imm (slice_index t.regs i.rs1) i.imm) (λ c. store_content t (plus_imm (slice_index t.regs i.rs1) i.imm) (width_of i.op) (slice_index t.regs i.rs2) c)
thread_does regions t (Atomics i) =
    if is_return t.ra && both_ra i then Makes Leaks
    else if is_lr i.op then touching (readable regions) (width_of i.op) trap.Misaligned trap.Load (slice_index t.regs i.rs1) (λ c. reserve_content t i (slice_index t.regs i.rs1) c)
    else touching (writable regions) (width_of i.op) trap.Misaligned trap.Store (slice_index t.regs i.rs1) (λ c. atomic_content t i (slice_index t.regs i.rs1) (slice_index t.regs i.rs2) c)
thread_does regions t (Saves imm) = save_by (writable regions) t (plus_imm (slice_index t.regs 2) imm) t.ra
thread_does regions t (Restores imm) =
    touching (readable regions) 8 trap.Misaligned trap.Load (plus_imm (slice_index t.regs 2) imm) (λ c. take_content t (plus_imm (slice_index t.regs 2) imm) c)
thread_does regions t (CallsTo p) = Makes (Goes (goes t p t.regs (Some (At (next_of t.at)))))
thread_does regions t (JumpsTo p) = Makes (Goes (goes t p t.regs t.ra))
thread_does regions t (Branches i p) =
    if is_return t.ra && both_ra i then Makes Leaks
    else Makes (Goes (goes t (if compare_of i.op (slice_index t.regs i.rs1) (slice_index t.regs i.rs2) then p else next_of t.at) t.regs t.ra))
thread_does regions t (CallsThrough rs1 imm way) =
    if is_return t.ra && (rs1 == 1) then Makes Leaks
    else Makes (call_by t (jump_number (slice_index t.regs rs1) imm) (way (jump_number (slice_index t.regs rs1) imm)))
thread_does regions t (JumpsThrough rs1 imm way) =
    if is_return t.ra && (rs1 == 1) then Makes Leaks
    else Makes (jump_by t (jump_number (slice_index t.regs rs1) imm) (way (jump_number (slice_index t.regs rs1) imm)))
thread_does regions t (GoesBack imm) = Makes (back_to t.ra t)
thread_does regions t Asks = Makes Calls
thread_does regions t Breaks = Makes (Traps trap.Breakpoint 0)
thread_does regions t Illegal = Makes (Traps trap.Illegal 0)
thread_does regions t Past = Makes (Traps trap.FellOff 0)

-- what the thread's next instruction demands
unfoldable pub thread_needs : Image → Thread → Need Thread Content
thread_needs image t = thread_does image.regions t (kind_at image t.at)

-- ---- whole states

-- the whole state: the harts, the words of memory, the input that is left, the output, and the end, if the run has ended
pub record Unmoved : Type 0 where
  pub threads : List Thread
  pub contents : ℕ → Content
  -- the input that was not read yet
  pub unread : List ℕ
  pub output : List ℕ
  pub end : Option End

-- some hart is live
abbrev pub any_alive : List Thread → Bool
any_alive [] = false
any_alive (t ∷ ts) = t.live || any_alive ts

-- the code of hart 0
abbrev pub first_answer : List Thread → ℕ
first_answer [] = 0
first_answer (t ∷ ts) = t.code

-- the run ends where no hart is live, with the code of hart 0
abbrev pub end_if : Bool → ℕ → Option End
end_if live code = if live then None else Some (end.Exit code)

-- the state after an instruction that left these
abbrev pub leaves : Unmoved → List Thread → (ℕ → Content) → (unread more : List ℕ) → Option End → Unmoved
leaves u threads contents unread more e = record { threads = threads; contents = contents; unread = unread; output = u.output ++ more; end = e }

-- what one hart stores takes from each other one a reservation that shares a byte with it
abbrev pub thread_loses : ℕ → Stored → Thread → Thread
thread_loses n s t = if t.number == n then t else reserves t (kept_from s t.reserved)

-- what was stored, if anything, takes such reservations from all other harts
abbrev pub threads_lose : ℕ → Option Stored → List Thread → List Thread
threads_lose n None ts = ts
threads_lose n (Some s) ts = map (thread_loses n s) ts

-- the hart, ended with a code
abbrev pub ended_thread : Thread → ℕ → Thread
ended_thread t code =
    record { number = t.number; live = false; code = code; at = t.at; regs = t.regs; ra = t.ra; reserved = t.reserved }

-- the hart of a return word
abbrev pub owner_of : Content → Option ℕ
owner_of (Number v) = None
owner_of (Return k r) = Some k

-- the number of a word that is no return word
abbrev pub number_of : Content → Option ℕ
number_of (Number v) = Some v
number_of (Return k r) = None

-- the owner is this hart
abbrev pub is_his : ℕ → Option ℕ → Bool
is_his n None = false
is_his n (Some k) = k == n

-- a hart that ends leaves zeros in its return words
abbrev pub emptied : ℕ → (ℕ → Content) → ℕ → Content
emptied n u w = if is_his n (owner_of (u w)) then Number 0 else u w

-- the hart ends with a code, and the run does where it was the last
abbrev pub thread_ends : Unmoved → ℕ → Thread → ℕ → Unmoved
thread_ends u n t code =
    let ts = slice_set u.threads n (ended_thread t code) in leaves u ts (emptied t.number u.contents) u.unread [] (end_if (any_alive ts) (first_answer ts))

-- the run ends so, and nothing else changes
abbrev pub stands_still : Unmoved → End → Unmoved
stands_still u e = leaves u u.threads u.contents u.unread [] (Some e)

-- bytes in place of those from an address on
abbrev pub fill_content : (ℕ → ℕ) → Content → Content
fill_content f (Number v) = Number (f v)
fill_content f (Return k r) = Return k r

-- the words with these bytes from an address on
abbrev pub filled : ℕ → List ℕ → (ℕ → Content) → ℕ → Content
filled a bytes u w = fill_content (patched a bytes w) (u w)

-- the registers of a hart that is started: all zero but a0, sp and tp
abbrev pub start_regs : (a0 sp tp : ℕ) → List ℕ
start_regs a0 sp tp = slice_set (slice_set (slice_set (replicate 32 0) 10 a0) 2 sp) 4 tp

-- a hart that is started at a function
abbrev pub new_thread : ℕ → (func a0 sp tp : ℕ) → Thread
new_thread n f a0 sp tp =
    record { number = n; live = true; code = 0; at = pair f 0; regs = start_regs a0 sp tp; ra = Some Root; reserved = None }

-- the environment call's answer goes to a0, which is x10
abbrev pub then_call : Unmoved → ℕ → Thread → CallDid → Unmoved
then_call u n t (Answers v more) = leaves u (slice_set u.threads n (set_thread t 10 v)) u.contents u.unread more None
then_call u n t (Reads a bytes) =
    leaves u (threads_lose n (Some (stored_at a (length bytes))) (slice_set u.threads n (set_thread t 10 (length bytes)))) (filled a bytes u.contents) (drop (length bytes) u.unread) [] None
then_call u n t (Starts f a0 sp tp) =
    leaves u (slice_set u.threads n (set_thread t 10 (length u.threads)) ++ new_thread (length u.threads) f a0 sp tp ∷ []) u.contents u.unread [] None
then_call u n t (ExitsHart code) = thread_ends u n t code
then_call u n t (ExitsRun code) = stands_still u (end.Exit code)
then_call u n t LeaksWord = stands_still u (end.Leak n t.at)

-- what a call of the thread sees
abbrev pub thread_asks : Unmoved → Thread → Request
thread_asks u t =
    record {
      number = slice_index t.regs 17;
      a0 = slice_index t.regs 10;
      a1 = slice_index t.regs 11;
      a2 = slice_index t.regs 12;
      a3 = slice_index t.regs 13;
      hart = t.number;
      lives = map (λ (x : Thread). x.live) u.threads;
      plain = λ w. number_of (u.contents w);
      unread = u.unread;
    }

-- what comes of an instruction that came out so
abbrev pub then_leaves : Image → Unmoved → ℕ → Thread → Outcome Thread Content → Unmoved
then_leaves i u n t (Goes t') = leaves u (slice_set u.threads n t') u.contents u.unread [] None
then_leaves i u n t (Puts t' w c stored) = leaves u (threads_lose n stored (slice_set u.threads n t')) (set_at u.contents w c) u.unread [] None
then_leaves i u n t Calls = then_call u n t (call_of i.regions i.rows (thread_asks u t))
then_leaves i u n t Quits = thread_ends u n t (slice_index t.regs 10 % 256)
then_leaves i u n t (Traps kind v) = stands_still u (end.Trapped kind n t.at v)
then_leaves i u n t Leaks = stands_still u (end.Leak n t.at)

-- one instruction of the hart, where there is one of the number
abbrev pub on_thread : Image → Unmoved → ℕ → Option Thread → Unmoved
on_thread i u n None = u
on_thread i u n (Some t) = then_leaves i u n t (answered (thread_needs i t) u.contents)

-- the run has not ended
abbrev pub goes_still : Option End → Bool
goes_still None = true
goes_still (Some e) = false

-- a hart of the number was started and is live
abbrev pub is_alive : Option Thread → Bool
is_alive None = false
is_alive (Some t) = t.live

-- the run has not ended and the hart is live
abbrev pub can_go : Unmoved → ℕ → Bool
can_go u n = goes_still u.end && is_alive (slice_get u.threads n)

-- one instruction of the hart with this number, where it can go
unfoldable pub unmoved_step : Image → ℕ → Unmoved → Unmoved
unmoved_step i n u = if can_go u n then on_thread i u n (slice_get u.threads n) else u

-- one instruction for each number of a list
abbrev pub unmoved_from : Image → List ℕ → Unmoved → Unmoved
unmoved_from i [] u = u
unmoved_from i (n ∷ ns) u = unmoved_from i ns (unmoved_step i n u)

-- the registers of the first hart: all zero but sp
abbrev pub first_regs : List ℕ
first_regs = slice_set (replicate 32 0) 2 first_sp

-- the hart at the entry; it returns to the root
abbrev pub first_thread : Image → Thread
first_thread i =
    record { number = 0; live = true; code = 0; at = pair i.entry 0; regs = first_regs; ra = Some Root; reserved = None }

-- the state at first: hart 0 alone, the regions' bytes, the whole input
abbrev pub unmoved_start : Image → (input : List ℕ) → Unmoved
unmoved_start i input =
    record { threads = first_thread i ∷ []; contents = λ w. Number (first_word i.regions w); unread = input; output = []; end = None }

-- the unmoved run of a list of hart numbers
unfoldable pub unmoved_run : Image → (input : List ℕ) → List ℕ → Unmoved
unmoved_run i input ns = unmoved_from i ns (unmoved_start i input)
