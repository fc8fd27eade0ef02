-- SPDX-License-Identifier: Apache-2.0
-- The machine that runs from moved copies: addresses in place of pairs, sealed return words, layouts that come and go.
-- Instructions are those of the RISC-V Unprivileged ISA; the rest is this project's own.
use Rattle.std.specs.Prelude.{ℕ, ◌+◌, ◌*◌, ◌/◌, ◌%◌, ◌==◌, ◌&&◌, ◌||◌, Bool, true, false, Option, Some, None, List, [], ◌∷◌, ◌++◌, length, map, drop, slice_get, slice_index, slice_set, if◌then◌else◌}
use Rattle.sh_types.specs.declared.code.Image.{Image}
use Rattle.sh_types.specs.declared.code.Pair.{Pair}
use Rattle.sh_types.specs.declared.code.Region.{Region}
use Rattle.rv_table.specs.declared.instructions.Instr.{Instr}
use Rattle.rv_table.specs.declared.instructions.Reservation.{Reservation}
use Rattle.sh_types.specs.declared.layouts.CodeCopy.{CodeCopy}
use Rattle.sh_types.specs.declared.layouts.Layout.{Layout}
use Rattle.sh_types.specs.declared.runs.End.{End}
use Rattle.sh_types.specs.declared.runs.End.TheVariants as end
use Rattle.sh_types.specs.declared.runs.Hart.{Hart}
use Rattle.sh_types.specs.declared.runs.Stored.{Stored}
use Rattle.sh_types.specs.declared.runs.Trap.TheVariants as trap
use Rattle.rv_table.specs.Arithmetic.{compare_of, extend_of}
use Rattle.sh_machines.specs.Cipher.{seal, unseal}
use Rattle.sh_machines.specs.Copy.{copied}
use Rattle.sh_machines.specs.Environment.{CallDid, Answers, Reads, Starts, ExitsHart, ExitsRun, LeaksWord, Request, call_of}
use Rattle.sh_machines.specs.Kind.{Kind, Sets, Computes, Passes, Loads, Stores, Atomics, Saves, Restores, CallsTo, JumpsTo, Branches, CallsThrough, JumpsThrough, GoesBack, Asks, Breaks, Illegal, Past, Tables, tables_of, copied_kind}
use Rattle.sh_machines.specs.Memory.{readable, writable, first_word}
use Rattle.sh_machines.specs.Need.{Outcome, Goes, Puts, Calls, Quits, Traps, Leaks, Need, Makes, answered, set_at, write_reg, touching, part_of, with_part, stored_at, patched, kept_from, reserved_at, is_held}
use Rattle.rv_table.specs.Operands.{plus_imm, reads_ra, both_ra, computed, width_of, is_lr, is_sc, taken_as}
use Rattle.sh_types.specs.Place.{pair, place_of, whose_of, pair_or_first}
use Rattle.sh_machines.specs.Tokens.{jump_number}
use Rattle.sh_machines.specs.Unmoved.{amo_word, end_if, is_his, first_regs, start_regs}

-- what a run is given: the image, the input, and the layout of each number
pub record Setting : Type 0 where
  pub image : Image
  pub input : List ℕ
  pub layout_at : ℕ → Layout

-- an aligned word of eight bytes, and the hart that owns it
pub record Owned : Type 0 where
  pub value : ℕ
  pub owner : Option ℕ

-- a word of this value and owner
abbrev pub owned : ℕ → Option ℕ → Owned
owned v o = record { value = v; owner = o }

-- ---- one instruction of a hart

-- the hart at an address, with these registers and this mark
abbrev pub goes_on : Hart → ℕ → List ℕ → Bool → Hart
goes_on h pc regs marked =
    record { number = h.number; live = h.live; code = h.code; layout = h.layout; pc = pc; regs = regs; marked = marked; reserved = h.reserved }

-- the same with another reservation
abbrev pub reserves_on : Hart → Option Reservation → Hart
reserves_on h r =
    record { number = h.number; live = h.live; code = h.code; layout = h.layout; pc = h.pc; regs = h.regs; marked = h.marked; reserved = r }

-- on to the next word, with all else as it is
abbrev pub steps_on : Hart → Hart
steps_on h = goes_on h (h.pc + 4) h.regs h.marked

-- a plain number in a register, and on to the next offset
abbrev pub set_hart : Hart → ℕ → ℕ → Hart
set_hart h rd v = goes_on h (h.pc + 4) (write_reg h.regs rd v) (if rd == 1 then false else h.marked)

-- a load: rd gets the bytes; of an owned word it is a leak
abbrev pub load_owned : Hart → Instr → ℕ → ℕ → Option ℕ → Outcome Hart Owned
load_owned h i a v None = Goes (set_hart h i.rd (extend_of i.op (part_of a (width_of i.op) v)))
load_owned h i a v (Some k) = Leaks

-- a store: the bytes are replaced; on an owned word it is a leak
abbrev pub store_owned : Hart → ℕ → ℕ → ℕ → ℕ → Option ℕ → Outcome Hart Owned
store_owned h a width x v None = Puts (steps_on h) (a / 8) (owned (with_part a width x v) None) (Some (stored_at a width))
store_owned h a width x v (Some k) = Leaks

-- load-reserved
abbrev pub reserve_owned : Hart → Instr → ℕ → ℕ → Option ℕ → Outcome Hart Owned
reserve_owned h i a v None = Goes (reserves_on (set_hart h i.rd (taken_as i.op (part_of a (width_of i.op) v))) (Some (reserved_at a (width_of i.op))))
reserve_owned h i a v (Some k) = Leaks

-- store-conditional, where the reservation holds and where not
abbrev pub stores_if : Hart → Instr → ℕ → ℕ → ℕ → Bool → Outcome Hart Owned
stores_if h i a x v true =
    Puts (reserves_on (set_hart h i.rd 0) None) (a / 8) (owned (with_part a (width_of i.op) x v) None) (Some (stored_at a (width_of i.op)))
stores_if h i a x v false = Goes (reserves_on (set_hart h i.rd 1) None)

-- an atomic memory operation
abbrev pub amo_owned : Hart → Instr → ℕ → ℕ → ℕ → Outcome Hart Owned
amo_owned h i a x v =
    Puts (set_hart h i.rd (taken_as i.op (part_of a (width_of i.op) v))) (a / 8) (owned (amo_word i a x v) None) (Some (stored_at a (width_of i.op)))

-- a store-conditional or an atomic memory operation; on an owned word it is a leak, whether or not it would succeed
abbrev pub atomic_owned : Hart → Instr → ℕ → ℕ → ℕ → Option ℕ → Outcome Hart Owned
atomic_owned h i a x v None = if is_sc i.op then stores_if h i a x v (is_held h.reserved a (width_of i.op)) else amo_owned h i a x v
atomic_owned h i a x v (Some k) = Leaks

-- the key of a hart in a layout
abbrev pub key_of : Layout → ℕ → ℕ
key_of l n = slice_index l.keys n

-- a save: ra sealed for its slot, and owned by the hart
abbrev pub save_owned : Layout → Hart → ℕ → Option ℕ → Outcome Hart Owned
save_owned l h a None =
    Puts (steps_on h) (a / 8) (owned (seal (key_of l h.number) (8 * (a / 8)) (slice_index h.regs 1)) (Some h.number)) (Some (stored_at a 8))
save_owned l h a (Some k) = Leaks

-- A restore: the word opened, and zero and nobody's afterwards. Whose word it was is not asked: by the laws it is the
-- hart's own, always.
abbrev pub take_owned : Layout → Hart → ℕ → ℕ → Outcome Hart Owned
take_owned l h a v =
    Puts (goes_on h (h.pc + 4) (slice_set h.regs 1 (unseal (key_of l h.number) (8 * (a / 8)) v)) true) (a / 8) (owned 0 None) None

-- address 0 is the end of the hart
abbrev pub returns_to : Hart → ℕ → Outcome Hart Owned
returns_to h a = if a == 0 then Quits else Goes (goes_on h a h.regs h.marked)

-- an indirect call, and an indirect jump, by a number that leads somewhere or nowhere
abbrev pub calls_by : Hart → ℕ → Option ℕ → Outcome Hart Owned
calls_by h v None = Traps trap.BadJump v
calls_by h v (Some a) = Goes (goes_on h a (slice_set h.regs 1 (h.pc + 4)) true)

-- an indirect jump, the same without a return address
abbrev pub jumps_by : Hart → ℕ → Option ℕ → Outcome Hart Owned
jumps_by h v None = Traps trap.BadJump v
jumps_by h v (Some a) = Goes (goes_on h a h.regs h.marked)

-- what an instruction of each kind demands. The checks stand in their order: ra read while it is marked, then the
-- address, then the word
abbrev pub hart_does : Layout → List Region → Hart → Kind ℕ → Need Hart Owned
hart_does l regions h (Sets rd v) = Makes (Goes (set_hart h rd v))
hart_does l regions h (Computes i) =
    if h.marked && reads_ra i then Makes Leaks
    else Makes (Goes (set_hart h i.rd (computed i (slice_index h.regs i.rs1) (slice_index h.regs i.rs2))))
hart_does l regions h Passes = Makes (Goes (steps_on h))
hart_does l regions h (Loads i) =
    if h.marked && (i.rs1 == 1) then Makes Leaks
    else touching (readable regions) (width_of i.op) trap.Misaligned trap.Load (plus_imm (slice_index h.regs i.rs1) i.imm) (λ c. load_owned h i (plus_imm (slice_index h.regs i.rs1) i.imm) c.value c.owner)
hart_does l regions h (Stores i) =
    if h.marked && both_ra i then Makes Leaks
    else touching (writable regions) (width_of i.op) trap.Misaligned trap.Store (plus_imm (slice_index h.regs i.rs1) i.imm) (λ c. store_owned h (plus_imm (slice_index h.regs i.rs1) i.imm) (width_of i.op) (slice_index h.regs i.rs2) c.value c.owner)
hart_does l regions h (Atomics i) =
    if h.marked && both_ra i then Makes Leaks
    else if is_lr i.op then touching (readable regions) (width_of i.op) trap.Misaligned trap.Load (slice_index h.regs i.rs1) (λ c. reserve_owned h i (slice_index h.regs i.rs1) c.value c.owner)
    else touching (writable regions) (width_of i.op) trap.Misaligned trap.Store (slice_index h.regs i.rs1) (λ c. atomic_owned h i (slice_index h.regs i.rs1) (slice_index h.regs i.rs2) c.value c.owner)
hart_does l regions h (Saves imm) =
    if h.marked then touching (writable regions) 8 trap.Misaligned trap.Store (plus_imm (slice_index h.regs 2) imm) (λ c. save_owned l h (plus_imm (slice_index h.regs 2) imm) c.owner)
    else Makes (Traps trap.Illegal 0)
hart_does l regions h (Restores imm) =
    touching (readable regions) 8 trap.Misaligned trap.Load (plus_imm (slice_index h.regs 2) imm) (λ c. take_owned l h (plus_imm (slice_index h.regs 2) imm) c.value)
hart_does l regions h (CallsTo a) = Makes (Goes (goes_on h a (slice_set h.regs 1 (h.pc + 4)) true))
hart_does l regions h (JumpsTo a) = Makes (Goes (goes_on h a h.regs h.marked))
hart_does l regions h (Branches i a) =
    if h.marked && both_ra i then Makes Leaks
    else Makes (Goes (goes_on h (if compare_of i.op (slice_index h.regs i.rs1) (slice_index h.regs i.rs2) then a else h.pc + 4) h.regs h.marked))
hart_does l regions h (CallsThrough rs1 imm way) =
    if h.marked && (rs1 == 1) then Makes Leaks
    else Makes (calls_by h (jump_number (slice_index h.regs rs1) imm) (way (jump_number (slice_index h.regs rs1) imm)))
hart_does l regions h (JumpsThrough rs1 imm way) =
    if h.marked && (rs1 == 1) then Makes Leaks
    else Makes (jumps_by h (jump_number (slice_index h.regs rs1) imm) (way (jump_number (slice_index h.regs rs1) imm)))
hart_does l regions h (GoesBack imm) = Makes (if h.marked then returns_to h (slice_index h.regs 1) else Traps trap.Illegal 0)
hart_does l regions h Asks = Makes Calls
hart_does l regions h Breaks = Makes (Traps trap.Breakpoint 0)
hart_does l regions h Illegal = Makes (Traps trap.Illegal 0)
hart_does l regions h Past = Makes (Traps trap.FellOff 0)

-- the pair is that behind the last instruction of its function
abbrev pub ends_there : List ℕ → Option Pair → Bool
ends_there sizes None = false
ends_there sizes (Some p) = p.off == slice_index sizes p.func

-- the address is that of a guard, behind the last instruction of a function
unfoldable pub is_guard : Layout → ℕ → Bool
is_guard l a = ends_there l.sizes (whose_of l a)

-- the kind of what stands at an address of a layout
unfoldable pub kind_there : Tables → Layout → ℕ → ℕ → Kind ℕ
kind_there tables l pc word = if is_guard l pc then Past else copied_kind tables l pc word

-- what a hart's next instruction demands, by the word that stands at its pc
unfoldable pub hart_needs : Tables → Layout → List Region → Hart → ℕ → Need Hart Owned
hart_needs tables l regions h word = hart_does l regions h (kind_there tables l h.pc word)

-- ---- whole states

-- the whole state: the number of the newest layout, whether the one before it is live too, the harts, the words of
-- memory, the input that is left, the output, how many instructions were executed, and the end, if the run has ended.
-- The layouts and their copies follow from the numbers
pub record Shuffled : Type 0 where
  pub newest : ℕ
  pub older : Bool
  -- the copy that was erased last
  pub wiped : Option CodeCopy
  pub harts : List Hart
  pub words : ℕ → Owned
  -- the input that was not read yet
  pub unread : List ℕ
  pub output : List ℕ
  pub count : ℕ
  pub end : Option End

-- some hart is live
abbrev pub any_live : List Hart → Bool
any_live [] = false
any_live (h ∷ hs) = h.live || any_live hs

-- the code of hart 0
abbrev pub first_code : List Hart → ℕ
first_code [] = 0
first_code (h ∷ hs) = h.code

-- the state after an instruction that left these
abbrev pub left : Shuffled → List Hart → (ℕ → Owned) → (unread more : List ℕ) → Option End → Shuffled
left s harts words unread more e =
    record { newest = s.newest; older = s.older; wiped = s.wiped; harts = harts; words = words; unread = unread; output = s.output ++ more; count = s.count + 1; end = e }

-- what one hart stores takes from each other one a reservation that shares a byte with it
abbrev pub hart_loses : ℕ → Stored → Hart → Hart
hart_loses n s h = if h.number == n then h else reserves_on h (kept_from s h.reserved)

-- what was stored, if anything, takes such reservations from all other harts
abbrev pub harts_lose : ℕ → Option Stored → List Hart → List Hart
harts_lose n None hs = hs
harts_lose n (Some s) hs = map (hart_loses n s) hs

-- the hart, ended with a code
abbrev pub ended_hart : Hart → ℕ → Hart
ended_hart h code =
    record { number = h.number; live = false; code = code; layout = h.layout; pc = h.pc; regs = h.regs; marked = h.marked; reserved = h.reserved }

-- the words without those that the hart owns
abbrev pub cleared : ℕ → (ℕ → Owned) → ℕ → Owned
cleared n m w = if is_his n (m w).owner then owned 0 None else m w

-- the hart ends with a code, and the run does where it was the last
abbrev pub hart_ends : Shuffled → ℕ → Hart → ℕ → Shuffled
hart_ends s n h code =
    let hs = slice_set s.harts n (ended_hart h code) in left s hs (cleared h.number s.words) s.unread [] (end_if (any_live hs) (first_code hs))

-- the run ends so, and nothing else changes
abbrev pub stopped : Shuffled → End → Shuffled
stopped s e = left s s.harts s.words s.unread [] (Some e)

-- the pair of the hart, by its layout
abbrev pub pair_of : Setting → Hart → Pair
pair_of o h = pair_or_first (whose_of (o.layout_at h.layout) h.pc)

-- the value of a word without an owner
abbrev pub value_if : ℕ → Option ℕ → Option ℕ
value_if v None = Some v
value_if v (Some k) = None

-- the number of a word that nobody owns
abbrev pub plain_value : Owned → Option ℕ
plain_value c = value_if c.value c.owner

-- bytes in place of those from an address on, in a word that nobody owns
abbrev pub fill_owned : (ℕ → ℕ) → ℕ → Option ℕ → Owned
fill_owned f v None = owned (f v) None
fill_owned f v (Some k) = owned v (Some k)

-- the words with these bytes from an address on
abbrev pub fills : ℕ → List ℕ → (ℕ → Owned) → ℕ → Owned
fills a bytes m w = fill_owned (patched a bytes w) (m w).value (m w).owner

-- a hart that is started at a function, on a layout
abbrev pub new_hart : Setting → ℕ → ℕ → (func a0 sp tp : ℕ) → Hart
new_hart o layout n f a0 sp tp =
    record {
      number = n;
      live = true;
      code = 0;
      layout = layout;
      pc = place_of (o.layout_at layout) (pair f 0);
      regs = start_regs a0 sp tp;
      marked = true;
      reserved = None;
    }

-- what comes of a call that was answered so
abbrev pub after_call : Setting → Shuffled → ℕ → Hart → CallDid → Shuffled
after_call o s n h (Answers v more) = left s (slice_set s.harts n (set_hart h 10 v)) s.words s.unread more None
after_call o s n h (Reads a bytes) =
    left s (harts_lose n (Some (stored_at a (length bytes))) (slice_set s.harts n (set_hart h 10 (length bytes)))) (fills a bytes s.words) (drop (length bytes) s.unread) [] None
after_call o s n h (Starts f a0 sp tp) =
    left s (slice_set s.harts n (set_hart h 10 (length s.harts)) ++ new_hart o h.layout (length s.harts) f a0 sp tp ∷ []) s.words s.unread [] None
after_call o s n h (ExitsHart code) = hart_ends s n h code
after_call o s n h (ExitsRun code) = stopped s (end.Exit code)
after_call o s n h LeaksWord = stopped s (end.Leak n (pair_of o h))

-- what a call of the hart sees
abbrev pub hart_asks : Shuffled → Hart → Request
hart_asks s h =
    record {
      number = slice_index h.regs 17;
      a0 = slice_index h.regs 10;
      a1 = slice_index h.regs 11;
      a2 = slice_index h.regs 12;
      a3 = slice_index h.regs 13;
      hart = h.number;
      lives = map (λ (x : Hart). x.live) s.harts;
      plain = λ w. plain_value (s.words w);
      unread = s.unread;
    }

-- what comes of an instruction that came out so
abbrev pub after : Setting → Shuffled → ℕ → Hart → Outcome Hart Owned → Shuffled
after o s n h (Goes h') = left s (slice_set s.harts n h') s.words s.unread [] None
after o s n h (Puts h' w c stored) = left s (harts_lose n stored (slice_set s.harts n h')) (set_at s.words w c) s.unread [] None
after o s n h Calls = after_call o s n h (call_of o.image.regions o.image.rows (hart_asks s h))
after o s n h Quits = hart_ends s n h (slice_index h.regs 10 % 256)
after o s n h (Traps kind v) = stopped s (end.Trapped kind n (pair_of o h) v)
after o s n h Leaks = stopped s (end.Leak n (pair_of o h))

-- what one instruction of a hart makes, by the word of its layout's copy
abbrev pub moved_of : Setting → Hart → (ℕ → Owned) → Outcome Hart Owned
moved_of o h m =
    let l = o.layout_at h.layout in
    answered (hart_needs (tables_of o.image) l o.image.regions h (copied o.image l h.pc)) m

-- one instruction of the hart, where there is one of the number
abbrev pub on_hart : Setting → Shuffled → ℕ → Option Hart → Shuffled
on_hart o s n None = s
on_hart o s n (Some h) = after o s n h (moved_of o h s.words)

-- one instruction of the hart with this number
unfoldable pub shuffled_step : Setting → ℕ → Shuffled → Shuffled
shuffled_step o n s = on_hart o s n (slice_get s.harts n)

-- the hart at the entry, on layout 1; it returns to the root
abbrev pub first_hart : Setting → Hart
first_hart o =
    record {
      number = 0;
      live = true;
      code = 0;
      layout = 1;
      pc = place_of (o.layout_at 1) (pair o.image.entry 0);
      regs = first_regs;
      marked = true;
      reserved = None;
    }

-- the state at first: layout 1 is live, and hart 0 is on it
abbrev pub shuffled_start : Setting → Shuffled
shuffled_start o =
    record {
      newest = 1;
      older = false;
      wiped = None;
      harts = first_hart o ∷ [];
      words = λ w. owned (first_word o.image.regions w) None;
      unread = o.input;
      output = [];
      count = 0;
      end = None;
    }
