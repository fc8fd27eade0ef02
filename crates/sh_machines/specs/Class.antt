-- SPDX-License-Identifier: Apache-2.0
-- The class of a word within its function: the first row of a table that applies. The kinds of records are those of the
-- RISC-V ELF psABI, "Relocations"; the classes and the rules are this project's own.
use Rattle.std.specs.Prelude.{ℕ, ℤ, pos, negsuc, zero, suc, ◌+◌, ◌-◌, ◌*◌, ◌%◌, ◌==◌, ◌&&◌, ◌||◌, ◌+ℤ◌, nat_le, nat_lt, not, Bool, false, Option, Some, None, List, [], ◌∷◌, map, slice_index, slice_index_or, if◌then◌else◌}
use Rattle.std.specs.List.{list_any}
use Rattle.sh_types.specs.declared.code.Function.{Function}
use Rattle.sh_types.specs.declared.code.Image.{Image}
use Rattle.sh_types.specs.declared.code.Pair.{Pair}
use Rattle.sh_types.specs.declared.code.Rule.TheVariants.{BranchOut, LinkRegister, CallTarget, PointerInside, GotFunction, RelocKind, EntryUsed}
use Rattle.sh_types.specs.declared.code.Site.{Site}
use Rattle.sh_types.specs.declared.code.Site.TheVariants.{Plain, Literal, InnerJump, InnerBranch, DirectCall, DirectTail, IndirectCall, IndirectTail, ReturnLike, Environment, Stop, Bad}
use Rattle.sh_types.specs.declared.relocs.Reloc.{Reloc}
use Rattle.rv_table.specs.declared.instructions.Instr.{Instr}
use Rattle.sh_machines.specs.Constants.{any_leads, is_label_at}
use Rattle.rv_table.specs.Decoding.{decoded}
use Rattle.sh_types.specs.Image.{starts_of, number_of}
use Rattle.sh_machines.specs.Kind.{opcode_of, is_system}
use Rattle.rv_table.specs.Operands.{plus_imm}

-- what the classes of a function's words go by: its number, all functions, its words, the records that are used, the labels, and the
-- number of the entry function
pub record Source : Type 0 where
  pub func : ℕ
  pub functions : List Function
  pub words : List ℕ
  pub relocs : List Reloc
  pub labels : List Pair
  pub entry : ℕ

-- where the function starts
abbrev pub home_of : Source → ℕ
home_of b = slice_index (starts_of b.functions) b.func

-- the size of the function
abbrev pub size_of : Source → ℕ
size_of b = slice_index (map (λ (f : Function). f.size) b.functions) b.func

-- ---- records

-- the record on the word at an address
abbrev pub record_on : List Reloc → ℕ → Option Reloc
record_on [] a = None
record_on (r ∷ rs) a = if r.code && (r.place == a) then Some r else record_on rs a

-- a number that is not negative is an address
abbrev pub address_if : ℤ → Option ℕ
address_if (pos n) = Some n
address_if (negsuc n) = None

-- the address that a record names: the symbol's value and the addend
abbrev pub named_by : Reloc → Option ℕ
named_by r = address_if (pos r.base +ℤ r.addend)

-- the address is one of the function
abbrev pub lies_in : ℕ → Function → Bool
lies_in a f = nat_le f.home a && nat_lt a (f.home + f.size)

-- the address is one of the function, and not its start
abbrev pub lies_inside : ℕ → Function → Bool
lies_inside a f = nat_lt f.home a && nat_lt a (f.home + f.size)

-- some function has the address
abbrev pub is_in_function : List Function → Option ℕ → Bool
is_in_function fs None = false
is_in_function fs (Some a) = list_any (lies_in a) fs

-- some function has the address, and does not start there
abbrev pub is_inside_function : List Function → Option ℕ → Bool
is_inside_function fs None = false
is_inside_function fs (Some a) = list_any (lies_inside a) fs

-- the function that starts at the address
abbrev pub started_at : List Function → Option ℕ → Option ℕ
started_at fs None = None
started_at fs (Some a) = number_of (starts_of fs) a

-- kinds that can stand on a word: BRANCH to GOT_HI20, PCREL_HI20 to LO12_S, TPREL
abbrev pub is_word_kind : ℕ → Bool
is_word_kind k = (nat_le 16 k && nat_le k 20) || (nat_le 23 k && nat_le k 32)

-- kinds that take an address as data: PCREL_HI20, HI20, LO12_I, LO12_S
abbrev pub takes_address : ℕ → Bool
takes_address k = (k == 23) || (nat_le 26 k && nat_le k 28)

-- CALL and CALL_PLT
abbrev pub is_call_record : ℕ → Bool
is_call_record k = (k == 18) || (k == 19)

-- it is this number
abbrev pub is_number : Option ℕ → ℕ → Bool
is_number None n = false
is_number (Some m) n = m == n

-- ---- jumps

-- the address that a jump or a branch of word k leads to
abbrev pub target_of : Source → ℕ → Instr → ℕ
target_of b k i = plus_imm (home_of b + 4 * k) i.imm

-- the address is that of a word of the function
abbrev pub is_own : Source → ℕ → Bool
is_own b a = nat_le (home_of b) a && (nat_lt a (home_of b + size_of b) && ((a - home_of b) % 4 == 0))

-- a jump to a function's start, or to nowhere
abbrev pub tail_class : Option ℕ → Site
tail_class None = Bad BranchOut
tail_class (Some g) = DirectTail g

-- a call of a function's start, or of nothing
abbrev pub call_class : Option ℕ → Site
call_class None = Bad CallTarget
call_class (Some g) = DirectCall g

-- JAL with rd 0
abbrev pub jump_class : Source → ℕ → Site
jump_class b a = if is_own b a then InnerJump (a - home_of b) else tail_class (number_of (starts_of b.functions) a)

-- a branch
abbrev pub branch_class : Source → ℕ → Site
branch_class b a = if is_own b a then InnerBranch (a - home_of b) else Bad BranchOut

-- ---- calls and tails of two words: an AUIPC with a CALL record, and a JALR behind it

-- the word before, with its record
abbrev pub pair_before : Source → ℕ → Option Reloc
pair_before b zero = None
pair_before b (suc j) = record_on b.relocs (home_of b + 4 * j)

-- the instruction of the word before
abbrev pub word_before : Source → ℕ → Option Instr
word_before b zero = None
word_before b (suc j) = decoded (slice_index b.words j)

-- the word before is an AUIPC into rs1, which is not x0
abbrev pub makes_pair : Option Instr → Instr → Bool
makes_pair None i = false
makes_pair (Some j) i = (opcode_of j.op == 0x17) && (not (j.rd == 0) && (j.rd == i.rs1))

-- no jump, branch or label of the function leads between the two
abbrev pub is_whole_pair : Source → ℕ → Instr → Bool
is_whole_pair b k i =
    makes_pair (word_before b k) i && (not (any_leads (home_of b + 4 * k) (home_of b) b.words) && not (is_label_at b.labels b.func (4 * k)))

-- by rd, a call or a tail of the function
abbrev pub pair_class : ℕ → Option ℕ → Site
pair_class rd None = Bad CallTarget
pair_class rd (Some g) = if rd == 1 then DirectCall g else DirectTail g

-- a JALR that is no part of a pair
abbrev pub through_class : Instr → Site
through_class i = if (i.rd == 0) && (i.rs1 == 1) then ReturnLike else if i.rd == 0 then IndirectTail else IndirectCall

-- JALR with rd 0 or 1
abbrev pub register_class : Source → ℕ → Instr → Option Reloc → Site
register_class b k i None = through_class i
register_class b k i (Some r) =
    if is_call_record r.kind then (if is_whole_pair b k i then pair_class i.rd (started_at b.functions (named_by r)) else Bad CallTarget) else through_class i

-- ---- the class

-- rd is x0 or ra
abbrev pub is_link : ℕ → Bool
is_link rd = (rd == 0) || (rd == 1)

-- by the instruction alone
abbrev pub instr_class : Source → ℕ → Option Instr → Site
instr_class b k None = Stop
instr_class b k (Some i) =
    if is_system i 1 then Stop
    else if is_system i 0 then Environment
    else if opcode_of i.op == 0x17 then Literal
    else if opcode_of i.op == 0x6f then (if i.rd == 0 then jump_class b (target_of b k i) else if i.rd == 1 then call_class (number_of (starts_of b.functions) (target_of b k i)) else Bad LinkRegister)
    else if opcode_of i.op == 0x63 then branch_class b (target_of b k i)
    else if opcode_of i.op == 0x67 then (if is_link i.rd then register_class b k i (pair_before b k) else Bad LinkRegister)
    else Plain

-- the entry function is called by nobody, and jumped to by itself alone
abbrev pub entry_class : Source → Site → Site
entry_class b (DirectCall g) = if g == b.entry then Bad EntryUsed else DirectCall g
entry_class b (DirectTail g) = if (g == b.entry) && not (g == b.func) then Bad EntryUsed else DirectTail g
entry_class b s = s

-- with the record on the word
abbrev pub record_class : Source → Option Reloc → Site → Site
record_class b None s = s
record_class b (Some r) s =
    if not (is_word_kind r.kind) then Bad RelocKind
    else if (r.kind == 20) && is_in_function b.functions (named_by r) then Bad GotFunction
    else if takes_address r.kind && is_inside_function b.functions (named_by r) then Bad PointerInside
    else if takes_address r.kind && is_number (started_at b.functions (named_by r)) b.entry then Bad EntryUsed
    else s

-- the class of word k
unfoldable pub class_at : Source → ℕ → Site
class_at b k = record_class b (record_on b.relocs (home_of b + 4 * k)) (entry_class b (instr_class b k (decoded (slice_index b.words k))))

-- that of a function of an image
abbrev pub source_of : Image → List Reloc → ℕ → Source
source_of image relocs f =
    record { func = f; functions = image.functions; words = slice_index_or image.words f []; relocs = relocs; labels = image.labels; entry = image.entry }
