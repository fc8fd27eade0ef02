-- SPDX-License-Identifier: Apache-2.0
-- Which files can be bound, in which order the others are refused, and what stands in such a file. A file cannot be bound
-- where a rule of the ELF file fails (ElfRules, RelocRules), a limit is passed, a rule of splitting fails (Splitting), or its
-- bytes do not agree with a relocation record. Frames come later, and may refuse further files. The limits and the order are
-- this project's own; segments, sections and records are those of the System V gABI ("Program Header", "Sections",
-- "Relocation").
use Rattle.std.specs.Prelude.{◌≡◌, ℕ, ◌+◌, ◌-◌, ◌/◌, ◌&&◌, nat_lt, nat_le, max, min, Bool, false, is_none, List, [], ◌∷◌, ◌++◌, length, map, filter, find, take, drop, replicate, unwrap_or, Option, Some, None, Result, Ok, Err, if◌then◌else◌}
use Rattle.sh_types.specs.declared.code.Function.{Function}
use Rattle.sh_types.specs.declared.code.Image.{Image}
use Rattle.sh_types.specs.declared.code.Region.{Region}
use Rattle.elf_rules.specs.declared.elf.Head.{Head}
use Rattle.elf_rules.specs.declared.elf.Segment.{Segment}
use Rattle.sh_types.specs.declared.relocs.Reloc.{Reloc}
use Rattle.elf_rules.specs.declared.relocs.Disagrees.{Disagrees}
use Rattle.elf_rules.specs.declared.refusals.ElfRule.{ElfRule}
use Rattle.elf_rules.specs.declared.refusals.LimitKind.{LimitKind}
use Rattle.elf_rules.specs.declared.refusals.LimitKind.TheVariants as kind
use Rattle.elf_rules.specs.declared.refusals.LoadFault.{LoadFault}
use Rattle.elf_rules.specs.declared.refusals.LoadFault.TheVariants as load
use Rattle.elf_rules.specs.declared.refusals.SplitFault.{SplitFault}
use Rattle.elf_rules.specs.declared.refusals.SplitFault.TheVariants as split
use Rattle.elf_rules.specs.Elf.{number_at, places, entry_of, segments_of, heads_of, is_code, sections_of, no_head, symbols_of}
use Rattle.elf_rules.specs.ElfRules.{has_memory, first_failing, table_rules, symbol_rules, reloc_rules}
use Rattle.elf_rules.specs.Relocs.{width_of, relocs_of, disagreement}
use Rattle.sh_types.specs.Image.{starts_of, number_of, first_stack}
use Rattle.sh_types.specs.Limits.{most_code, most_functions, most_mapped}
use Rattle.elf_rules.specs.Splitting.{split_refusal, functions_of}

-- ---- what is limited

abbrev pub sum_of : List ℕ → ℕ
sum_of [] = 0
sum_of (n ∷ ns) = n + sum_of ns

-- the bytes of the PT_LOAD segments in memory
abbrev pub mapped_by : List Segment → ℕ
mapped_by segments = sum_of (map (λ (g : Segment). g.size) segments)

-- the bytes of functions
abbrev pub code_by : List Function → ℕ
code_by functions = sum_of (map (λ (f : Function). f.size) functions)

-- the functions that the file's symbols give
unfoldable pub file_functions : List ℕ → List Function
file_functions b = functions_of (symbols_of b) (sections_of b) (entry_of b)

-- ---- by rising addresses

abbrev pub put_by : {A : Type 0} → (A → ℕ) → A → List A → List A
put_by key x [] = x ∷ []
put_by key x (y ∷ ys) = if nat_le (key x) (key y) then x ∷ y ∷ ys else y ∷ put_by key x ys

-- the entries of a list by rising keys
abbrev pub rising_by : {A : Type 0} → (A → ℕ) → List A → List A
rising_by key [] = []
rising_by key (x ∷ xs) = put_by key x (rising_by key xs)

-- the segments with memory, and the sections with code, by rising addresses
unfoldable pub filled_in_order : List ℕ → List Segment
filled_in_order b = rising_by (λ (g : Segment). g.start) (filter has_memory (segments_of b))

unfoldable pub codes_in_order : List ℕ → List Head
codes_in_order b = rising_by (λ (h : Head). h.start) (filter is_code (heads_of b))

-- ---- the bytes at an address

-- the address lies in the memory of a segment
abbrev pub is_mapped_at : ℕ → Segment → Bool
is_mapped_at address g = nat_le g.start address && nat_lt address (g.start + g.size)

-- what stands for a segment where there is none
abbrev pub no_segment : Segment
no_segment = record { start = 0; file_at = 0; file_size = 0; size = 0; writable = false }

-- the segment with an address
abbrev pub segment_with : List Segment → ℕ → Segment
segment_with segments address = unwrap_or (find (is_mapped_at address) segments) no_segment

-- where the byte of an address stands in the file, by the segment with the address
abbrev pub mapped_place : List Segment → ℕ → ℕ
mapped_place segments address = (segment_with segments address).file_at + (address - (segment_with segments address).start)

-- ---- relocation records that do not agree with the bytes

-- the first of two refusals, if there is one
abbrev pub or_later : Option LoadFault → Option LoadFault → Option LoadFault
or_later None later = later
or_later (Some refusal) later = Some refusal

-- the number of the bytes that a record takes at its place
unfoldable pub number_under : List ℕ → List Segment → Reloc → ℕ
number_under b segments r = number_at (width_of r.kind) b (mapped_place segments r.place)

-- how a record disagrees with the bytes at its place, as a refusal
abbrev pub mismatch : Reloc → Option Disagrees → Option LoadFault
mismatch r None = None
mismatch r (Some d) = Some (load.Mismatch r.place r.kind d.found d.expected)

-- the first of some records that disagrees, by all records of the file
abbrev pub first_mismatch : List ℕ → List Segment → List Reloc → List Reloc → Option LoadFault
first_mismatch b segments all [] = None
first_mismatch b segments all (r ∷ rs) =
    or_later (mismatch r (disagreement all r (number_under b segments r))) (first_mismatch b segments all rs)

-- the first record of the file that disagrees
unfoldable pub mismatch_of : List ℕ → Option LoadFault
mismatch_of b = first_mismatch b (filled_in_order b) (relocs_of b) (relocs_of b)

-- ---- refusals

-- a value above its limit
abbrev pub above : LimitKind → ℕ → ℕ → Option LoadFault
above kind most value = if nat_lt most value then Some (load.Limit kind value) else None

abbrev pub by_rule : Option ElfRule → Option LoadFault
by_rule None = None
by_rule (Some rule) = Some (load.Elf rule)

-- splitting does not answer want of memory where it answers a rule
abbrev pub by_split : Option SplitFault → Option LoadFault
by_split None = None
by_split (Some split.NoMemory) = None
by_split (Some (split.Rule home rule)) = Some (load.Split home rule)

-- the first refusal: the rules on the tables, on symbols and on relocation records, the mapped bytes, the rules of
-- splitting, the number of functions, the bytes of code, and the first record that disagrees with its bytes
unfoldable pub binding_refusal : List ℕ → Option LoadFault
binding_refusal b =
    or_later (by_rule (first_failing table_rules b))
    (or_later (by_rule (first_failing symbol_rules b))
    (or_later (by_rule (first_failing reloc_rules b))
    (or_later (above kind.Mapped most_mapped (mapped_by (segments_of b)))
    (or_later (by_split (split_refusal (symbols_of b) (sections_of b) (entry_of b)))
    (or_later (above kind.Functions most_functions (length (file_functions b)))
    (or_later (above kind.Code most_code (code_by (file_functions b)))
    (mismatch_of b)))))))

-- the file can be bound
abbrev pub is_bindable : List ℕ → Bool
is_bindable b = is_none (binding_refusal b)

abbrev pub IsBindable : List ℕ → Type 0
IsBindable b = binding_refusal b ≡ None

-- ---- words

-- an address lies in a section
abbrev pub is_inside : ℕ → Head → Bool
is_inside address h = nat_le h.start address && nat_lt address (h.start + h.size)

abbrev pub section_with : List Head → ℕ → Head
section_with codes address = unwrap_or (find (is_inside address) codes) no_head

-- where the bytes of an address stand in the file
abbrev pub file_place : List Head → ℕ → ℕ
file_place codes address = (section_with codes address).file_at + (address - (section_with codes address).start)

-- the words of a function, as they stand in the file
unfoldable pub function_words : List ℕ → List Head → Function → List ℕ
function_words b codes f = map (number_at 4 b) (places 4 (file_place codes f.home) (f.size / 4))

-- ---- the readable bytes

-- the bytes of a segment from one address up to another: those of the file, and behind p_filesz zeros
unfoldable pub segment_bytes : List ℕ → Segment → ℕ → ℕ → List ℕ
segment_bytes b g from to =
    take (min to (g.start + g.file_size) - from) (drop (g.file_at + (from - g.start)) b)
    ++ replicate (to - max from (g.start + g.file_size)) 0

-- the part of a segment from one address up to another, if there is a byte
abbrev pub piece : List ℕ → Segment → ℕ → ℕ → List Region
piece b g from to =
    if nat_lt from to
    then record { start = from; end = to; writable = g.writable; bytes = segment_bytes b g from to } ∷ []
    else []

-- the parts of a segment, from an address on, that lie in none of these sections, which rise
abbrev pub pieces : List ℕ → Segment → ℕ → List Head → List Region
pieces b g from [] = piece b g from (g.start + g.size)
pieces b g from (h ∷ hs) = piece b g from h.start ++ pieces b g (h.start + h.size) hs

-- the sections that start in a segment
abbrev pub codes_within : Segment → List Head → List Head
codes_within g codes = filter (λ (h : Head). nat_le g.start h.start && nat_lt h.start (g.start + g.size)) codes

-- the parts of the segments that hold no code
abbrev pub data_regions : List ℕ → List Head → List Segment → List Region
data_regions b codes [] = []
data_regions b codes (g ∷ gs) = pieces b g g.start (codes_within g codes) ++ data_regions b codes gs

-- and the first stack behind them
unfoldable pub file_regions : List ℕ → List Region
file_regions b = data_regions b (codes_in_order b) (filled_in_order b) ++ first_stack ∷ []

-- ---- the image

-- the number of the function at the entry
abbrev pub entry_number : List ℕ → ℕ
entry_number b = unwrap_or (number_of (starts_of (file_functions b)) (entry_of b)) 0

-- what stands in a file that can be bound: functions, words and readable bytes; relocation records bind nothing here
unfoldable pub loaded_image : List ℕ → Image
loaded_image b =
    record {
      functions = file_functions b;
      entry = entry_number b;
      words = map (function_words b (codes_in_order b)) (file_functions b);
      sites = [];
      frames = [];
      literals = [];
      rows = [];
      labels = [];
      regions = file_regions b;
    }

-- ---- what a step of loading tells

-- the fault is this refusal; want of memory says nothing
abbrev pub Stops : LoadFault → Option LoadFault → Type 0
Stops load.NoMemory refusal = Unit {0}
Stops (load.Elf rule) refusal = refusal ≡ Some (load.Elf rule)
Stops (load.Limit kind value) refusal = refusal ≡ Some (load.Limit kind value)
Stops (load.Split home rule) refusal = refusal ≡ Some (load.Split home rule)
Stops (load.Mismatch place kind found expected) refusal = refusal ≡ Some (load.Mismatch place kind found expected)
Stops (load.Refused func name off rule) refusal = refusal ≡ Some (load.Refused func name off rule)

-- nothing is refused and P is true of the value, or this is refused
abbrev pub Passes : {A : Type 0} → Result A LoadFault → Option LoadFault → (A → Type 0) → Type 0
Passes (Ok value) refusal P = (refusal ≡ None) × P value
Passes (Err fault) refusal P = Stops fault refusal
