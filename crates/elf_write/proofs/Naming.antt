-- SPDX-License-Identifier: Apache-2.0
-- Symbols that were written are read back, with their names.
use Rattle.std.proofs.Common.{◌≡◌, ℕ, ◌+◌, ◌*◌, ◌/◌, ◌%◌, ◌^◌, ◌<◌, ◌≤◌, Bool, true, cond, List, [], ◌∷◌, ◌++◌, length, get_or, map, take, drop, refl, ap, sym, ◌∙◌, append_assoc, arith}
use Rattle.std.specs.Prelude.{◌==◌, not, nat_le, take_while, filter, unwrap_or, if◌then◌else◌}
use Rattle.std.specs.List.{All}
use Rattle.std.proofs.Math.Nat.{mod-eq_of_lt, mul-div_cancel_left}
use Rattle.std.proofs.Math.Seq.{drop-append_seam}
use Rattle.std.proofs.lemmas.Bool.{le-leb}
use Rattle.std.proofs.lemmas.Bool.Decides.{nat_tests}
use Rattle.std.proofs.lemmas.List.{length-append, length-take-le, take-append-drop}
use Rattle.std.proofs.lemmas.List.Elements.{All-head, All-tail}
use Rattle.std.proofs.lemmas.List.Sums.{take_while-cons}
use Rattle.elf_rules.specs.declared.elf.Head.{Head}
use Rattle.elf_rules.specs.declared.elf.RawSymbol.{RawSymbol}
use Rattle.sh_types.specs.declared.symbols.Symbol.{Symbol}
use Rattle.elf_rules.specs.Elf.{number_at, raw_symbol, places, symbol, name_at, symbols_of, raws_of, table_of, heads_of, is_symtab, only, no_head, part_of, names_of, section_names as section_names_of, symbol_names, string_head}
use Rattle.sh_types.specs.declared.objects.Object.{Object}
use Rattle.elf_write.specs.declared.parts.Part.{Part}
use Rattle.elf_write.specs.declared.parts.Parts.{Parts}
use Rattle.elf_write.specs.Fields.{fields}
use Rattle.elf_write.specs.Held.{Holds, IsPlain}
use Rattle.elf_write.specs.Parts.{names_in, section_names, string_table, symbols_part, strings_part, names_part, heads_part, parts_of}
use Rattle.elf_write.specs.Tables.{symbol_fields, symbol_entry, symbol_table}
use Rattle.elf_write.specs.Writable.{IsWritable}
use Rattle.elf_write.specs.Written.{entry_home, sections, unloaded, elf_file}
use Rattle.elf_write.proofs.Laying.{holds_all, strings_at, names_at, heads_at, symbols_size}
use Rattle.elf_write.proofs.Numbers.{field_is, first_is}
use Rattle.elf_write.proofs.Saying.{says_all}
use Rattle.elf_write.proofs.Widths.{length_symbol, length_symbols}

-- ---- a name

not_zero : (c : ℕ) → 0 < c → not (c == 0) ≡ true
not_zero c above = grind (arith, nat_tests, above)

name_front : (name rest : List ℕ) → All (λ c. 0 < c) name → take_while (λ c. not (c == 0)) ((name ++ 0 ∷ []) ++ rest) ≡ name
name_front [] rest above = take_while-cons (λ c. not (c == 0)) 0 rest
name_front (c ∷ name) rest above =
    let p : ℕ → Bool = λ c. not (c == 0) in
    let behind = (name ++ 0 ∷ []) ++ rest in
    let first = not_zero c (All-head (λ c. 0 < c) c name above) in
    let more = name_front name rest (All-tail (λ c. 0 < c) c name above) in
    take_while-cons p c behind
    ∙ ap (λ (b : Bool). cond b (c ∷ take_while p behind) []) first
    ∙ ap (λ (l : List ℕ). c ∷ l) more

name_read : (before name rest : List ℕ) (place : ℕ) → length before ≡ place → All (λ c. 0 < c) name → name_at (before ++ ((name ++ 0 ∷ []) ++ rest)) place ≡ name
unfolding name_at
name_read before name rest place start above =
    let front : drop place (before ++ ((name ++ 0 ∷ []) ++ rest)) ≡ (name ++ 0 ∷ []) ++ rest =
    ap (λ (n : ℕ). drop n (before ++ ((name ++ 0 ∷ []) ++ rest))) (sym start) ∙ drop-append_seam before ((name ++ 0 ∷ []) ++ rest) in
    ap (λ (l : List ℕ). take_while (λ c. not (c == 0)) l) front ∙ name_front name rest above

-- ---- an entry

kind_kept : (kind : ℕ) → kind < 16 → kind % 16 % 16 ≡ kind
kind_kept kind low = ap (λ (k : ℕ). k % 16) (mod-eq_of_lt low) ∙ mod-eq_of_lt low

raw_read : (before : List ℕ) (at place : ℕ) (s : Symbol) (behind : List ℕ) → length before ≡ at → place < 2 ^ 32 → IsPlain s → raw_symbol ((before ++ symbol_entry place s) ++ behind) at ≡ record { name = place; kind = s.kind; section = s.section; value = s.value; size = s.size }
unfolding symbol_entry
raw_read before at place s behind start low plain =
    let all = symbol_fields place s in
    let bytes = (before ++ fields (symbol_fields place s)) ++ behind in
    let small : s.kind % 16 < 256 ^ 1 = omega arith in
    let name : number_at 4 bytes at ≡ place = first_is before at all behind start (omega arith) low in
    let info : number_at 1 bytes (at + 4) ≡ s.kind % 16 = field_is before at all 1 behind start (omega arith) small in
    let kind : number_at 1 bytes (at + 4) % 16 ≡ s.kind = ap (λ (k : ℕ). k % 16) info ∙ kind_kept s.kind plain.kind in
    let section : number_at 2 bytes (at + 6) ≡ s.section = field_is before at all 3 behind start (omega arith) plain.section in
    let value : number_at 8 bytes (at + 8) ≡ s.value = field_is before at all 4 behind start (omega arith) plain.value in
    let size : number_at 8 bytes (at + 16) ≡ s.size = field_is before at all 5 behind start (omega arith) plain.size in
    rw (name, kind, section, value, size) refl

-- ---- all of them

read : List ℕ → List ℕ → ℕ → Symbol
read names bytes place = symbol names (raw_symbol bytes place)

one_read : (before behind names rest : List ℕ) (at place : ℕ) (s : Symbol) → length before ≡ at → length names ≡ place → place < 2 ^ 32 → IsPlain s → read (names ++ ((s.name ++ 0 ∷ []) ++ rest)) ((before ++ symbol_entry place s) ++ behind) at ≡ s
unfolding read
one_read before behind names rest at place s start names_start low plain =
    let raw = raw_read before at place s behind start low plain in
    let name = name_read names s.name rest place names_start plain.name in
    ap (λ (r : RawSymbol). symbol (names ++ ((s.name ++ 0 ∷ []) ++ rest)) r) raw ∙ rw name refl

all_read : (before behind names : List ℕ) (at place : ℕ) (symbols : List Symbol) → length before ≡ at → length names ≡ place → place + length (string_table (names_in symbols)) < 2 ^ 32 → All IsPlain symbols → map (read (names ++ string_table (names_in symbols)) ((before ++ symbol_table place symbols) ++ behind)) (places 24 at (length symbols)) ≡ symbols
unfolding symbol_table string_table
all_read before behind names at place [] start names_start low plain = refl
all_read before behind names at place (s ∷ rest) start names_start low plain =
    let entry = symbol_entry place s in
    let more = symbol_table (place + length s.name + 1) rest in
    let name = s.name ++ 0 ∷ [] in
    let strings = string_table (names_in rest) in
    let bytes_are : (before ++ (entry ++ more)) ++ behind ≡ ((before ++ entry) ++ more) ++ behind = simp append_assoc in
    let first_bytes : (before ++ (entry ++ more)) ++ behind ≡ (before ++ entry) ++ (more ++ behind) = simp append_assoc in
    let names_are : names ++ (name ++ strings) ≡ (names ++ name) ++ strings = sym (append_assoc names name strings) in
    let total : length (name ++ strings) ≡ length s.name + 1 + length strings = simp length-append in
    let here_low : place < 2 ^ 32 = omega arith in
    let next_low : place + length s.name + 1 + length strings < 2 ^ 32 = omega (arith, total, low) in
    let next : length (before ++ entry) ≡ at + 24 = rw (length-append, start, length_symbol) in
    let names_next : length (names ++ name) ≡ place + length s.name + 1 = simp length-append (omega arith) in
    let first : read (names ++ (name ++ strings)) ((before ++ (entry ++ more)) ++ behind) at ≡ s =
    ap (λ (b : List ℕ). read (names ++ (name ++ strings)) b at) first_bytes
    ∙ one_read before (more ++ behind) names strings at place s start names_start here_low (All-head IsPlain s rest plain) in
    let others = all_read (before ++ entry) behind (names ++ name) (at + 24) (place + length s.name + 1) rest next names_next next_low (All-tail IsPlain s rest plain) in
    ap (λ (x : Symbol). x ∷ map (read (names ++ (name ++ strings)) ((before ++ (entry ++ more)) ++ behind)) (places 24 (at + 24) (length rest))) first
    ∙ ap (λ (b : List ℕ). s ∷ map (read (names ++ (name ++ strings)) b) (places 24 (at + 24) (length rest))) bytes_are
    ∙ ap (λ (n : List ℕ). s ∷ map (read n (((before ++ entry) ++ more) ++ behind)) (places 24 (at + 24) (length rest))) names_are
    ∙ ap (λ (xs : List Symbol). s ∷ xs) others

-- ---- the file of an object

-- a part within the file
within : (file : List ℕ) (part : Part) (bytes : List ℕ) → Holds file part bytes → file ≡ (take part.at file ++ bytes) ++ drop part.size (drop part.at file)
within file part bytes held =
    let rest = drop part.size (drop part.at file) in
    let split : drop part.at file ≡ bytes ++ rest =
    sym (take-append-drop part.size (drop part.at file)) ∙ ap (λ (b : List ℕ). b ++ rest) held in
    sym (take-append-drop part.at file)
    ∙ ap (λ (b : List ℕ). take part.at file ++ b) split
    ∙ sym (append_assoc (take part.at file) bytes rest)

-- the head of the symbol table, and that of its names
table_is : (file : List ℕ) (parts : Parts) (symbols : ℕ) → heads_of file ≡ map (λ (s : ℕ × Head). s.1) (sections parts symbols) → table_of file ≡ unloaded 35 2 parts.symbols 6 symbols 24
unfolding table_of sections
table_is file parts symbols are =
    ap (λ (hs : List Head). unwrap_or (only (filter is_symtab hs)) no_head) are

names_head_is : (file : List ℕ) (parts : Parts) (symbols : ℕ) → heads_of file ≡ map (λ (s : ℕ × Head). s.1) (sections parts symbols) → table_of file ≡ unloaded 35 2 parts.symbols 6 symbols 24 → string_head (heads_of file) (table_of file) ≡ unloaded 43 3 parts.strings 0 0 0
unfolding sections
names_head_is file parts symbols are table =
    ap (λ (hs : List Head). string_head hs (table_of file)) are
    ∙ ap (λ (t : Head). string_head (map (λ (s : ℕ × Head). s.1) (sections parts symbols)) t) table

part_is : (file : List ℕ) (name kind : ℕ) (part : Part) (bytes : List ℕ) → part.at + part.size ≤ length file → Holds file part bytes → part_of file (unloaded name kind part 0 0 0) ≡ bytes
unfolding part_of
part_is file name kind part bytes inside held =
    let lies : nat_le (part.at + part.size) (length file) ≡ true = le-leb (part.at + part.size) (length file) inside in
    ap (λ (b : Bool). if b then take part.size (drop part.at file) else []) lies ∙ held

fused : (names bytes : List ℕ) (ps : List ℕ) → map (symbol names) (map (raw_symbol bytes) ps) ≡ map (read names bytes) ps
unfolding read
fused names bytes [] = refl
fused names bytes (p ∷ ps) = ap (λ (l : List Symbol). symbol names (raw_symbol bytes p) ∷ l) (fused names bytes ps)

-- the symbols of a file whose symbol table and string table are these
read_from : (file : List ℕ) (part : Part) (symbols : List Symbol) → symbol_names file ≡ string_table (names_in symbols) → raws_of file ≡ map (raw_symbol file) (places 24 part.at (length symbols)) → Holds file part (symbol_table 0 symbols) → part.at ≤ length file → length (string_table (names_in symbols)) < 2 ^ 32 → All IsPlain symbols → symbols_of file ≡ symbols
unfolding symbols_of
read_from file part symbols names_are raws_are held inside low plain =
    let strings = string_table (names_in symbols) in
    let table = symbol_table 0 symbols in
    let rest = drop part.size (drop part.at file) in
    let start : length (take part.at file) ≡ part.at = length-take-le part.at file inside in
    let ps = places 24 part.at (length symbols) in
    ap (λ (n : List ℕ). map (symbol n) (raws_of file)) names_are
    ∙ ap (λ (rs : List RawSymbol). map (symbol strings) rs) raws_are
    ∙ fused strings file ps
    ∙ ap (λ (b : List ℕ). map (read strings b) ps) (within file part table held)
    ∙ all_read (take part.at file) rest [] part.at 0 symbols start refl (omega arith) plain

raws_from : (file : List ℕ) (part : Part) (symbols : List Symbol) → table_of file ≡ unloaded 35 2 part 6 (length symbols) 24 → part.size ≡ 24 * length symbols → raws_of file ≡ map (raw_symbol file) (places 24 part.at (length symbols))
unfolding raws_of
raws_from file part symbols table size =
    let count : part.size / 24 ≡ length symbols =
    ap (λ (n : ℕ). n / 24) size ∙ mul-div_cancel_left (length symbols) (omega arith) in
    ap (λ (t : Head). map (raw_symbol file) (places 24 t.file_at (t.size / 24))) table
    ∙ ap (λ (n : ℕ). map (raw_symbol file) (places 24 part.at n)) count

pub symbols_are : (object : Object) → IsWritable object → entry_home object < 2 ^ 64 → All IsPlain object.symbols → symbols_of (elf_file object) ≡ object.symbols
unfolding parts_of
symbols_are object w entry_fits plain =
    let file = elf_file object in
    let symbols = object.symbols in
    let says = says_all object w entry_fits in
    let held = holds_all object w in
    let whole : length (elf_file object) ≡ (heads_part object).at + (heads_part object).size = held.whole in
    let a = strings_at object in
    let b = names_at object in
    let c = heads_at object in
    let table = table_is file (parts_of object) (length object.symbols) says.heads in
    let head = names_head_is file (parts_of object) (length object.symbols) says.heads table in
    let strings_inside : (strings_part object).at + (strings_part object).size ≤ length (elf_file object) = omega arith in
    let symbols_inside : (symbols_part object).at ≤ length (elf_file object) = omega arith in
    let names_are : symbol_names (elf_file object) ≡ string_table (names_in object.symbols) =
    ap (λ (h : Head). part_of file h) head ∙ part_is file 43 3 (strings_part object) (string_table (names_in object.symbols)) strings_inside held.strings_are in
    let size : (symbols_part object).size ≡ 24 * length object.symbols =
    sym (symbols_size object) ∙ length_symbols 0 object.symbols in
    let low : length (string_table (names_in object.symbols)) < 2 ^ 32 = omega (arith, w.names) in
    read_from file (symbols_part object) symbols names_are (raws_from file (symbols_part object) symbols table size) held.symbols_are symbols_inside low plain

-- ---- the names of the sections

names_of_sections : (parts : Parts) (symbols : ℕ) → map (λ (h : Head). name_at (string_table section_names) h.name) (map (λ (s : ℕ × Head). s.1) (sections parts symbols)) ≡ section_names
unfolding sections string_table name_at
names_of_sections parts symbols = refl

pub sections_are_named : (object : Object) → IsWritable object → entry_home object < 2 ^ 64 → map (λ (h : Head). name_at (section_names_of (elf_file object)) h.name) (heads_of (elf_file object)) ≡ section_names
unfolding parts_of sections
sections_are_named object w entry_fits =
    let file = elf_file object in
    let says = says_all object w entry_fits in
    let held = holds_all object w in
    let whole : length (elf_file object) ≡ (heads_part object).at + (heads_part object).size = held.whole in
    let behind = heads_at object in
    let inside : (names_part object).at + (names_part object).size ≤ length (elf_file object) = omega arith in
    let head : get_or (heads_of (elf_file object)) (names_of (elf_file object)) no_head ≡ unloaded 51 3 (names_part object) 0 0 0 =
    ap (λ (n : ℕ). get_or (heads_of (elf_file object)) n no_head) says.names ∙ ap (λ (hs : List Head). get_or hs 7 no_head) says.heads in
    let names : section_names_of (elf_file object) ≡ string_table section_names =
    ap (λ (h : Head). part_of file h) head ∙ part_is file 51 3 (names_part object) (string_table section_names) inside held.names_are in
    ap (λ (n : List ℕ). map (λ (h : Head). name_at n h.name) (heads_of file)) names
    ∙ ap (λ (hs : List Head). map (λ (h : Head). name_at (string_table section_names) h.name) hs) says.heads
    ∙ names_of_sections (parts_of object) (length object.symbols)
