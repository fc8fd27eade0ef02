-- SPDX-License-Identifier: Apache-2.0
-- The bound image of a file: in its words and its data tokens stand in place of addresses of code, by the file's relocation
-- records (System V gABI, "Relocation"; RISC-V psABI, "Relocations"), and each word has its class. Numbers in data have their
-- lowest byte first. Tokens and classes are this project's own.
use Rattle.std.specs.Prelude.{ℕ, zero, suc, ◌+◌, ◌-◌, ◌/◌, ◌%◌, ◌^◌, ◌&&◌, nat_le, nat_lt, Bool, Option, Some, None, List, [], ◌∷◌, ◌++◌, find, length, map, if◌then◌else◌}
use Rattle.sh_types.specs.declared.code.Function.{Function}
use Rattle.sh_types.specs.declared.code.Image.{Image}
use Rattle.sh_types.specs.declared.code.Pair.{Pair}
use Rattle.sh_types.specs.declared.code.Region.{Region}
use Rattle.sh_types.specs.declared.code.Site.{Site}
use Rattle.sh_types.specs.declared.relocs.Reloc.{Reloc}
use Rattle.elf_rules.specs.Bindable.{codes_in_order, data_regions, file_functions, filled_in_order, function_words, loaded_image}
use Rattle.elf_rules.specs.Relocs.{relocs_of, width_of}
use Rattle.image_rules.specs.declared.tokens.Token.{Token}
use Rattle.image_rules.specs.Binding.{bound_data, bound_word, is_data_pointer, labels_of, rows_of}
use Rattle.sh_machines.specs.Class.{Source, class_at, record_on, source_of}
use Rattle.sh_types.specs.Image.{first_stack}

-- ---- words

-- a word with the record on it, if there is one
abbrev pub word_by : List Function → Option Reloc → ℕ → ℕ
word_by functions None word = word
word_by functions (Some r) word = bound_word functions r word

-- words, from an address on, each by the record on it
abbrev pub words_by : List Function → List Reloc → ℕ → List ℕ → List ℕ
words_by functions relocs address [] = []
words_by functions relocs address (w ∷ ws) = word_by functions (record_on relocs address) w ∷ words_by functions relocs (address + 4) ws

-- the words of a function
unfoldable pub bound_words : List ℕ → List Function → List Reloc → Function → List ℕ
bound_words b functions relocs f = words_by functions relocs f.home (function_words b (codes_in_order b) f)

-- ---- data

-- the token that a record puts into data, if it does: its place, how many bytes it takes there, and the number
abbrev pub token_by : Reloc → Option ℕ → List Token
token_by r None = []
token_by r (Some v) = record { place = r.place; width = width_of r.kind; value = v } ∷ []

-- that of a record of 32 or 64 in data which names a function's start or a label
unfoldable pub token_of_record : List Function → List Pair → Reloc → List Token
token_of_record functions labels r = if is_data_pointer r then token_by r (bound_data functions labels r) else []

-- the tokens that records put into data
abbrev pub tokens_of : List Function → List Pair → List Reloc → List Token
tokens_of functions labels [] = []
tokens_of functions labels (r ∷ rs) = token_of_record functions labels r ++ tokens_of functions labels rs

-- the token takes the byte at an address
abbrev pub takes_byte : ℕ → Token → Bool
takes_byte address t = nat_le t.place address && nat_lt address (t.place + t.width)

-- byte i of a number
abbrev pub byte_of : ℕ → ℕ → ℕ
byte_of value i = value / 256 ^ i % 256

-- the byte at an address by the token that takes it; without one it stays as it is
abbrev pub byte_by : ℕ → Option Token → ℕ → ℕ
byte_by address None byte = byte
byte_by address (Some t) byte = byte_of t.value (address - t.place)

-- bytes, from an address on, each by the token that takes it
abbrev pub bytes_by : List Token → ℕ → List ℕ → List ℕ
bytes_by tokens address [] = []
bytes_by tokens address (x ∷ xs) = byte_by address (find (takes_byte address) tokens) x ∷ bytes_by tokens (address + 1) xs

-- the bytes of a region
unfoldable pub bound_region : List Token → Region → Region
bound_region tokens r = record r { bytes = bytes_by tokens r.start r.bytes }

-- the parts of the segments that hold no code, and the first stack behind them
unfoldable pub bound_regions : List ℕ → List Token → List Region
bound_regions b tokens = map (bound_region tokens) (data_regions b (codes_in_order b) (filled_in_order b)) ++ first_stack ∷ []

-- ---- the image

-- functions, words, rows, labels and readable bytes
unfoldable pub bound_parts : List ℕ → List Function → List Reloc → Image
bound_parts b functions relocs =
    record (loaded_image b) {
      words = map (bound_words b functions relocs) functions;
      rows = rows_of functions relocs;
      labels = labels_of functions relocs;
      regions = bound_regions b (tokens_of functions (labels_of functions relocs) relocs);
    }

-- the classes of so many words of a function, from word k on
abbrev pub classes_from : Source → (k count : ℕ) → List Site
classes_from source k zero = []
classes_from source k (suc n) = class_at source k ∷ classes_from source (suc k) n

-- the classes of the words of a function
abbrev pub classes_of : Source → List Site
classes_of source = classes_from source 0 (length source.words)

-- those of each function, from function f on
abbrev pub sites_from : (ℕ → Source) → (f : ℕ) → List Function → List (List Site)
sites_from source f [] = []
sites_from source f (g ∷ gs) = classes_of (source f) ∷ sites_from source (suc f) gs

-- an image with the classes of its words
unfoldable pub with_sites : List Reloc → Image → Image
with_sites relocs i = record i { sites = sites_from (source_of i relocs) 0 i.functions }

-- the bound image of a file that can be bound; frames and literals are not made here
unfoldable pub bound_image : List ℕ → Image
bound_image b = with_sites (relocs_of b) (bound_parts b (file_functions b) (relocs_of b))
