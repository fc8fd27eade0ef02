-- SPDX-License-Identifier: Apache-2.0
-- What the full form of a report has beside the short one: a digest of each copy, and each return word that moved.
-- This project's own format.
use Rattle.std.specs.Prelude.{ℕ, ◌+◌, ◌-◌, ◌/◌, false, List, [], ◌∷◌, ◌++◌, codes, decimal, length, replicate, take, drop, slice_index}
use Rattle.std.specs.Fmt.{digits}
use Rattle.std.specs.Int.{to_le_bytes}
use Rattle.std.specs.List.{flat_map, range_with_len}
use mir.Syntax.{w32}
use Rattle.hex.specs.Hex.{encode_lower}
use Rattle.sha2.specs.Sha256.{sha256}
use Rattle.sh_types.specs.declared.code.CodeRef.{CodeRef}
use Rattle.sh_types.specs.declared.code.CodeRef.TheVariants.{Root, At}
use Rattle.sh_types.specs.declared.layouts.CodeCopy.{CodeCopy}
use Rattle.sh_types.specs.declared.layouts.Layout.{Layout}
use Rattle.sh_types.specs.declared.runs.Event.{Event}
use Rattle.sh_types.specs.declared.runs.Event.TheVariants.{Run, Migrate, Publish, Erase}
use Rattle.sh_machines.specs.Copy.{copy_of}
use Rattle.sh_machines.specs.Event.{after_event}
use Rattle.sh_machines.specs.Shuffled.{Setting, Owned, Shuffled}
use Rattle.layout_maker.specs.Cell.{cell_of}
use Rattle.shuf_machine.specs.declared.answers.ReturnWord.{ReturnWord}
use Rattle.shuf_machine.specs.Returns.{return_words}
use Rattle.period_report.specs.Text.{text, pair_text, layout_line, erase_line}

-- ---- copies

-- the words of a function of a layout in its copy, and its guard
abbrev pub function_words : CodeCopy → Layout → ℕ → List ℕ
function_words c l f = take (slice_index l.sizes f / 4 + 1) (drop ((slice_index l.places f - c.start) / 4) c.words)

-- words as bytes, of each the least first
abbrev pub word_bytes : List ℕ → List ℕ
word_bytes words = flat_map (to_le_bytes w32) words

-- the functions of a copy, each with its guard, as bytes in the order of their numbers
abbrev pub code_bytes : CodeCopy → Layout → List ℕ
code_bytes c l = flat_map (λ f. word_bytes (function_words c l f)) (range_with_len 0 (length l.places))

-- the copy of layout k has this digest, in lower-case hexadecimal digits
unfoldable pub copy_line : ℕ → List ℕ → List ℕ
copy_line k digest = text (codes "copy " ∷ decimal k ∷ codes " " ∷ encode_lower digest ∷ codes "\n" ∷ [])

-- the line on the copy of layout k: its digest is the SHA-256 (FIPS 180-4) of its functions
unfoldable pub digest_line : Setting → ℕ → List ℕ
digest_line o k = copy_line k (sha256 (code_bytes (copy_of o.image (o.layout_at k)) (o.layout_at k)))

-- ---- return words

-- a number in lower-case hexadecimal digits, with zeros before them up to this many digits
unfoldable pub hex_of : ℕ → ℕ → List ℕ
hex_of width n = replicate (width - length (digits 16 false n)) 48 ++ digits 16 false n

-- the end of the hart, or a pair
abbrev pub ref_text : CodeRef → List ℕ
ref_text Root = codes "root"
ref_text (At p) = pair_text p

-- the hart moved to layout k after so many instructions, with so many return words
unfoldable pub move_line : (hart count k words : ℕ) → List ℕ
move_line hart count k words =
    text (codes "migrate " ∷ decimal hart ∷ codes " at " ∷ decimal count ∷ codes " to " ∷ decimal k ∷ codes " words " ∷ decimal words ∷ codes "\n" ∷ [])

-- a return word: its address, what it opens to, what it held and what it holds now
unfoldable pub word_line : ReturnWord → ℕ → List ℕ
word_line r now =
    text (codes "word " ∷ hex_of 8 r.address ∷ codes " " ∷ ref_text r.at ∷ codes " " ∷ hex_of 16 r.word ∷ codes " " ∷ hex_of 16 now ∷ codes "\n" ∷ [])

-- a line for each of these return words, with what the memory holds there now
abbrev pub words_text : (ℕ → Owned) → List ReturnWord → List ℕ
words_text m words = flat_map (λ (r : ReturnWord). word_line r (m (r.address / 8)).value) words

-- the hart moves: a line, and one for each of its return words by rising address
unfoldable pub move_text : Setting → Shuffled → ℕ → List ℕ
move_text o s n =
    move_line n s.count s.newest (length (return_words o s n)) ++ words_text (after_event o (Migrate n) s).words (return_words o s n)

-- ---- events

-- the lines on layout k, which came after so many instructions
abbrev pub layout_text : Setting → List ℕ → (k count : ℕ) → List ℕ
layout_text o seed k count = layout_line k count (cell_of seed k) ++ digest_line o k

-- what an event writes in a state
abbrev pub full_event : Setting → List ℕ → Shuffled → Event → List ℕ
full_event o seed s (Run n k) = []
full_event o seed s (Migrate n) = move_text o s n
full_event o seed s (Publish k) = layout_text o seed k s.count
full_event o seed s (Erase k) = erase_line k s.count

-- what events write, from a state on
abbrev pub full_events : Setting → List ℕ → Shuffled → List Event → List ℕ
full_events o seed s [] = []
full_events o seed s (e ∷ es) = full_event o seed s e ++ full_events o seed (after_event o e s) es
