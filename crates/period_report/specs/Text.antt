-- SPDX-License-Identifier: Apache-2.0
-- The text of a report: lines that end by LF, numbers in decimal. This project's own format.
use Rattle.std.specs.Prelude.{ℕ, ◌+◌, false, List, [], ◌∷◌, ◌++◌, codes, decimal, length, Option, Some, None}
use Rattle.std.specs.Fmt.{digits}
use Rattle.std.specs.List.{sum}
use Rattle.hex.specs.Hex.{encode_lower}
use Rattle.sh_types.specs.declared.code.Image.{Image}
use Rattle.sh_types.specs.declared.code.Pair.{Pair}
use Rattle.sh_types.specs.declared.runs.End.{End}
use Rattle.sh_types.specs.declared.runs.End.TheVariants.{Exit, Trapped, Leak}
use Rattle.sh_types.specs.declared.runs.Event.{Event}
use Rattle.sh_types.specs.declared.runs.Event.TheVariants.{Run, Migrate, Publish, Erase}
use Rattle.sh_types.specs.declared.runs.Trap.{Trap}
use Rattle.sh_types.specs.declared.runs.Trap.TheVariants.{Illegal, Breakpoint, FellOff, Misaligned, Load, Store, BadJump}
use Rattle.sh_types.specs.Image.{sizes_of}
use Rattle.sh_machines.specs.Shuffled.{Shuffled}
use Rattle.layout_maker.specs.Cell.{cell_of}

-- pieces of text, one behind the other
abbrev pub text : List (List ℕ) → List ℕ
text [] = []
text (a ∷ []) = a
text (a ∷ b ∷ cs) = a ++ text (b ∷ cs)

-- ---- the head

-- the version of the format, the seed in lower-case hexadecimal digits, and the period
unfoldable pub run_lines : List ℕ → ℕ → List ℕ
run_lines seed period = text (codes "shuffler 1\nseed " ∷ encode_lower seed ∷ codes "\nperiod " ∷ decimal period ∷ codes "\n" ∷ [])

-- how many functions the image has, how many of them data refers to, and the bytes of code
unfoldable pub image_line : (functions rows code : ℕ) → List ℕ
image_line functions rows code =
    text (codes "image functions " ∷ decimal functions ∷ codes " rows " ∷ decimal rows ∷ codes " code " ∷ decimal code ∷ codes "\n" ∷ [])

-- the line of an image; the code is the sum of the functions' sizes
abbrev pub line_of : Image → List ℕ
line_of image = image_line (length image.functions) (length image.rows) (sum (sizes_of image))

-- ---- the events

-- layout k came after so many instructions, in this cell
unfoldable pub layout_line : (k count cell : ℕ) → List ℕ
layout_line k count cell = text (codes "layout " ∷ decimal k ∷ codes " at " ∷ decimal count ∷ codes " cell " ∷ decimal cell ∷ codes "\n" ∷ [])

-- layout k was erased after so many instructions
unfoldable pub erase_line : (k count : ℕ) → List ℕ
erase_line k count = text (codes "erase " ∷ decimal k ∷ codes " at " ∷ decimal count ∷ codes "\n" ∷ [])

-- what an event writes after so many instructions: runs and migrations nothing
abbrev pub event_text : List ℕ → ℕ → Event → List ℕ
event_text seed count (Run hart n) = []
event_text seed count (Migrate hart) = []
event_text seed count (Publish k) = layout_line k count (cell_of seed k)
event_text seed count (Erase k) = erase_line k count

-- the instructions executed up to the end of an event
abbrev pub counted : ℕ → Event → ℕ
counted count (Run hart n) = count + n
counted count (Migrate hart) = count
counted count (Publish k) = count
counted count (Erase k) = count

-- the instructions executed up to the end of events
abbrev pub count_after : ℕ → List Event → ℕ
count_after count [] = count
count_after count (e ∷ es) = count_after (counted count e) es

-- what events write, each with the instructions executed before it
abbrev pub events_text : List ℕ → ℕ → List Event → List ℕ
events_text seed count [] = []
events_text seed count (e ∷ es) = event_text seed count e ++ events_text seed (counted count e) es

-- ---- the tail

-- how many harts were ever started, and how many instructions were executed
unfoldable pub count_lines : (harts count : ℕ) → List ℕ
count_lines harts count = text (codes "harts " ∷ decimal harts ∷ codes "\ninstructions " ∷ decimal count ∷ codes "\n" ∷ [])

abbrev pub trap_word : Trap → List ℕ
trap_word Illegal = codes "Illegal"
trap_word Breakpoint = codes "Breakpoint"
trap_word FellOff = codes "FellOff"
trap_word Misaligned = codes "Misaligned"
trap_word Load = codes "Load"
trap_word Store = codes "Store"
trap_word BadJump = codes "BadJump"

-- a pair: the function's number, and the offset in bytes
unfoldable pub pair_text : Pair → List ℕ
pair_text p = text (codes "f" ∷ decimal p.func ∷ codes "+" ∷ decimal p.off ∷ [])

-- how the run ended, if it has; a trap's value in lower-case hexadecimal digits without leading zeros
unfoldable pub end_line : Option End → List ℕ
end_line None = codes "end limit\n"
end_line (Some (Exit code)) = text (codes "end exit " ∷ decimal code ∷ codes "\n" ∷ [])
end_line (Some (Trapped kind hart p value)) =
    text (codes "end trap " ∷ trap_word kind ∷ codes " hart " ∷ decimal hart ∷ codes " " ∷ pair_text p ∷ codes " value 0x" ∷ digits 16 false value ∷ codes "\n" ∷ [])
end_line (Some (Leak hart p)) = text (codes "end leak hart " ∷ decimal hart ∷ codes " " ∷ pair_text p ∷ codes "\n" ∷ [])

-- the lines on the state in which the events left the run
abbrev pub tail_text : Shuffled → List ℕ
tail_text s = count_lines (length s.harts) s.count ++ end_line s.end
