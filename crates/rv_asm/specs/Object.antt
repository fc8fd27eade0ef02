-- SPDX-License-Identifier: Apache-2.0
-- The object of a source: functions with their words, the data, the symbols, and the marks of what refers to what.
use Rattle.std.specs.Prelude.{◌≡◌, ℕ, suc, ◌-◌, ◌/◌, Option, Some, None, Result, Ok, Err, List, [], ◌∷◌, take, drop, map, if◌then◌else◌}
use Rattle.std.specs.Str.{bytes_eq}
use Rattle.sh_types.specs.declared.code.Function.{Function}
use Rattle.asm_text.specs.declared.faults.AsmFault.{AsmFault}
use Rattle.asm_text.specs.declared.faults.AsmFault.TheVariants as refusal
use Rattle.asm_text.specs.declared.faults.LineFault.{LineFault}
use Rattle.asm_text.specs.declared.statements.Item.{Item}
use Rattle.asm_text.specs.Source.{source_of}
use Rattle.sh_types.specs.declared.objects.Object.{Object}
use Rattle.asm_places.specs.Functions.{functions_of}
use Rattle.asm_places.specs.Symbols.{symbols_of}
use Rattle.rv_asm.specs.Data.{text_of, data_of}
use Rattle.rv_asm.specs.Passes.{entry_of}
use Rattle.rv_asm.specs.Marks.{marks_of}

-- the words of a function, out of those of the text
abbrev pub words_in : List ℕ → Function → List ℕ
words_in text f = take (f.size / 4) (drop ((f.home - 0x10000) / 4) text)

-- the number of the function of this name
unfoldable pub function_number : List ℕ → List Function → ℕ
function_number name [] = 0
function_number name (f ∷ fs) = if bytes_eq f.name name then 0 else suc (function_number name fs)

abbrev pub entry_number : Option (List ℕ) → List Function → ℕ
entry_number None functions = 0
entry_number (Some name) functions = function_number name functions

unfoldable pub object_from : List Item → Object
object_from items =
    record {
      entry = entry_number (entry_of items) (functions_of items);
      functions = functions_of items;
      words = map (words_in (text_of items)) (functions_of items);
      bytes = data_of items;
      symbols = symbols_of items;
      marks = marks_of items;
    }

-- the object of a source without a fault
abbrev pub object_of : List ℕ → Object
object_of text = object_from (source_of text).items

-- a fault is answered where there is one, else the object; memory may be refused
abbrev pub Assembles : Result Object AsmFault → Option LineFault → Object → Type 0
Assembles (Ok object) None whole = object ≡ whole
Assembles (Ok object) (Some f) whole = ⊥
Assembles (Err refusal.NoMemory) found whole = Unit {0}
Assembles (Err (refusal.Line line rule)) found whole = found ≡ Some (record { line = line; rule = rule })
