-- SPDX-License-Identifier: Apache-2.0
-- What functions return that read a text and may be refused memory (this project's own).
use Rattle.std.specs.Prelude.{◌≡◌, Option, Some, None, Result, Ok, Err}
use Rattle.asm_words.specs.declared.faults.Unread.{Unread}
use Rattle.asm_words.specs.declared.faults.Unread.TheVariants.{NoMemory, Form}

-- memory was refused, or the text gives nothing
abbrev pub Fails : {Y : Type 0} → Unread → Option Y → Type 0
Fails NoMemory read = Unit {0}
Fails Form read = read ≡ None

-- what was returned, seen by view, is what the text gives, unless memory was refused
abbrev pub Gives : {X Y : Type 0} → (X → Y) → Result X Unread → Option Y → Type 0
Gives view (Ok x) read = read ≡ Some (view x)
Gives view (Err e) read = Fails e read
