-- SPDX-License-Identifier: Apache-2.0
-- What the object of a source without a fault has.
use Rattle.std.specs.Prelude.{◌≡◌, ℕ, ◌+◌, ◌-◌, ◌*◌, ◌^◌, ◌<◌, ◌≤◌, List, [], ◌∷◌, length, if◌then◌else◌}
use Rattle.std.specs.List.{All, concat}
use Rattle.sh_types.specs.declared.symbols.Symbol.{Symbol}
use Rattle.asm_text.specs.declared.statements.Item.{Item}
use Rattle.sh_types.specs.declared.objects.Object.{Object}
use Rattle.sh_types.specs.declared.objects.Mark.{Mark}
use Rattle.rv_asm.specs.Data.{text_of}

-- the bytes of the text
abbrev pub text_bytes : Object → ℕ
text_bytes object = 4 * length (concat object.words)

-- the mark lies in its part
abbrev pub IsInside : Object → Mark → Type 0
IsInside object m = m.at < (if m.in_text then text_bytes object else length object.bytes)

-- of two marks of one part the later one stands at the higher place
unfoldable pub AreRising : List Mark → Type 0
AreRising [] = Unit {0}
AreRising (m ∷ ms) = All (λ (n : Mark). m.in_text ≡ n.in_text → m.at < n.at) ms × AreRising ms

-- the bytes of the names, each with a zero byte behind it
unfoldable pub names_size : List Symbol → ℕ
names_size [] = 0
names_size (s ∷ ss) = length s.name + 1 + names_size ss

pub record IsWhole (items : List Item) (object : Object) : Type 0 where
  -- the words of the functions, one behind the other, are all words of the text
  pub words : concat object.words ≡ text_of items
  -- the text and the data have at most 64 MiB each
  pub text : text_bytes object ≤ 67108864
  pub bytes : length object.bytes ≤ 67108864
  -- the entry is a function
  pub entry : object.entry < length object.functions
  -- places in the names are numbers of four bytes
  pub names : names_size object.symbols < 2 ^ 32 - 1
  -- each mark lies in its part and has the number of a symbol, and those of one part rise
  pub inside : All (IsInside object) object.marks
  pub symbols : All (λ (m : Mark). m.symbol < length object.symbols) object.marks
  pub rising : AreRising object.marks
