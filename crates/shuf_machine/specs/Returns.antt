-- SPDX-License-Identifier: Apache-2.0
-- The return words of a hart. This project's own.
use Rattle.std.specs.Prelude.{ℕ, ◌*◌, Option, Some, None, List, map}
use Rattle.sh_types.specs.declared.code.CodeRef.{CodeRef}
use Rattle.sh_types.specs.declared.code.CodeRef.TheVariants.{Root, At}
use Rattle.sh_types.specs.declared.code.Pair.{Pair}
use Rattle.sh_types.specs.declared.layouts.Layout.{Layout}
use Rattle.sh_types.specs.Place.{whose_of}
use Rattle.sh_machines.specs.Cipher.{unseal}
use Rattle.sh_machines.specs.Shuffled.{Setting, Owned, key_of, Shuffled}
use Rattle.sh_machines.specs.StandsFor.{layouts_of}
use Rattle.hart_unwinder.specs.Words.{owned_words}
use Rattle.shuf_machine.specs.declared.answers.ReturnWord.{ReturnWord}

-- a pair, or the end of the hart where there is none
abbrev pub at_or_root : Option Pair → CodeRef
at_or_root None = Root
at_or_root (Some p) = At p

-- what a sealed word of a hart on a layout opens to, as the word with this number
abbrev pub opened : Layout → ℕ → ℕ → ℕ → CodeRef
opened l n w v = at_or_root (whose_of l (unseal (key_of l n) (8 * w) v))

-- a word of a hart on a layout: its address, what it holds, and what that opens to
abbrev pub return_word : Layout → ℕ → (ℕ → Owned) → ℕ → ReturnWord
return_word l n m w = record { address = 8 * w; word = (m w).value; at = opened l n w (m w).value }

-- those of the words that a hart owns, in rising order
abbrev pub words_on : Layout → ℕ → (ℕ → Owned) → List ReturnWord
words_on l n m = map (return_word l n m) (owned_words m n)

-- the return words of a hart in a state, on the layout that the hart is on
abbrev pub return_words : Setting → Shuffled → ℕ → List ReturnWord
return_words o s n = words_on (layouts_of o s.harts n) n s.words
