-- SPDX-License-Identifier: Apache-2.0
-- The 64-bit draws of a generator of 32-bit words, the low word first (ChaCha with 20 rounds, that is 10
-- double rounds, a 64-bit counter and a 64-bit stream number: D. J. Bernstein, "ChaCha, a variant of Salsa20").
use Rattle.std.specs.Prelude.{ℕ, ◌+◌, ◌-◌, ◌*◌, ◌^◌, List}
use Rattle.rand_chacha.specs.ChaCha.{ChaCha, word_at, key_of}

-- a generator after n draws
abbrev pub skip : ℕ → ChaCha → ChaCha
skip n g = record g { word_pos = g.word_pos + 2 * n }

-- the draws of a generator, counted from 0
unfoldable pub draws_of : ChaCha → ℕ → ℕ
draws_of g i = word_at 10 g.key g.stream (g.word_pos + 2 * i) + word_at 10 g.key g.stream (g.word_pos + 2 * i + 1) * 2 ^ 32

-- the draws from the one numbered n on
abbrev pub from_draw : ℕ → (ℕ → ℕ) → ℕ → ℕ
from_draw n d i = d (n + i)

-- the generator of the layout numbered k: the seed is the key, and the streams are numbered from 0
unfoldable pub generator_of : List ℕ → ℕ → ChaCha
generator_of seed k = record { key = key_of seed; stream = k - 1; word_pos = 0 }
