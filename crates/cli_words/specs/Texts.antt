-- SPDX-License-Identifier: Apache-2.0
-- Words as texts, and those that can name a file.
use Rattle.std.specs.Prelude.{ℕ, ◌&&◌, Bool, not, List, map, length, codes, string_bytes, String, nat_lt, nat_eq}
use Rattle.std.specs.List.{starts_with}
use Rattle.std.specs.Cmp.Lexicographic.{pointwise}
use Rattle.std.specs.declared.alloc.Global.{Global}

-- two texts are one
abbrev pub same : List ℕ → List ℕ → Bool
same a b = pointwise nat_eq a b

abbrev pub texts : List (String Global) → List (List ℕ)
texts words = map (λ w. string_bytes w) words

-- a file word is not empty and does not begin with two dashes
abbrev pub is_file_word : List ℕ → Bool
is_file_word word = nat_lt 0 (length word) && not (starts_with nat_eq word (codes "--"))
