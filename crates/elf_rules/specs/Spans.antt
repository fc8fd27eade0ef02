-- SPDX-License-Identifier: Apache-2.0
-- Spans of addresses, and whether they have bytes in common.
use Rattle.std.specs.Prelude.{ℕ, ◌+◌, ◌&&◌, ◌||◌, nat_lt, Bool, false, List, [], ◌∷◌}
use Rattle.std.specs.List.{list_any}
use Rattle.elf_rules.specs.declared.elf.Head.{Head}
use Rattle.elf_rules.specs.declared.elf.Span.{Span}

-- two spans have a byte in common
unfoldable pub share : Span → Span → Bool
share a b = nat_lt a.start (b.start + b.size) && nat_lt b.start (a.start + a.size)

-- two of a list have a byte in common
abbrev pub any_share : List Span → Bool
any_share [] = false
any_share (a ∷ spans) = list_any (share a) spans || any_share spans

abbrev pub span : ℕ → ℕ → Span
span start size = record { start = start; size = size }

-- the addresses of a section
abbrev pub head_span : Head → Span
head_span h = span h.start h.size
