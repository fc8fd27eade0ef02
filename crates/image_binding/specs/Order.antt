-- SPDX-License-Identifier: Apache-2.0
-- Sections and segments by rising addresses, and where they start and end. This project's own.
use Rattle.std.specs.Prelude.{◌+◌, ◌<◌, ◌≤◌, ℕ, List, length, slice_index_or}
use Rattle.sh_types.specs.Limits.{image_end}
use Rattle.elf_rules.specs.declared.elf.Head.{Head}
use Rattle.elf_rules.specs.declared.elf.Segment.{Segment}

-- each section ends at or below the start of the next
abbrev pub AreApart : List Head → Type 0
AreApart codes =
    (j k : ℕ) (d : Head) → j < k → k < length codes → (slice_index_or codes j d).start + (slice_index_or codes j d).size ≤ (slice_index_or codes k d).start

-- the section starts at or behind an address
abbrev pub StartsFrom : ℕ → Head → Type 0
StartsFrom address h = address ≤ h.start

-- it ends at or below image_end
abbrev pub EndsLow : Head → Type 0
EndsLow h = h.start + h.size ≤ image_end

-- each segment ends at or below the start of the next
abbrev pub SegmentsApart : List Segment → Type 0
SegmentsApart segments =
    (j k : ℕ) (d : Segment) → j < k → k < length segments → (slice_index_or segments j d).start + (slice_index_or segments j d).size ≤ (slice_index_or segments k d).start
