-- SPDX-License-Identifier: Apache-2.0
-- One pass over starts in order of their homes.
use Rattle.std.specs.Prelude.{◌==◌, max, List, [], ◌∷◌, if◌then◌else◌}
use Rattle.elf_rules.specs.declared.starts.Start.{Start}

-- a start with the greater size of two
abbrev pub grown : Start → Start → Start
grown f s = record f { size = max f.size s.size }

-- f and what follows, where f may grow
abbrev pub merged : Start → List Start → List Start
merged f [] = f ∷ []
merged f (s ∷ starts) = if s.home == f.home then merged (grown f s) starts else f ∷ merged s starts

abbrev pub merged_all : List Start → List Start
merged_all [] = []
merged_all (s ∷ starts) = merged s starts
