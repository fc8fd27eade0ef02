-- SPDX-License-Identifier: Apache-2.0
use Rattle.std.proofs.Common.{◌≡◌, ◌++◌, drop}
use Rattle.image_rules.specs.Bound.{tokens_of}
use Rattle.image_binding.proofs.binding.tokens.Given as goal

abbrev pub invariant-loop-reloc : goal.invariant-loop-reloc
invariant-loop-reloc l =
    l.found.items ++ tokens_of l.binding.functions l.binding.labels (drop l.reloc-index l.binding.relocs) ≡ tokens_of l.binding.functions l.binding.labels l.binding.relocs
