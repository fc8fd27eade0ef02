-- SPDX-License-Identifier: Apache-2.0
use Rattle.std.proofs.Common.{◌≡◌, ◌++◌, drop}
use Rattle.std.specs.Prelude.{map}
use Rattle.image_rules.specs.Bound.{bound_words}
use Rattle.image_binding.proofs.words.all_words.Given as goal

abbrev pub invariant-loop-function : goal.invariant-loop-function
invariant-loop-function l =
    l.words.items ++ map (bound_words l.bytes l.binding.functions l.binding.relocs) (drop l.function-index l.binding.functions) ≡ map (bound_words l.bytes l.binding.functions l.binding.relocs) l.binding.functions
