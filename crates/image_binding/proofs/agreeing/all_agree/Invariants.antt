-- SPDX-License-Identifier: Apache-2.0
use Rattle.std.proofs.Common.{◌≡◌, drop}
use Rattle.elf_rules.specs.Bindable.{first_mismatch}
use Rattle.image_binding.proofs.agreeing.all_agree.Given as goal

abbrev pub invariant-loop-reloc : goal.invariant-loop-reloc
invariant-loop-reloc l =
    first_mismatch l.bytes l.segments l.all (drop l.reloc-index l.all) ≡ first_mismatch l.bytes l.segments l.all l.all
