-- SPDX-License-Identifier: Apache-2.0
use Rattle.std.proofs.Common.{◌≡◌, ◌++◌, drop}
use Rattle.image_rules.specs.Framed.{all_literals}
use Rattle.guest_image.specs.Literals.{framed}
use Rattle.guest_image.proofs.literals.all_literals.Given as goal

abbrev pub invariant-loop-func : goal.invariant-loop-func
invariant-loop-func l =
    l.literals.items ++ all_literals (framed l.bound.image l.frames) l.bound.relocs l.func (drop l.func l.bound.image.functions) ≡ all_literals (framed l.bound.image l.frames) l.bound.relocs 0 l.bound.image.functions
