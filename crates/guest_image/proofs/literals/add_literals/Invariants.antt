-- SPDX-License-Identifier: Apache-2.0
use Rattle.std.proofs.Common.{◌≡◌, ◌+◌, ◌*◌, ◌++◌, drop}
use Rattle.guest_image.specs.Literals.{literals_by}
use Rattle.guest_image.proofs.literals.add_literals.Given as goal

abbrev pub invariant-loop-at : goal.invariant-loop-at
invariant-loop-at l = record {
  added : l.literals.items ++ literals_by l.bound.image.functions l.bound.relocs l.sites l.rows l.address l.at (drop l.at l.words) ≡ l.initial.literals.items ++ literals_by l.bound.image.functions l.bound.relocs l.sites l.rows l.home 0 l.words;
  place : l.address ≡ l.home + 4 * l.at;
}
