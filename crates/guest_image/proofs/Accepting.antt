-- SPDX-License-Identifier: Apache-2.0
-- What an accepted file says of its first refusals.
use Rattle.std.proofs.Common.{◌≡◌, Option, Some, None, refl}
use Rattle.elf_rules.specs.declared.refusals.LoadFault.{LoadFault}
use Rattle.elf_rules.specs.Bindable.{or_later}

pub first_none : (first later : Option LoadFault) → or_later first later ≡ None → first ≡ None
first_none None later e = refl
first_none (Some fault) later e = absurd (cc)
