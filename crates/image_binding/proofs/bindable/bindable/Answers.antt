-- SPDX-License-Identifier: Apache-2.0
use Rattle.std.proofs.Common.{rules}
use Rattle.image_binding.proofs.Refusing.{whole_refusal}
use Rattle.image_binding.proofs.bindable.bindable.Goals as goal

pub returns-in_err-relocs : goal.returns-in_err-relocs
returns-in_err-relocs c = rw whole_refusal (search rules)

pub returns-in_err-symbols : goal.returns-in_err-symbols
returns-in_err-symbols c = rw whole_refusal (search rules)

pub returns-in_err-functions : goal.returns-in_err-functions
returns-in_err-functions c = rw whole_refusal (search rules)

pub returns : goal.returns
returns c = rw whole_refusal (search rules)

pub returns-in_err-elf : goal.returns-in_err-elf
returns-in_err-elf c = rw whole_refusal (search rules)
