-- SPDX-License-Identifier: Apache-2.0
use Rattle.std.proofs.Common.{arith}
use Rattle.std.proofs.lemmas.Grind.{common_steps}
use Rattle.elf_symbols.proofs.Naming.{first_is}
use Rattle.elf_symbols.proofs.strings.first_zero.Goals as goal

pub returns-in-Some : goal.returns-in-Some
returns-in-Some c =
    let e = first_is c.args.zeros.now c.before-2.result c.args.place c.args.size c.before-2.ensures.below c.before-2.ensures.above in
    grind (arith, common_steps, e)

pub returns-in-None : goal.returns-in-None
returns-in-None c =
    let e = first_is c.args.zeros.now c.before-2.result c.args.place c.args.size c.before-2.ensures.below c.before-2.ensures.above in
    grind (arith, common_steps, e)
