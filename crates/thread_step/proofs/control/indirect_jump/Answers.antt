-- SPDX-License-Identifier: Apache-2.0
use Rattle.std.proofs.Common.{ap, rules, ◌∙◌}
use Rattle.std.specs.Prelude.{slice_index}
use Rattle.std.proofs.lemmas.Int.{to_z-of_z}
use mir.Syntax.{w64}
use mir.Val.{SFits}
use Rattle.sh_machines.specs.Tokens.{tail_way, jump_number}
use Rattle.thread_step.proofs.control.indirect_jump.Goals as goal

pub returns : goal.returns
returns c = λ regions u.
    let fits : SFits w64 c.args.imm = search rules in
    let number = c.jump_number-number.ensures ∙ ap (jump_number (slice_index c.args.thread.now.regs c.args.rs1)) (to_z-of_z w64 c.args.imm fits) in
    c.jumps_through.ensures regions u c.args.imm (tail_way c.args.code.now.rows c.args.code.now.labels c.args.thread.now.at.func) number (cc)
