-- SPDX-License-Identifier: Apache-2.0
use Rattle.std.proofs.Common.{◌/◌, true}
use Rattle.sh_machines.specs.Memory.{first_word}
use Rattle.plain_memory.specs.Laid.{allows}
use Rattle.plain_memory.specs.Plain.{regions_of, saved_at}
use Rattle.plain_memory.proofs.Accesses.{load_says, plain_saved}
use Rattle.plain_memory.proofs.memory.PlainMemory.save_at.Goals as goal

pub invariant_of-self-2 : goal.invariant_of-self-2
invariant_of-self-2 c =
    let says = load_says (allows true (regions_of c.args.self.now)) c.args.address 8 c.in_ok-read.field-0 (first_word c.args.self.now.areas (c.args.address / 8)) (saved_at c.args.self.now.returns (c.args.address / 8)) c.in_ok-read.ensures in
    plain_saved c.self.inside.areas c.store.new.self c.self.inside.returns c.put.new.self c.args.address (record { hart = c.args.hart; to = c.args.to }) c.laid.ensures says.aligned c.self.invariant c.store.ensures c.in_ok-put.ensures.ok
