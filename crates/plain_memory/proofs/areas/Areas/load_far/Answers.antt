-- SPDX-License-Identifier: Apache-2.0
use Rattle.plain_memory.proofs.Words.{loaded_is}
use Rattle.plain_memory.proofs.areas.Areas.load_far.Goals as goal

pub returns : goal.returns
returns c = loaded_is c.args.self.now c.args.address c.args.width c.gather.result c.laid.ensures c.requires.width c.requires.aligned c.gather.ensures
