-- SPDX-License-Identifier: Apache-2.0
use Rattle.std.proofs.Common.{arith}
use Rattle.image_binding.proofs.Laid.{up_to_end, up_to_first, up_to_next}
use Rattle.image_binding.proofs.laying.lay_token.Goals as goal

pub loop-i-init : goal.loop-i-init
loop-i-init c = up_to_first c.args.token.now c.args.from _ c.args.bytes.now c.index_of-first.ensures

pub loop-i-preserved : goal.loop-i-preserved
loop-i-preserved c = up_to_next c.args.token.now c.args.from c.loop-i.i _ c.args.bytes.now c.loop-i.bytes (omega arith) c.loop-i.invariant c.byte_with.ensures

pub returns : goal.returns
returns c = up_to_end c.args.token.now c.args.from _ c.index_of-end.result _ c.args.bytes.now c.loop-i.bytes c.saturating_add.ensures c.index_of-end.ensures c.requires.low (omega arith) c.loop-i.invariant
