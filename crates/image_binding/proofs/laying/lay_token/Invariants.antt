-- SPDX-License-Identifier: Apache-2.0
use Rattle.image_binding.proofs.Laid.{IsUpTo}
use Rattle.image_binding.proofs.laying.lay_token.Given as goal

abbrev pub invariant-loop-i : goal.invariant-loop-i
invariant-loop-i l = IsUpTo l.token l.from l.i l.initial.bytes l.bytes
