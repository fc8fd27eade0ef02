-- SPDX-License-Identifier: Apache-2.0
use Rattle.std.proofs.Common.{◌-◌, drop, length}
use Rattle.image_binding.specs.Binds.{IsLaid}
use Rattle.image_binding.proofs.laying.lay_all.Given as goal

abbrev pub invariant-loop-i : goal.invariant-loop-i
invariant-loop-i l = IsLaid (drop (length l.tokens - l.i) l.tokens) l.from l.initial.bytes l.bytes
