-- SPDX-License-Identifier: Apache-2.0
use Rattle.std.proofs.Common.{◌≡◌, ◌++◌}
use Rattle.guest_text.specs.Guest.{each, function_text}
use Rattle.guest_text.proofs.guest.put_functions.Given as goal

abbrev pub invariant-loop-number : goal.invariant-loop-number
invariant-loop-number l = l.text ≡ l.fn.text ++ each function_text l.number
