-- SPDX-License-Identifier: Apache-2.0
use Rattle.std.proofs.Common.{◌≡◌, false, drop}
use Rattle.asm_words.specs.Strings.{quoted}
use Rattle.asm_words.proofs.Quoting.{behind}
use Rattle.asm_words.proofs.strings.unquoted.Given as goal

abbrev pub invariant-loop-i : goal.invariant-loop-i
invariant-loop-i l = behind l.bytes.items (quoted l.escaped (drop l.i l.text)) ≡ quoted false l.text
