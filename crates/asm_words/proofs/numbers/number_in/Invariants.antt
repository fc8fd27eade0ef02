-- SPDX-License-Identifier: Apache-2.0
use Rattle.std.proofs.Common.{◌≡◌, ◌≤◌, ◌^◌, drop}
use Rattle.asm_words.specs.Numbers.{digits}
use Rattle.asm_words.proofs.numbers.number_in.Given as goal

abbrev pub invariant-loop-c : goal.invariant-loop-c
invariant-loop-c l = record { read : digits l.base l.so_far (drop l.c-index l.text) ≡ digits l.base 0 l.text; small : l.so_far ≤ 2 ^ 64 }
