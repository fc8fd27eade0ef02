-- SPDX-License-Identifier: Apache-2.0
use Rattle.std.proofs.Common.{◌≡◌, ◌++◌, drop}
use Rattle.elf_write.specs.Written.{code}
use Rattle.elf_write.proofs.code.put_code.Given as goal

abbrev pub invariant-loop-function : goal.invariant-loop-function
invariant-loop-function l = l.file.items ++ code (drop l.function-index l.words) ≡ l.fn.file.items ++ code l.words
