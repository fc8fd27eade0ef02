-- SPDX-License-Identifier: Apache-2.0
use Rattle.std.proofs.Common.{◌≡◌, ◌+◌, ◌*◌, ◌++◌, drop}
use Rattle.fn_sites.specs.Targets.{targets_from}
use Rattle.fn_sites.proofs.targets.all_targets.Given as goal

abbrev pub invariant-loop-word : goal.invariant-loop-word
invariant-loop-word l = record { read : l.found.items ++ targets_from l.address (drop l.word-index l.words) ≡ targets_from l.home l.words; address : l.address ≡ l.home + 4 * l.word-index }
