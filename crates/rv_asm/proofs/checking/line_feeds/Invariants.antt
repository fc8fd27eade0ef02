-- SPDX-License-Identifier: Apache-2.0
use Rattle.std.proofs.Common.{◌≡◌, ◌≤◌, ℕ, take}
use Rattle.std.specs.Prelude.{◌==◌, count_by}
use Rattle.rv_asm.proofs.checking.line_feeds.Given as goal

abbrev pub invariant-loop-c : goal.invariant-loop-c
invariant-loop-c l = record { value : l.count ≡ count_by (λ (c : ℕ). c == 10) (take l.c-index l.text); small : l.count ≤ l.c-index }
