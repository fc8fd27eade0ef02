-- SPDX-License-Identifier: Apache-2.0
use Rattle.std.proofs.Common.{◌≡◌, ◌<◌, ◌^◌, ◌||◌, ℕ, drop}
use Rattle.sh_machines.specs.Constants.{is_label_at}
use Rattle.fn_sites.specs.Index.{is_among, label_number}
use Rattle.fn_sites.proofs.index.label_numbers.Given as goal

abbrev pub invariant-loop-label : goal.invariant-loop-label
invariant-loop-label l = (f o : ℕ) → o < 2 ^ 32 → (is_among l.found.items (label_number f o) || is_label_at (drop l.label-index l.labels) f o) ≡ is_label_at l.labels f o
