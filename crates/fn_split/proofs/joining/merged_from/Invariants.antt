-- SPDX-License-Identifier: Apache-2.0
use Rattle.std.proofs.Common.{◌≡◌, ◌++◌, drop, All}
use Rattle.fn_split.specs.Low.{EndsLow}
use Rattle.fn_split.specs.Merge.{merged}
use Rattle.fn_split.proofs.joining.merged_from.Given as goal

abbrev pub invariant-loop-start : goal.invariant-loop-start
invariant-loop-start l = record {
  merged : l.found.items ++ merged l.current (drop l.start-index l.rest) ≡ merged l.fn.first l.rest;
  low : All EndsLow l.found.items;
  current : EndsLow l.current;
}
