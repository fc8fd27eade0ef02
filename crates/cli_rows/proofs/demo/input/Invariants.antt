-- SPDX-License-Identifier: Apache-2.0
use Rattle.std.proofs.Common.{◌≡◌}
use Rattle.cli_rows.specs.Demo.{first_bytes}
use Rattle.cli_rows.proofs.demo.input.Given as goal

abbrev pub invariant-loop-place : goal.invariant-loop-place
invariant-loop-place l = l.bytes.items ≡ first_bytes l.place
