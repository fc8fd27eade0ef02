-- SPDX-License-Identifier: Apache-2.0
-- The bytes so far are what the source gave, and no more than may be read.
use Rattle.std.proofs.Common.{◌≤◌, ◌+◌, length}
use Rattle.std.specs.Io.KnownBytes.{Consumes}
use Rattle.sh_base.proofs.real_files.read_front.Given as goal

abbrev pub invariant-loop : goal.invariant-loop
invariant-loop g l = (length l.bytes ≤ l.limit + 1) × Consumes (g.S.Read.remaining l.initial.source) (g.S.Read.remaining l.source) l.bytes
