-- SPDX-License-Identifier: Apache-2.0
-- Starts in sections that a machine can run.
use Rattle.std.specs.Prelude.{◌≤◌}
use Rattle.sh_types.specs.Limits.{image_end}
use Rattle.elf_rules.specs.declared.starts.Start.{Start}

-- the section of a start ends at or below image_end
abbrev pub EndsLow : Start → Type 0
EndsLow f = f.high ≤ image_end
