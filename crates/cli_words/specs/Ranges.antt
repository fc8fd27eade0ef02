-- SPDX-License-Identifier: Apache-2.0
-- The numbers of a command are in their ranges.
use Rattle.std.specs.Prelude.{◌≤◌, ⊤}
use Rattle.cli_words.specs.declared.options.Opts.{Opts}
use Rattle.cli_words.specs.declared.words.Command.{Command}
use Rattle.cli_words.specs.declared.words.Command.TheVariants.{Run, Plain, Check, Asm, Demo, Help}
use Rattle.cli_words.specs.Limits.{least_guest, most_guest, least_period, most_period, least_quantum, most_quantum, most_steps}

pub record IsInRange (opts : Opts) : Type 0 where
  pub some_period : least_period ≤ opts.period
  pub low_period : opts.period ≤ most_period
  pub some_quantum : least_quantum ≤ opts.quantum
  pub low_quantum : opts.quantum ≤ most_quantum
  pub low_steps : opts.steps ≤ most_steps

-- those of its options are
abbrev pub HasRanges : Command → Type 0
HasRanges (Run file opts) = IsInRange opts
HasRanges (Plain file opts) = IsInRange opts
HasRanges (Check file) = ⊤
HasRanges (Asm source target) = ⊤
HasRanges (Demo number) = (least_guest ≤ number) × (number ≤ most_guest)
HasRanges Help = ⊤
