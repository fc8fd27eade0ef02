-- SPDX-License-Identifier: Apache-2.0
-- What the options that were read say, with the input's name as the text of its word.
use Rattle.std.specs.Option.{option_copied}
use Rattle.cli_words.specs.declared.options.Options.{Options}
use Rattle.cli_words.specs.declared.options.Opts.{Opts}
use Rattle.cli_words.specs.declared.reading.Reader.{Reader}
use Rattle.cli_words.specs.Limits.{default_workers}
use Rattle.cli_words.specs.Options.{Reading}

abbrev pub told : Options → Opts
told o =
    record { seed = o.seed; period = o.period; quantum = o.quantum; steps = o.steps; workers = default_workers; serial = o.serial; input = option_copied o.input; full = o.full }

abbrev pub told_reading : Reader → Reading
told_reading r = record { allowed = r.allowed; awaited = r.awaited; opts = told r.options }
