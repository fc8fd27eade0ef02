-- SPDX-License-Identifier: Apache-2.0
-- The options behind a verb's plain words, in any order: each at most once, and its value as the next word.
use Rattle.std.specs.Prelude.{ℕ, Bool, true, false, List, [], ◌∷◌, codes, Option, Some, None, option_map, option_and_then, if◌then◌else◌}
use Rattle.std.specs.Bool.{then_some}
use Rattle.cli_words.specs.declared.options.Allowed.{Allowed}
use Rattle.cli_words.specs.declared.options.Opts.{Opts}
use Rattle.cli_words.specs.declared.options.Valued.{Valued}
use Rattle.cli_words.specs.declared.options.Valued.TheVariants.{Seed, Period, Quantum, Steps, Input, Report}
use Rattle.cli_words.specs.Limits.{least_period, most_period, default_period, least_quantum, most_quantum, default_quantum, least_steps, most_steps, default_steps, default_workers}
use Rattle.cli_words.specs.Numbers.{number_in, seed_of}
use Rattle.cli_words.specs.Texts.{same, is_file_word}

-- the options where the words give none
abbrev pub default_opts : Opts
default_opts = record { seed = None; period = default_period; quantum = default_quantum; steps = default_steps; workers = default_workers; serial = false; input = None; full = false }

-- the options of a run
abbrev pub run_allowed : Allowed
run_allowed = record { serial = true; seed = true; period = true; quantum = true; steps = true; input = true; report = true }

-- those of a run that is never moved
abbrev pub plain_allowed : Allowed
plain_allowed = record { serial = false; seed = false; period = false; quantum = true; steps = true; input = true; report = false }

-- the option that has a value and this name
abbrev pub valued_named : List ℕ → Option Valued
valued_named name =
    if same name (codes "--seed") then Some Seed
    else (if same name (codes "--period") then Some Period
    else (if same name (codes "--quantum") then Some Quantum
    else (if same name (codes "--steps") then Some Steps
    else (if same name (codes "--input") then Some Input
    else (if same name (codes "--report") then Some Report else None)))))

-- what may come behind this option; none where it may not come
abbrev pub behind : Allowed → Valued → Option Allowed
behind allowed Seed = then_some allowed.seed (record allowed { seed = false })
behind allowed Period = then_some allowed.period (record allowed { period = false })
behind allowed Quantum = then_some allowed.quantum (record allowed { quantum = false })
behind allowed Steps = then_some allowed.steps (record allowed { steps = false })
behind allowed Input = then_some allowed.input (record allowed { input = false })
behind allowed Report = then_some allowed.report (record allowed { report = false })

-- whether a report of this form is the full one; none where no form has the name
abbrev pub form_of : List ℕ → Option Bool
form_of word = if same word (codes "short") then Some false else (if same word (codes "full") then Some true else None)

-- the options with the word as the value of this one; none where it is no such value
abbrev pub with_value : Opts → Valued → List ℕ → Option Opts
with_value opts Seed word = option_map (λ seed. record opts { seed = Some seed }) (seed_of word)
with_value opts Period word = option_map (λ n. record opts { period = n }) (number_in least_period most_period word)
with_value opts Quantum word = option_map (λ n. record opts { quantum = n }) (number_in least_quantum most_quantum word)
with_value opts Steps word = option_map (λ n. record opts { steps = n }) (number_in least_steps most_steps word)
with_value opts Input word = if is_file_word word then Some (record opts { input = Some word }) else None
with_value opts Report word = option_map (λ full. record opts { full = full }) (form_of word)

-- what was read: the options that may still come, the one whose value is the next word, and those that came
pub record Reading : Type 0 where
  pub allowed : Allowed
  pub awaited : Option Valued
  pub opts : Opts

-- nothing was read
abbrev pub opening : Allowed → Reading
opening allowed = record { allowed = allowed; awaited = None; opts = default_opts }

-- `--serial`, which has no value
abbrev pub serial_read : Reading → Option Reading
serial_read r = if r.allowed.serial then Some (record r { allowed = record r.allowed { serial = false }; opts = record r.opts { serial = true } }) else None

-- the name of an option that has a value
abbrev pub valued_read : Reading → Option Valued → Option Reading
valued_read r None = None
valued_read r (Some option) = option_map (λ allowed. record r { allowed = allowed; awaited = Some option }) (behind r.allowed option)

-- the name of an option
abbrev pub name_read : Reading → List ℕ → Option Reading
name_read r word = if same word (codes "--serial") then serial_read r else valued_read r (valued_named word)

-- a word is the value that is awaited, or else the name of an option
abbrev pub word_read : Reading → Option Valued → List ℕ → Option Reading
word_read r None word = name_read r word
word_read r (Some option) word = option_map (λ opts. record r { awaited = None; opts = opts }) (with_value r.opts option word)

-- the options that were read, where no value is awaited
abbrev pub whole : Option Valued → Opts → Option Opts
whole None opts = Some opts
whole (Some option) opts = None

-- the options with those of the words; none where these are no options that may come
unfoldable pub options_of : Reading → List (List ℕ) → Option Opts
options_of r [] = whole r.awaited r.opts
options_of r (word ∷ words) = option_and_then (λ s. options_of s words) (word_read r r.awaited word)
