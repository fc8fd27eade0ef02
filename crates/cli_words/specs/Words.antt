-- SPDX-License-Identifier: Apache-2.0
-- The words of a command line, and the command that they are.
use Rattle.std.specs.Prelude.{ℕ, ◌&&◌, List, [], ◌∷◌, codes, Option, Some, None, option_map, option_and_then, if◌then◌else◌}
use Rattle.cli_words.specs.declared.options.Allowed.{Allowed}
use Rattle.cli_words.specs.declared.options.Opts.{Opts}
use Rattle.cli_words.specs.declared.words.Command.{Command}
use Rattle.cli_words.specs.declared.words.Command.TheVariants.{Run, Plain, Check, Asm, Demo, Help}
use Rattle.cli_words.specs.Limits.{least_guest, most_guest}
use Rattle.cli_words.specs.Numbers.{number_in}
use Rattle.cli_words.specs.Options.{opening, options_of, run_allowed, plain_allowed}
use Rattle.cli_words.specs.Texts.{same, is_file_word}

-- FILE and options behind it
abbrev pub file_with : Allowed → List (List ℕ) → Option (List ℕ × Opts)
file_with allowed [] = None
file_with allowed (file ∷ words) = if is_file_word file then option_map (λ opts. (file, opts)) (options_of (opening allowed) words) else None

-- a run in one thread, which its options say
abbrev pub serial_run : List ℕ × Opts → Option Command
serial_run x = if x.1.serial then Some (Run x.0 x.1) else None

-- `run FILE` and its options
abbrev pub run_of : List (List ℕ) → Option Command
run_of words = option_and_then serial_run (file_with run_allowed words)

-- `plain FILE` and its options
abbrev pub plain_of : List (List ℕ) → Option Command
plain_of words = option_map (λ x. Plain x.0 x.1) (file_with plain_allowed words)

-- `check FILE`
abbrev pub check_of : List (List ℕ) → Option Command
check_of (file ∷ []) = if is_file_word file then Some (Check file) else None
check_of _ = None

-- `asm SRC OUT`
abbrev pub asm_of : List (List ℕ) → Option Command
asm_of (source ∷ target ∷ []) = if is_file_word source && is_file_word target then Some (Asm source target) else None
asm_of _ = None

-- `demo N`
abbrev pub demo_of : List (List ℕ) → Option Command
demo_of (word ∷ []) = option_map Demo (number_in least_guest most_guest word)
demo_of _ = None

-- `help`
abbrev pub help_of : List (List ℕ) → Option Command
help_of [] = Some Help
help_of _ = None

-- the command of a verb and the words behind it
abbrev pub verb_of : (verb : List ℕ) → List (List ℕ) → Option Command
verb_of verb words =
    if same verb (codes "run") then run_of words
    else (if same verb (codes "plain") then plain_of words
    else (if same verb (codes "check") then check_of words
    else (if same verb (codes "asm") then asm_of words
    else (if same verb (codes "demo") then demo_of words
    else (if same verb (codes "help") then help_of words else None)))))

-- the command, or none where the words are none
abbrev pub command_of : List (List ℕ) → Option Command
command_of [] = None
command_of (verb ∷ words) = verb_of verb words
