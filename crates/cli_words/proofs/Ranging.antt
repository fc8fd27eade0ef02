-- SPDX-License-Identifier: Apache-2.0
-- The numbers of the options that are read are in their ranges.
use Rattle.std.proofs.Common.{◌≡◌, ◌≤◌, ℕ, List, [], ◌∷◌, Bool, true, false, refl, subst, arith}
use Rattle.std.specs.Prelude.{◌&&◌, codes, nat_le, Option, Some, None, option_map, if◌then◌else◌}
use Rattle.std.proofs.lemmas.Bool.{and_parts, leb-true}
use Rattle.std.proofs.lemmas.Option.{cond_some, none-some, option_and_then_some, same_Some}
use Rattle.cli_words.specs.declared.options.Allowed.{Allowed}
use Rattle.cli_words.specs.declared.options.Opts.{Opts}
use Rattle.cli_words.specs.declared.options.Valued.{Valued}
use Rattle.cli_words.specs.declared.options.Valued.TheVariants.{Seed, Period, Quantum, Steps, Input, Report}
use Rattle.cli_words.specs.declared.words.Command.{Command}
use Rattle.cli_words.specs.declared.words.Command.TheVariants.{Run, Plain, Check, Asm, Demo, Help}
use Rattle.cli_words.specs.Limits.{least_guest, most_guest, least_period, most_period, least_quantum, most_quantum, least_steps, most_steps}
use Rattle.cli_words.specs.Numbers.{is_decimal, decimal_value, number_in, seed_of}
use Rattle.cli_words.specs.Options.{Reading, opening, default_opts, run_allowed, plain_allowed, valued_named, behind, form_of, with_value, serial_read, valued_read, word_read, whole, options_of}
use Rattle.cli_words.specs.Ranges.{IsInRange, HasRanges}
use Rattle.cli_words.specs.Texts.{same, is_file_word}
use Rattle.cli_words.specs.Words.{file_with, serial_run, run_of, plain_of, check_of, asm_of, demo_of, help_of, command_of}

mapped : {A B P : Type 0} (f : A → B) (o : Option A) (y : B) → option_map f o ≡ Some y → ((x : A) → o ≡ Some x → f x ≡ y → P) → P
mapped f None y is goes = absurd (none-some y is)
mapped f (Some x) y is goes = goes x refl (same_Some (f x) y is)

under : {A : Type 0} (t : Bool) (o : Option A) (y : A) → (if t then o else None) ≡ Some y → o ≡ Some y
under true o y is = is
under false o y is = absurd (none-some y is)

number_ranged : (least most : ℕ) (word : List ℕ) (n : ℕ) → number_in least most word ≡ Some n → (least ≤ n) × (n ≤ most)
number_ranged least most word n is =
    let v : ℕ = decimal_value word in
    let found = cond_some (is_decimal word && nat_le least v && nat_le v most) v n is in
    let outer = and_parts (is_decimal word && nat_le least v) (nat_le v most) found.0 in
    let inner = and_parts (is_decimal word) (nat_le least v) outer.0 in
    (subst (λ k. least ≤ k) found.1 (leb-true least v inner.1), subst (λ k. k ≤ most) found.1 (leb-true v most outer.1))

-- options with the same numbers
alike : (opts next : Opts) → IsInRange opts → next.period ≡ opts.period → next.quantum ≡ opts.quantum → next.steps ≡ opts.steps → IsInRange next
alike opts next ranged period quantum steps = record {
  some_period = omega (arith, ranged.some_period, period);
  low_period = omega (arith, ranged.low_period, period);
  some_quantum = omega (arith, ranged.some_quantum, quantum);
  low_quantum = omega (arith, ranged.low_quantum, quantum);
  low_steps = omega (arith, ranged.low_steps, steps);
}

value_ranged : (opts : Opts) (option : Valued) (word : List ℕ) (next : Opts) → IsInRange opts → with_value opts option word ≡ Some next → IsInRange next
value_ranged opts Seed word next ranged is =
    mapped (λ seed. record opts { seed = Some seed }) (seed_of word) next is (λ seed read e. subst IsInRange e (alike opts (record opts { seed = Some seed }) ranged refl refl refl))
value_ranged opts Period word next ranged is =
    mapped (λ n. record opts { period = n }) (number_in least_period most_period word) next is (λ n read e.
    let range = number_ranged least_period most_period word n read in
    subst IsInRange e (record {
      some_period = range.0;
      low_period = range.1;
      some_quantum = ranged.some_quantum;
      low_quantum = ranged.low_quantum;
      low_steps = ranged.low_steps;
    }))
value_ranged opts Quantum word next ranged is =
    mapped (λ n. record opts { quantum = n }) (number_in least_quantum most_quantum word) next is (λ n read e.
    let range = number_ranged least_quantum most_quantum word n read in
    subst IsInRange e (record {
      some_period = ranged.some_period;
      low_period = ranged.low_period;
      some_quantum = range.0;
      low_quantum = range.1;
      low_steps = ranged.low_steps;
    }))
value_ranged opts Steps word next ranged is =
    mapped (λ n. record opts { steps = n }) (number_in least_steps most_steps word) next is (λ n read e.
    let range = number_ranged least_steps most_steps word n read in
    subst IsInRange e (record {
      some_period = ranged.some_period;
      low_period = ranged.low_period;
      some_quantum = ranged.some_quantum;
      low_quantum = ranged.low_quantum;
      low_steps = range.1;
    }))
value_ranged opts Input word next ranged is =
    let found = cond_some (is_file_word word) (record opts { input = Some word }) next is in
    subst IsInRange found.1 (alike opts (record opts { input = Some word }) ranged refl refl refl)
value_ranged opts Report word next ranged is =
    mapped (λ full. record opts { full = full }) (form_of word) next is (λ full read e. subst IsInRange e (alike opts (record opts { full = full }) ranged refl refl refl))

serial_ranged : (r s : Reading) → IsInRange r.opts → serial_read r ≡ Some s → IsInRange s.opts
serial_ranged r s ranged is =
    let next : Reading = record r { allowed = record r.allowed { serial = false }; opts = record r.opts { serial = true } } in
    let found = cond_some r.allowed.serial next s is in
    subst (λ (x : Reading). IsInRange x.opts) found.1 (alike r.opts next.opts ranged refl refl refl)

valued_ranged : (r s : Reading) (option : Option Valued) → IsInRange r.opts → valued_read r option ≡ Some s → IsInRange s.opts
valued_ranged r s None ranged is = absurd (none-some s is)
valued_ranged r s (Some option) ranged is =
    mapped (λ allowed. record r { allowed = allowed; awaited = Some option }) (behind r.allowed option) s is (λ allowed read e. subst (λ (x : Reading). IsInRange x.opts) e ranged)

name_ranged : (r s : Reading) (t : Bool) (option : Option Valued) → IsInRange r.opts → (if t then serial_read r else valued_read r option) ≡ Some s → IsInRange s.opts
name_ranged r s true option ranged is = serial_ranged r s ranged is
name_ranged r s false option ranged is = valued_ranged r s option ranged is

word_ranged : (r : Reading) (awaited : Option Valued) (word : List ℕ) (s : Reading) → IsInRange r.opts → word_read r awaited word ≡ Some s → IsInRange s.opts
word_ranged r None word s ranged is = name_ranged r s (same word (codes "--serial")) (valued_named word) ranged is
word_ranged r (Some option) word s ranged is =
    mapped (λ opts. record r { awaited = None; opts = opts }) (with_value r.opts option word) s is (λ opts read e.
    subst (λ (x : Reading). IsInRange x.opts) e (value_ranged r.opts option word opts ranged read))

whole_ranged : (awaited : Option Valued) (opts read : Opts) → IsInRange opts → whole awaited opts ≡ Some read → IsInRange read
whole_ranged None opts read ranged is = subst IsInRange (same_Some opts read is) ranged
whole_ranged (Some option) opts read ranged is = absurd (none-some read is)

options_ranged : (r : Reading) (words : List (List ℕ)) (opts : Opts) → IsInRange r.opts → options_of r words ≡ Some opts → IsInRange opts
unfolding options_of
options_ranged r [] opts ranged is = whole_ranged r.awaited r.opts opts ranged is
options_ranged r (word ∷ words) opts ranged is =
    option_and_then_some (λ s. options_of s words) (word_read r r.awaited word) opts is
    (λ s read rest. options_ranged s words opts (word_ranged r r.awaited word s ranged read) rest)

default_ranged : IsInRange default_opts
default_ranged = record {
  some_period = omega arith;
  low_period = omega arith;
  some_quantum = omega arith;
  low_quantum = omega arith;
  low_steps = omega arith;
}

file_ranged : (allowed : Allowed) (words : List (List ℕ)) (x : List ℕ × Opts) → file_with allowed words ≡ Some x → IsInRange x.1
file_ranged allowed [] x is = absurd (none-some x is)
file_ranged allowed (file ∷ words) x is =
    mapped (λ opts. (file, opts)) (options_of (opening allowed) words) x (under (is_file_word file) (option_map (λ opts. (file, opts)) (options_of (opening allowed) words)) x is)
    (λ opts read e. subst (λ (y : List ℕ × Opts). IsInRange y.1) e (options_ranged (opening allowed) words opts default_ranged read))

run_ranged : (words : List (List ℕ)) (command : Command) → run_of words ≡ Some command → HasRanges command
run_ranged words command is =
    option_and_then_some serial_run (file_with run_allowed words) command is (λ x read made.
    subst HasRanges (cond_some x.1.serial (Run x.0 x.1) command made).1 (file_ranged run_allowed words x read))

plain_ranged : (words : List (List ℕ)) (command : Command) → plain_of words ≡ Some command → HasRanges command
plain_ranged words command is = mapped (λ x. Plain x.0 x.1) (file_with plain_allowed words) command is (λ x read e. subst HasRanges e (file_ranged plain_allowed words x read))

check_ranged : (words : List (List ℕ)) (command : Command) → check_of words ≡ Some command → HasRanges command
check_ranged [] command is = absurd (none-some command is)
check_ranged (file ∷ []) command is = subst HasRanges (cond_some (is_file_word file) (Check file) command is).1 tt
check_ranged (file ∷ more ∷ words) command is = absurd (none-some command is)

asm_ranged : (words : List (List ℕ)) (command : Command) → asm_of words ≡ Some command → HasRanges command
asm_ranged [] command is = absurd (none-some command is)
asm_ranged (source ∷ []) command is = absurd (none-some command is)
asm_ranged (source ∷ target ∷ []) command is = subst HasRanges (cond_some (is_file_word source && is_file_word target) (Asm source target) command is).1 tt
asm_ranged (source ∷ target ∷ more ∷ words) command is = absurd (none-some command is)

demo_ranged : (words : List (List ℕ)) (command : Command) → demo_of words ≡ Some command → HasRanges command
demo_ranged [] command is = absurd (none-some command is)
demo_ranged (word ∷ []) command is = mapped Demo (number_in least_guest most_guest word) command is (λ n read e. subst HasRanges e (number_ranged least_guest most_guest word n read))
demo_ranged (word ∷ more ∷ words) command is = absurd (none-some command is)

help_ranged : (words : List (List ℕ)) (command : Command) → help_of words ≡ Some command → HasRanges command
help_ranged [] command is = subst HasRanges (same_Some Help command is) tt
help_ranged (word ∷ words) command is = absurd (none-some command is)

verb_ranged : (words : List (List ℕ)) (command : Command) (run plain check asm demo help : Bool)
    → (if run then run_of words else (if plain then plain_of words else (if check then check_of words else (if asm then asm_of words else (if demo then demo_of words else (if help then help_of words else None)))))) ≡ Some command
    → HasRanges command
verb_ranged words command true plain check asm demo help is = run_ranged words command is
verb_ranged words command false true check asm demo help is = plain_ranged words command is
verb_ranged words command false false true asm demo help is = check_ranged words command is
verb_ranged words command false false false true demo help is = asm_ranged words command is
verb_ranged words command false false false false true help is = demo_ranged words command is
verb_ranged words command false false false false false true is = help_ranged words command is
verb_ranged words command false false false false false false is = absurd (none-some command is)

pub command_ranged : (words : List (List ℕ)) (command : Command) → command_of words ≡ Some command → HasRanges command
command_ranged [] command is = absurd (none-some command is)
command_ranged (verb ∷ words) command is = verb_ranged words command (same verb (codes "run")) (same verb (codes "plain")) (same verb (codes "check")) (same verb (codes "asm")) (same verb (codes "demo")) (same verb (codes "help")) is
