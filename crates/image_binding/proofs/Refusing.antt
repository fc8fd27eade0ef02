-- SPDX-License-Identifier: Apache-2.0
-- How the refusals of one step and of the steps behind it join.
use Rattle.std.proofs.Common.{◌≡◌, ℕ, List, length, Option, Some, None, Result, refl, ap, ◌∙◌, subst}
use Rattle.sh_types.specs.declared.code.Function.{Function}
use Rattle.elf_rules.specs.declared.elf.Elf.{Elf}
use Rattle.sh_types.specs.declared.symbols.Section.{Section}
use Rattle.sh_types.specs.declared.symbols.Symbol.{Symbol}
use Rattle.elf_rules.specs.declared.refusals.LimitKind.TheVariants as kind
use Rattle.elf_rules.specs.declared.refusals.LoadFault.{LoadFault}
use Rattle.elf_rules.specs.Bindable.{Passes, above, binding_refusal, by_rule, by_split, code_by, file_functions, mapped_by, mismatch_of, or_later}
use Rattle.elf_rules.specs.Elf.{entry_of, sections_of, segments_of, symbols_of}
use Rattle.elf_rules.specs.ElfRules.{IsReadFrom, first_failing, reloc_rules, symbol_rules, table_rules}
use Rattle.elf_rules.specs.Splitting.{functions_of, split_refusal}
use Rattle.image_binding.specs.Stages.{AreFunctions, function_refusal, later_refusal, limit_refusal}

or_joined : (a b c : Option LoadFault) → or_later a (or_later b c) ≡ or_later (or_later a b) c
or_joined None b c = refl
or_joined (Some fault) b c = refl

joined : (s f c m : Option LoadFault) → or_later s (or_later f (or_later c m)) ≡ or_later (or_later s (or_later f c)) m
joined s f c m = ap (or_later s) (or_joined f c m) ∙ or_joined s (or_later f c) m

behind : (b : List ℕ) → or_later (by_split (split_refusal (symbols_of b) (sections_of b) (entry_of b))) (or_later (above kind.Functions 16384 (length (file_functions b))) (or_later (above kind.Code 524288 (code_by (file_functions b))) (mismatch_of b))) ≡ or_later (function_refusal (symbols_of b) (sections_of b) (entry_of b)) (mismatch_of b)
unfolding function_refusal limit_refusal file_functions
behind b = joined (by_split (split_refusal (symbols_of b) (sections_of b) (entry_of b))) (above kind.Functions 16384 (length (functions_of (symbols_of b) (sections_of b) (entry_of b)))) (above kind.Code 524288 (code_by (functions_of (symbols_of b) (sections_of b) (entry_of b)))) (mismatch_of b)

-- the rules on tables, symbols and records, and what follows them
pub whole_refusal : (b : List ℕ) → binding_refusal b ≡ or_later (by_rule (first_failing table_rules b)) (or_later (by_rule (first_failing symbol_rules b)) (or_later (by_rule (first_failing reloc_rules b)) (later_refusal b)))
unfolding binding_refusal later_refusal
whole_refusal b =
    ap (λ o. or_later (by_rule (first_failing table_rules b)) (or_later (by_rule (first_failing symbol_rules b)) (or_later (by_rule (first_failing reloc_rules b)) (or_later (above kind.Mapped 67108864 (mapped_by (segments_of b))) o))))
    (behind b)

-- what is refused of the functions that tables and symbols give is refused of those of the file
pub as_file : (b : List ℕ) (elf : Elf) (symbols : List Symbol) (result : Result (List Function) LoadFault) → IsReadFrom elf b → symbols ≡ symbols_of b → Passes result (function_refusal symbols elf.sections elf.entry) (AreFunctions symbols elf.sections elf.entry) → Passes result (function_refusal (symbols_of b) (sections_of b) (entry_of b)) (AreFunctions (symbols_of b) (sections_of b) (entry_of b))
as_file b elf symbols result read named h =
    subst (λ (e : ℕ). Passes result (function_refusal (symbols_of b) (sections_of b) e) (AreFunctions (symbols_of b) (sections_of b) e)) read.entry
    (subst (λ (s : List Section). Passes result (function_refusal (symbols_of b) s elf.entry) (AreFunctions (symbols_of b) s elf.entry)) read.sections
    (subst (λ (s : List Symbol). Passes result (function_refusal s elf.sections elf.entry) (AreFunctions s elf.sections elf.entry)) named h))
