-- SPDX-License-Identifier: Apache-2.0
-- The refusals of a file in parts. This project's own.
use Rattle.std.specs.Prelude.{◌≡◌, ◌≤◌, ℕ, List, length, Option, None}
use Rattle.sh_types.specs.declared.code.Function.{Function}
use Rattle.sh_types.specs.declared.symbols.Section.{Section}
use Rattle.sh_types.specs.declared.symbols.Symbol.{Symbol}
use Rattle.sh_types.specs.Limits.{most_code, most_functions, most_mapped}
use Rattle.elf_rules.specs.declared.refusals.ElfFault.{ElfFault}
use Rattle.elf_rules.specs.declared.refusals.ElfFault.TheVariants as elf
use Rattle.elf_rules.specs.declared.refusals.LimitKind.TheVariants as kind
use Rattle.elf_rules.specs.declared.refusals.LoadFault.{LoadFault}
use Rattle.elf_rules.specs.declared.refusals.LoadFault.TheVariants as load
use Rattle.elf_rules.specs.declared.refusals.SplitFault.{SplitFault}
use Rattle.elf_rules.specs.declared.refusals.SplitFault.TheVariants as split
use Rattle.image_binding.specs.declared.bindable.BindableFile.{BindableFile}
use Rattle.elf_rules.specs.Bindable.{above, by_split, code_by, mapped_by, mismatch_of, or_later}
use Rattle.elf_rules.specs.Elf.{entry_of, sections_of, segments_of, symbols_of}
use Rattle.elf_rules.specs.ElfRules.{IsReadFrom, first_failing, reloc_rules}
use Rattle.elf_rules.specs.Relocs.{relocs_of}
use Rattle.elf_rules.specs.Splitting.{split_refusal, functions_of}

-- ---- faults of the layers below

abbrev pub elf_fault : ElfFault → LoadFault
elf_fault elf.NoMemory = load.NoMemory
elf_fault (elf.Rule rule) = load.Elf rule

abbrev pub split_fault : SplitFault → LoadFault
split_fault split.NoMemory = load.NoMemory
split_fault (split.Rule home rule) = load.Split home rule

-- ---- the refusals from a step on

-- by the limits on functions
unfoldable pub limit_refusal : List Function → Option LoadFault
limit_refusal functions = or_later (above kind.Functions most_functions (length functions)) (above kind.Code most_code (code_by functions))

-- by splitting, and what follows it
unfoldable pub function_refusal : List Symbol → List Section → ℕ → Option LoadFault
function_refusal symbols sections entry =
    or_later (by_split (split_refusal symbols sections entry)) (limit_refusal (functions_of symbols sections entry))

-- by the limit on memory, and what follows it
unfoldable pub later_refusal : List ℕ → Option LoadFault
later_refusal b =
    or_later (above kind.Mapped most_mapped (mapped_by (segments_of b)))
    (or_later (function_refusal (symbols_of b) (sections_of b) (entry_of b)) (mismatch_of b))

-- ---- what can be bound

-- these are the functions that symbols, sections and the entry give; splitting refuses none, and they are few
pub record AreFunctions (symbols : List Symbol) (sections : List Section) (entry : ℕ) (functions : List Function) : Type 0 where
  pub split : split_refusal symbols sections entry ≡ None
  pub are : functions ≡ functions_of symbols sections entry
  pub few : length functions ≤ most_functions

-- these are the tables, the functions and the records of the file, and no rule on records fails
pub record IsBindableFile (b : List ℕ) (file : BindableFile) : Type 0 where
  pub tables : IsReadFrom file.elf b
  pub functions : AreFunctions (symbols_of b) (sections_of b) (entry_of b) file.functions
  pub relocs : file.relocs ≡ relocs_of b
  pub recorded : first_failing reloc_rules b ≡ None
