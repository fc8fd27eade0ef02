-- SPDX-License-Identifier: Apache-2.0
-- What each command comes to: the loads that it asks for, one after the other, and what is due by what they gave.
use Rattle.std.specs.Prelude.{ℕ, List, [], ◌∷◌, length, nat_lt, if◌then◌else◌, Option, Some, None, MatchOption, ⊤}
use Rattle.sh_base.specs.Held.{FileMap, Loads}
use Rattle.sh_base.specs.Told.{FileAnswer}
use Rattle.elf_rules.specs.declared.refusals.LoadFault.{LoadFault}
use Rattle.elf_rules.specs.Bindable.{mapped_by}
use Rattle.image_rules.specs.Framed.{framed_image, refusal_of}
use Rattle.elf_rules.specs.Elf.{segments_of}
use Rattle.asm_text.specs.declared.faults.LineFault.{LineFault}
use Rattle.rv_asm.specs.Object.{object_of}
use Rattle.rv_asm.specs.Passes.{fault_of}
use Rattle.elf_write.specs.Written.{elf_file}
use Rattle.guest_text.specs.Guest.{guest_text}
use Rattle.image_text.specs.Lines.{fault_line, source_line}
use Rattle.image_text.specs.Listing.{listing_of}
use Rattle.cli_words.specs.declared.options.Opts.{Opts}
use Rattle.cli_words.specs.declared.words.Command.{Command}
use Rattle.cli_words.specs.declared.words.Command.TheVariants.{Run, Plain, Check, Asm, Demo, Help}
use Rattle.cli_words.specs.Options.{default_opts}
use Rattle.cli_words.specs.Texts.{same}
use Rattle.guest_dues.specs.declared.due.Due.{Due}
use Rattle.guest_dues.specs.declared.way.Way.{Way}
use Rattle.guest_dues.specs.declared.way.Way.TheVariants.{Moved}
use Rattle.guest_dues.specs.declared.way.Way.TheVariants as way
use Rattle.cli_rows.specs.Demo.{demo_input, demo_ran}
use Rattle.cli_rows.specs.Dues.{line_due, text_due, store_due, help_due, usage_due, unreadable_due, too_long_due}
use Rattle.cli_rows.specs.Limits.{file_limit}
use Rattle.guest_dues.specs.Guest.{guest_due}
use Rattle.guest_dues.specs.Run.{past_of}

-- a command loads a file of at most so many bytes and goes on by them, or comes to what is due
pub data Row : Type 0 where
  Load : (name : List ℕ) (limit : ℕ) → (List ℕ → Row) → Row
  Come : Due → Row

-- a file that is refused is due the line on its refusal
abbrev pub refused_due : LoadFault → Due
refused_due fault = line_due 12 (fault_line fault)

abbrev pub unless_refused : Option LoadFault → Due → Due
unless_refused None due = due
unless_refused (Some fault) due = refused_due fault

-- a row goes on only with a file that is accepted
abbrev pub goes_on : Option LoadFault → Row → Row
goes_on None row = row
goes_on (Some fault) row = Come (refused_due fault)

-- the input of a guest is what a file holds, where one is named, and else empty
abbrev pub with_input : Option (List ℕ) → (List ℕ → Due) → Row
with_input None made = Come (made [])
with_input (Some name) made = Load name file_limit (λ input. Come (made input))

-- a source that has a fault is due its line
abbrev pub unless_faulty : Option LineFault → Due → Due
unless_faulty None due = due
unless_faulty (Some fault) due = line_due 12 (source_line fault.line fault.rule)

-- the text that lists the file's image
abbrev pub check_due : List ℕ → Due
check_due file = unless_refused (refusal_of file) (text_due (listing_of (framed_image file) (mapped_by (segments_of file))))

-- the file of the source's object, stored under the target
abbrev pub asm_due : (target source : List ℕ) → Due
asm_due target source = unless_faulty (fault_of source) (store_due target (elf_file (object_of source)))

-- a generated guest's file is run by the options where the words give none
abbrev pub demo_file_due : ℕ → (file seed : List ℕ) → Due
demo_file_due number file seed = unless_refused (refusal_of file) (demo_ran number (past_of default_opts (framed_image file) file demo_input seed))

-- a generated guest is assembled and run
abbrev pub demo_due : ℕ → (seed : List ℕ) → Due
demo_due number seed = unless_faulty (fault_of (guest_text number)) (demo_file_due number (elf_file (object_of (guest_text number))) seed)

-- a guest is run, by its file and its input
abbrev pub guest_row : Way → (name : List ℕ) → Opts → Row
guest_row way name opts = Load name file_limit (λ file. goes_on (refusal_of file) (with_input opts.input (guest_due way opts file)))

abbrev pub run_row : (name : List ℕ) → Opts → (seed : List ℕ) → Row
run_row name opts seed = guest_row (Moved seed) name opts

abbrev pub plain_row : (name : List ℕ) → Opts → Row
plain_row name opts = guest_row way.Plain name opts

abbrev pub check_row : List ℕ → Row
check_row name = Load name file_limit (λ file. Come (check_due file))

abbrev pub asm_row : (source target : List ℕ) → Row
asm_row source target = Load source file_limit (λ text. Come (asm_due target text))

-- the commands, a row each
abbrev pub row_of : Option Command → (seed : List ℕ) → Row
row_of None seed = Come usage_due
row_of (Some (Run name opts)) seed = run_row name opts seed
row_of (Some (Plain name opts)) seed = plain_row name opts
row_of (Some (Check name)) seed = check_row name
row_of (Some (Asm source target)) seed = asm_row source target
row_of (Some (Demo number)) seed = Come (demo_due number seed)
row_of (Some Help) seed = Come help_due

-- this is due where no further load was made
abbrev pub at_end : List FileAnswer → Due → Option Due
at_end [] due = Some due
at_end (load ∷ rest) due = None

-- what is due, by what a load gave: a command ends where it failed, or where the file is too long
abbrev pub after_load : (name : List ℕ) (limit : ℕ) → Option (List ℕ) → List FileAnswer → Option Due → Option Due
after_load name limit None rest due = at_end rest (unreadable_due name)
after_load name limit (Some bytes) rest due = if nat_lt limit (length bytes) then at_end rest (too_long_due name limit) else due

-- the bytes of a load, none where it failed
abbrev pub bytes_of : Option (List ℕ) → List ℕ
bytes_of None = []
bytes_of (Some bytes) = bytes

-- what a row comes to by these loads; none where it asks for others
abbrev pub comes_to : Row → List FileAnswer → Option Due
comes_to (Come due) loads = at_end loads due
comes_to (Load name limit next) [] = None
comes_to (Load name limit next) (load ∷ rest) =
    if same load.name name then after_load name limit load.bytes rest (comes_to (next (bytes_of load.bytes)) rest) else None

-- the loads are of what is held, where it is told, each to its limit
abbrev pub AreOf : Option FileMap → Row → List FileAnswer → Type 0
AreOf held (Come due) loads = ⊤
AreOf held (Load name limit next) [] = ⊤
AreOf held (Load name limit next) (load ∷ rest) = MatchOption load.bytes ⊤ (λ bytes. Loads held name limit bytes × AreOf held (next bytes) rest)
