-- SPDX-License-Identifier: Apache-2.0
-- What an access to one aligned word answers, and what it leaves. (RISC-V Unprivileged ISA, "Load and Store
-- Instructions"; that every misaligned access is refused, and return words, are this project's own.)
use Rattle.std.specs.Prelude.{◌≡◌, ◌⊎◌, ℕ, ◌%◌, ◌==◌, Bool, Option, List, Result, Ok, Err, if◌then◌else◌}
use Rattle.sh_types.specs.declared.code.CodeRef.{CodeRef}
use Rattle.sh_types.specs.declared.code.Region.{Region}
use Rattle.sh_machines.specs.Memory.{readable, writable}
use Rattle.sh_machines.specs.Need.{set_at, part_of}
use Rattle.sh_machines.specs.Unmoved.{Content, Number, Return, number_of}
use Rattle.plain_memory.specs.declared.contents.AccessFault.{AccessFault}
use Rattle.plain_memory.specs.declared.contents.AccessFault.TheVariants.{Misaligned, Fault, Leak}
use Rattle.plain_memory.specs.declared.contents.SaveFault.{SaveFault}
use Rattle.plain_memory.specs.declared.contents.SaveFault.TheVariants.{NoMemory, Access}

abbrev pub IsWidth : ℕ → Type 0
IsWidth n = (n ≡ 1) ⊎ ((n ≡ 2) ⊎ ((n ≡ 4) ⊎ (n ≡ 8)))

-- a range that can be used goes on, or the first reason why not
abbrev pub checked : {A : Type 0} → (ℕ → ℕ → Bool) → (address width : ℕ) → Result A AccessFault → Result A AccessFault
checked usable address width on =
    if address % width == 0 then (if usable address width then on else Err Fault) else Err Misaligned

-- the bytes of a number; a return word is a leak
abbrev pub loaded : (address width : ℕ) → Content → Result ℕ AccessFault
loaded address width (Number v) = Ok (part_of address width v)
loaded address width (Return hart to) = Err Leak

-- a number can be stored over; a return word is a leak
abbrev pub stored : Content → Result (Unit {0}) AccessFault
stored (Number v) = Ok tt
stored (Return hart to) = Err Leak

-- where a return word of the hart leads; any other word is a leak
abbrev pub restored : (hart : ℕ) → Content → Result CodeRef AccessFault
restored hart (Number v) = Err Leak
restored hart (Return k to) = if k == hart then Ok to else Err Leak

abbrev pub load_of : List Region → (address width : ℕ) → Content → Result ℕ AccessFault
load_of regions address width c = checked (readable regions) address width (loaded address width c)

abbrev pub test_of : List Region → (address width : ℕ) → Content → Result ℕ AccessFault
test_of regions address width c = checked (writable regions) address width (loaded address width c)

abbrev pub store_of : List Region → (address width : ℕ) → Content → Result (Unit {0}) AccessFault
store_of regions address width c = checked (writable regions) address width (stored c)

abbrev pub restore_of : List Region → (address hart : ℕ) → Content → Result CodeRef AccessFault
restore_of regions address hart c = checked (readable regions) address 8 (restored hart c)

-- a save answers as a store would; memory may be refused
abbrev pub IsSaved : Result (Unit {0}) SaveFault → Result (Unit {0}) AccessFault → Type 0
IsSaved (Ok done) expected = expected ≡ Ok tt
IsSaved (Err NoMemory) expected = Unit {0}
IsSaved (Err (Access fault)) expected = expected ≡ Err fault

-- the words with another at one number, where the access was done
abbrev pub after_access : {A E : Type 0} → Result A E → (ℕ → Content) → ℕ → Content → ℕ → Content
after_access (Ok done) u w c = set_at u w c
after_access (Err why) u w c = u

-- the number of a word, 0 of a return word
abbrev pub number_in : Content → ℕ
number_in (Number v) = v
number_in (Return hart to) = 0

-- the numbers in the words; none in a return word
abbrev pub plain_in : (ℕ → Content) → ℕ → Option ℕ
plain_in u w = number_of (u w)
