-- SPDX-License-Identifier: Apache-2.0
-- The first of the records on code at a place is the record on the word.
use Rattle.std.proofs.Common.{◌≡◌, ℕ, Bool, true, false, List, [], ◌∷◌, refl, ap}
use Rattle.std.specs.Prelude.{◌==◌, ◌&&◌, Option, Some, filter, if◌then◌else◌}
use Rattle.sh_types.specs.declared.relocs.Reloc.{Reloc}
use Rattle.sh_machines.specs.Class.{record_on}
use Rattle.elf_rules.specs.Relocs.{record_at}

-- at a record that is on code, or not
one : (r : Reloc) (left : List Reloc) (a : ℕ) (rest : Option Reloc) (x : Bool) → record_at left a ≡ rest → record_at (if x then r ∷ left else left) a ≡ (if x && (r.place == a) then Some r else rest)
one r left a rest true e = ap (λ (o : Option Reloc). if r.place == a then Some r else o) e
one r left a rest false e = e

pub on_code : (relocs : List Reloc) (a : ℕ) → record_at (filter (λ (r : Reloc). r.code) relocs) a ≡ record_on relocs a
on_code [] a = refl
on_code (r ∷ rs) a = one r (filter (λ (q : Reloc). q.code) rs) a (record_on rs a) r.code (on_code rs a)
