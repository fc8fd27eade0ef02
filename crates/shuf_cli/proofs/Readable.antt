-- SPDX-License-Identifier: Apache-2.0
-- What the first load of a row gave, by what is held.
use Rattle.std.proofs.Common.{◌≡◌, ◌<◌, ◌≤◌, ◌+◌, ℕ, List, [], ◌∷◌, Bool, true, false, refl, sym, ◌∙◌, ap, subst, length, take, length-take, arith}
use Rattle.std.specs.Prelude.{⊤, Option, Some, None, IsSomeAnd, MatchOption, nat_lt, if◌then◌else◌}
use Rattle.std.specs.FinMap as map
use Rattle.std.specs.Cmp.Lexicographic.{bytes_decides}
use Rattle.std.proofs.lemmas.List.{take_all}
use Rattle.std.proofs.lemmas.Bool.Decides.{nat_tests}
use Rattle.sh_base.specs.Held.{FileMap, Loads}
use Rattle.sh_base.specs.Told.{FileAnswer}
use Rattle.sh_base.specs.Tells.{gave}
use Rattle.guest_dues.specs.declared.due.Due.{Due}
use Rattle.shuf_cli.specs.Answer.{FilesState, LoadRose}
use Rattle.shuf_cli.specs.Asked.{Loaded}
use Rattle.cli_rows.specs.Dues.{unreadable_due, too_long_due}
use Rattle.cli_rows.specs.Rows.{Row, Load, at_end, after_load, bytes_of, comes_to, AreOf}
use Rattle.shuf_cli.specs.Said.{IsReadable, Lacks}
use Rattle.cli_words.specs.Texts.{same}

-- a held file within the limit is loaded as it is
loaded_same : (held : Option FileMap) (name file loaded : List ℕ) (limit : ℕ) → IsSomeAnd held (λ files. map.get files name ≡ Some file) → length file ≤ limit
    → Loads held name limit loaded → loaded ≡ file
loaded_same None name file loaded limit holds short loads = absurd holds
loaded_same (Some files) name file loaded limit holds short loads =
    let found : IsSomeAnd (Some file) (λ content. loaded ≡ take (limit + 1) content) =
    subst (λ (o : Option (List ℕ)). IsSomeAnd o (λ content. loaded ≡ take (limit + 1) content)) holds loads in
    found ∙ take_all (limit + 1) file (omega arith)

-- where no file within the limit is held, what is loaded is longer
lacks_long : (held : Option FileMap) (name loaded : List ℕ) (limit : ℕ) → Lacks held name limit → Loads held name limit loaded → limit < length loaded
lacks_long None name loaded limit lacks loads = absurd lacks
lacks_long (Some files) name loaded limit lacks loads = by (map.get files name) lacks loads
  where
    by : (o : Option (List ℕ)) → MatchOption o ⊤ (λ content. limit < length content) → IsSomeAnd o (λ content. loaded ≡ take (limit + 1) content) → limit < length loaded
    by None long l = absurd l
    by (Some content) long l = omega (arith, ap length l, length-take (limit + 1) content)

no_due : (due : Due) → None ≡ Some due → ⊥
no_due due e = absurd (cc)

-- what a load is where the row goes on by it
pub record Goes (name : List ℕ) (limit : ℕ) (next : List ℕ → Row) (load : FileAnswer) (rest : List FileAnswer) (due : Due) : Type 0 where
  pub named : load.name ≡ name
  pub comes : after_load name limit load.bytes rest (comes_to (next (bytes_of load.bytes)) rest) ≡ Some due

goes : (name : List ℕ) (limit : ℕ) (next : List ℕ → Row) (load : FileAnswer) (rest : List FileAnswer) (due : Due)
    → comes_to (Load name limit next) (load ∷ rest) ≡ Some due → Goes name limit next load rest due
goes name limit next load rest due comes = by (same load.name name) refl comes
  where
    by : (t : Bool) → same load.name name ≡ t → (if t then after_load name limit load.bytes rest (comes_to (next (bytes_of load.bytes)) rest) else None) ≡ Some due
        → Goes name limit next load rest due
    by true is e = record { named = (bytes_decides load.name name).0 is; comes = e }
    by false is e = absurd (no_due due e)

module _ (name : List ℕ) (limit : ℕ) (next : List ℕ → Row) (files files' : FilesState) where
  pub given : (loads : List FileAnswer) (due : Due) (file : List ℕ) → Loaded (Load name limit next) files files' loads → comes_to (Load name limit next) loads ≡ Some due
      → IsReadable files files' name limit file → (rest : List FileAnswer) × (loads ≡ gave name file ∷ rest) × (comes_to (next file) rest ≡ Some due)
  given [] due file loaded comes readable = absurd (no_due due comes)
  given (load ∷ rest) due file loaded comes readable =
      let g = goes name limit next load rest due comes in
      by load.bytes refl g.comes loaded.held loaded.causes.0 g.named
    where
      by : (o : Option (List ℕ)) → load.bytes ≡ o → after_load name limit o rest (comes_to (next (bytes_of o)) rest) ≡ Some due
          → MatchOption o ⊤ (λ bytes. Loads files.held name limit bytes × AreOf files.held (next bytes) rest)
          → MatchOption o (LoadRose files files' load.name) (λ _. ⊤) → load.name ≡ name
          → (more : List FileAnswer) × (load ∷ rest ≡ gave name file ∷ more) × (comes_to (next file) more ≡ Some due)
      by None is e held rose named =
          let r = subst (LoadRose files files') named rose in
          let s = readable.steady in absurd (omega arith)
      by (Some bytes) is e held rose named =
          let whole : bytes ≡ file = loaded_same files.held name file bytes limit readable.held readable.short held.0 in
          let short = readable.short in
          let fits : nat_lt limit (length bytes) ≡ false = grind (arith, nat_tests, ap length whole, short) in
          let on : comes_to (next bytes) rest ≡ Some due =
          subst (λ t. (if t then at_end rest (too_long_due name limit) else comes_to (next bytes) rest) ≡ Some due) fits e in (
            rest,
            (λ i. (record { name = named i; bytes = (is ∙ ap Some whole) i }) ∷ rest),
            subst (λ b. comes_to (next b) rest ≡ Some due) whole on,
          )

  pub lacking : (loads : List FileAnswer) (due : Due) → Loaded (Load name limit next) files files' loads → comes_to (Load name limit next) loads ≡ Some due
      → Lacks files.held name limit → due.status ≡ 11
  lacking [] due loaded comes lacks = absurd (no_due due comes)
  lacking (load ∷ rest) due loaded comes lacks =
      let g = goes name limit next load rest due comes in
      by load.bytes g.comes loaded.held
    where
      last : (rest : List FileAnswer) (made : Due) → made.status ≡ 11 → at_end rest made ≡ Some due → due.status ≡ 11
      last [] made eleven e = sym (ap (λ d. d.status) (same_due made due e)) ∙ eleven
        where
          same_due : (a b : Due) → Some a ≡ Some b → a ≡ b
          same_due a b e = cc
      last (load ∷ rest) made eleven e = absurd (no_due due e)

      by : (o : Option (List ℕ)) → after_load name limit o rest (comes_to (next (bytes_of o)) rest) ≡ Some due
          → MatchOption o ⊤ (λ bytes. Loads files.held name limit bytes × AreOf files.held (next bytes) rest) → due.status ≡ 11
      by None e held = last rest (unreadable_due name) refl e
      by (Some bytes) e held =
          let long = lacks_long files.held name bytes limit lacks held.0 in
          let over : nat_lt limit (length bytes) ≡ true = grind (arith, nat_tests, long) in
          last rest (too_long_due name limit) refl
          (subst (λ t. (if t then at_end rest (too_long_due name limit) else comes_to (next bytes) rest) ≡ Some due) over e)
