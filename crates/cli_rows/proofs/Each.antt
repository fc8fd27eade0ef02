-- SPDX-License-Identifier: Apache-2.0
-- What holds of all that a row may come to.
use Rattle.std.proofs.Common.{◌≡◌, ℕ, List, [], ◌∷◌, Bool, true, false, length, subst}
use Rattle.std.specs.Prelude.{Option, Some, None, nat_lt, if◌then◌else◌}
use Rattle.sh_base.specs.Told.{FileAnswer}
use Rattle.guest_dues.specs.declared.due.Due.{Due}
use Rattle.cli_rows.specs.Dues.{unreadable_due, too_long_due}
use Rattle.cli_rows.specs.Rows.{Row, Load, Come, at_end, after_load, bytes_of, comes_to}
use Rattle.cli_words.specs.Texts.{same}

abbrev pub EachDue : (Due → Type 0) → Row → Type 0
EachDue P (Come due) = P due
EachDue P (Load name limit next) = (bytes : List ℕ) → EachDue P (next bytes)

same_due : (a b : Due) → Some a ≡ Some b → a ≡ b
same_due a b e = cc

no_due : (due : Due) → None ≡ Some due → ⊥
no_due due e = absurd (cc)

module _ (P : Due → Type 0) (unreadable : (name : List ℕ) → P (unreadable_due name)) (long : (name : List ℕ) (limit : ℕ) → P (too_long_due name limit)) where
  at_last : (loads : List FileAnswer) (made due : Due) → at_end loads made ≡ Some due → P made → P due
  at_last [] made due e p = subst P (same_due made due e) p
  at_last (load ∷ rest) made due e p = absurd (no_due due e)

  by_size : (t : Bool) (name : List ℕ) (limit : ℕ) (rest : List FileAnswer) (on : Option Due) (due : Due) → (on ≡ Some due → P due)
      → (if t then at_end rest (too_long_due name limit) else on) ≡ Some due → P due
  by_size true name limit rest on due goes e = at_last rest (too_long_due name limit) due e (long name limit)
  by_size false name limit rest on due goes e = goes e

  by_bytes : (name : List ℕ) (limit : ℕ) (next : List ℕ → Row) (rest : List FileAnswer) (due : Due)
      → ((bytes : List ℕ) → comes_to (next bytes) rest ≡ Some due → P due)
      → (o : Option (List ℕ)) → after_load name limit o rest (comes_to (next (bytes_of o)) rest) ≡ Some due → P due
  by_bytes name limit next rest due goes None e = at_last rest (unreadable_due name) due e (unreadable name)
  by_bytes name limit next rest due goes (Some bytes) e = by_size (nat_lt limit (length bytes)) name limit rest (comes_to (next bytes) rest) due (goes bytes) e

  by_name : (t : Bool) (on : Option Due) (due : Due) → (on ≡ Some due → P due) → (if t then on else None) ≡ Some due → P due
  by_name true on due goes e = goes e
  by_name false on due goes e = absurd (no_due due e)

  pub each : (row : Row) → EachDue P row → (loads : List FileAnswer) (due : Due) → comes_to row loads ≡ Some due → P due
  each (Come made) p loads due e = at_last loads made due e p
  each (Load name limit next) p [] due e = absurd (no_due due e)
  each (Load name limit next) p (load ∷ rest) due e =
      by_name (same load.name name) (after_load name limit load.bytes rest (comes_to (next (bytes_of load.bytes)) rest)) due
      (by_bytes name limit next rest due (λ bytes. each (next bytes) (p bytes) rest due) load.bytes) e
