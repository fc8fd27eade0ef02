-- SPDX-License-Identifier: Apache-2.0
-- What a set of names has.
use Rattle.std.specs.Prelude.{ℕ, Bool, false, Option, Some, None, List}
use Rattle.std.specs.BTreeSet.{BTreeSet, contains_by}
use Rattle.std.specs.Ordering.{nat_cmp, ordering_then}
use Rattle.std.specs.Cmp.Lexicographic.{slice_cmp}
use denote.Ref.{Bor}
use Rattle.asm_places.specs.Names.{same_key}

abbrev pub has : BTreeSet (ℕ × Bor (List ℕ)) → ℕ → List ℕ → Bool
has names scope name = contains_by (λ k. ordering_then (nat_cmp scope k.0) (slice_cmp nat_cmp name k.1.now)) names

abbrev pub has_key : BTreeSet (ℕ × Bor (List ℕ)) → Option (ℕ × List ℕ) → Bool
has_key names None = false
has_key names (Some key) = has names key.0 key.1

abbrev pub is_key : Option (ℕ × List ℕ) → ℕ × List ℕ → Bool
is_key None other = false
is_key (Some key) other = same_key key other
