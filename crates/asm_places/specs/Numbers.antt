-- SPDX-License-Identifier: Apache-2.0
-- What a map from names to numbers has.
use Rattle.std.specs.Prelude.{ℕ, Option, List}
use Rattle.std.specs.BTreeMap.{BTreeMap, get_by}
use Rattle.std.specs.Ordering.{nat_cmp, ordering_then}
use Rattle.std.specs.Cmp.Lexicographic.{slice_cmp}
use denote.Ref.{Bor}

abbrev pub number_of : BTreeMap (ℕ × Bor (List ℕ)) ℕ → ℕ → List ℕ → Option ℕ
number_of numbers scope name = get_by (λ k. ordering_then (nat_cmp scope k.0) (slice_cmp nat_cmp name k.1.now)) numbers
