-- SPDX-License-Identifier: Apache-2.0
-- What a map from names has.
use Rattle.std.specs.Prelude.{ℕ, Option, Some, None, List, if◌then◌else◌}
use Rattle.std.specs.BTreeMap.{BTreeMap, get_by}
use Rattle.std.specs.Ordering.{nat_cmp, ordering_then}
use Rattle.std.specs.Cmp.Lexicographic.{slice_cmp}
use denote.Ref.{Bor}
use Rattle.asm_places.specs.declared.targets.Target.{Target}
use Rattle.asm_places.specs.Names.{same_key}
use Rattle.asm_places.specs.Targets.{target_if}

abbrev pub has_at : BTreeMap (ℕ × Bor (List ℕ)) Target → ℕ → List ℕ → Option Target
has_at targets scope name = get_by (λ k. ordering_then (nat_cmp scope k.0) (slice_cmp nat_cmp name k.1.now)) targets

-- what a name of a scope stands for, at another
abbrev pub defines : ℕ × List ℕ → Target → ℕ × List ℕ → Option Target
defines key target other = if same_key key other then Some target else None

-- what a statement defines, at a name of a scope
abbrev pub defines_by : Option ((ℕ × List ℕ) × Target) → ℕ × List ℕ → Option Target
defines_by None other = None
defines_by (Some target) other = target_if target other
