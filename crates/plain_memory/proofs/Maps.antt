-- SPDX-License-Identifier: Apache-2.0
-- The return words that are kept where those of a hart are not.
use Rattle.std.proofs.Common.{◌≡◌, ℕ, Bool, true, false, cond, not, Option, Some, None, refl, ap, ◌∙◌, nat_cmp}
use Rattle.std.specs.Prelude.{◌==◌, if◌then◌else◌, filter}
use Rattle.std.specs.BTreeMap.{BTreeMap, is_at, IsOrdered, keys}
use Rattle.std.specs.Map.{lookup}
use Rattle.std.specs.Cmp.{nat_cmp_total, eq_by_cmp_equiv}
use Rattle.std.proofs.lemmas.Map.Entries.{lookup-filter-values, option_filter}
use Rattle.std.proofs.lemmas.Map.Keys.{IsDistinct-from_sorted}
use Rattle.plain_memory.specs.declared.returns.SavedReturn.{SavedReturn}
use Rattle.plain_memory.specs.Plain.{saved_at, unless_his}

-- what is kept
abbrev pub is_other : ℕ → ℕ × SavedReturn → Bool
is_other hart e = not (e.1.hart == hart)

pub filtered : (old new : BTreeMap ℕ SavedReturn) (hart : ℕ) → IsOrdered nat_cmp old → new.entries ≡ filter (is_other hart) old.entries → (w : ℕ) → saved_at new.entries w ≡ unless_his hart (saved_at old.entries w)
filtered old new hart ordered e w =
    ap (lookup (is_at (nat_cmp w))) e
    ∙ lookup-filter-values (eq_by_cmp_equiv nat_cmp_total) (λ (s : SavedReturn). not (s.hart == hart)) w old.entries (IsDistinct-from_sorted nat_cmp (keys old) ordered)
    ∙ by (saved_at old.entries w)
  where
    by : (s : Option SavedReturn) → option_filter (λ (s : SavedReturn). not (s.hart == hart)) s ≡ unless_his hart s
    by None = refl
    by (Some s) = if_his (s.hart == hart)
      where
        if_his : (b : Bool) → cond (not b) (Some s) None ≡ (if b then None else Some s)
        if_his true = refl
        if_his false = refl
