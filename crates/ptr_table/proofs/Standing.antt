-- SPDX-License-Identifier: Apache-2.0
-- The label at an address, of labels by rising addresses.
use Rattle.std.proofs.Common.{◌≡◌, ◌∙◌, ℕ, ◌<◌, ◌≤◌, Some, None, List, length, get_or, ap, inl, inr, arith}
use Rattle.std.specs.Prelude.{◌==◌}
use Rattle.std.specs.List.{position_from}
use Rattle.std.proofs.lemmas.Bool.{cases_lt}
use Rattle.sh_types.specs.declared.code.Function.{Function}
use Rattle.sh_types.specs.declared.code.Pair.{Pair}
use Rattle.fn_lookup.proofs.Holding.{found_from, missing_from, is_here, is_not}
use Rattle.image_rules.specs.Binding.{label_home}

pub number_found : (fs : List Function) (ls : List Pair) (a n : ℕ) (d : Pair) → n < length ls → ((k : ℕ) (d : Pair) → k < n → label_home fs (get_or ls k d) < a) → label_home fs (get_or ls n d) ≡ a → position_from (λ p. label_home fs p == a) 0 ls ≡ Some n
number_found fs ls a n d lt below e =
    found_from (λ (p : Pair). label_home fs p == a) 0 ls n d lt (is_here _ _ e) (λ k l. is_not _ _ (λ same. let low = below k d l in omega (arith, low, same))) ∙ ap Some (omega arith)

pub number_missing : (fs : List Function) (ls : List Pair) (a n : ℕ) (d : Pair) → ((k : ℕ) (d : Pair) → k < n → label_home fs (get_or ls k d) < a) → ((k : ℕ) → n ≤ k → k < length ls → a < label_home fs (get_or ls k d)) → position_from (λ p. label_home fs p == a) 0 ls ≡ None
number_missing fs ls a n d below above =
    missing_from (λ (p : Pair). label_home fs p == a) 0 ls d (λ k lt. is_not _ _ (λ same. elim (cases_lt k n) [
      | inl l ↦ let low = below k d l in omega (arith, low, same)
      | inr g ↦ let up = above k g lt in omega (arith, up, same)
    ]))
