-- SPDX-License-Identifier: Apache-2.0
-- The addresses that records take, in any order.
use Rattle.std.proofs.Common.{◌≡◌, ℕ, Bool, true, false, cond, ◌||◌, Option, Some, None, List, [], ◌∷◌, refl, sym, ap, ◌∙◌}
use Rattle.std.specs.Prelude.{◌==◌, ◌&&◌}
use Rattle.std.specs.List.{list_any}
use Rattle.std.specs.List.Sorted.{IsPermutation}
use Rattle.std.specs.Option.{option_to_list}
use Rattle.std.proofs.lemmas.List.Folds.{list_any-append}
use Rattle.std.proofs.lemmas.List.Sorted.{list_any-IsPermutation}
use Rattle.sh_types.specs.declared.relocs.Reloc.{Reloc}
use Rattle.sh_machines.specs.Class.{is_number, named_by}
use Rattle.image_rules.specs.Binding.{is_pointer_to}
use Rattle.ptr_table.specs.Taken.{AreTaken, counts, has, taken_by, taken_in}

right_false : (b : Bool) → (b || false) ≡ b
right_false true = refl
right_false false = refl

one_number : (a : ℕ) (n : Option ℕ) → has (option_to_list n) a ≡ is_number n a
one_number a None = refl
one_number a (Some n) = right_false (n == a)

one_taken : (in_code : Bool) (a : ℕ) (r : Reloc) → has (option_to_list (taken_by in_code r)) a ≡ is_pointer_to (counts in_code) a r
one_taken in_code a r = by (counts in_code r)
  where
    by : (b : Bool) → has (option_to_list (cond b (named_by r) None)) a ≡ (b && is_number (named_by r) a)
    by true = one_number a (named_by r)
    by false = refl

taken : (in_code : Bool) (a : ℕ) (rs : List Reloc) → has (taken_in in_code rs) a ≡ list_any (is_pointer_to (counts in_code) a) rs
taken in_code a [] = refl
taken in_code a (r ∷ rs) =
    list_any-append (λ (p : ℕ). p == a) (option_to_list (taken_by in_code r)) (taken_in in_code rs)
    ∙ ap (λ b. b || has (taken_in in_code rs) a) (one_taken in_code a r)
    ∙ ap (λ b. is_pointer_to (counts in_code) a r || b) (taken in_code a rs)

pub all_taken : (in_code : Bool) (rs : List Reloc) (found all : List ℕ) → all ≡ taken_in in_code rs → IsPermutation all found → AreTaken (counts in_code) rs found
all_taken in_code rs found all e p a =
    sym (list_any-IsPermutation (λ (n : ℕ). n == a) all found p) ∙ ap (λ (ns : List ℕ). has ns a) e ∙ taken in_code a rs
