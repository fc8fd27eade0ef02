-- SPDX-License-Identifier: Apache-2.0
use Rattle.std.proofs.Common.{◌≡◌, ℕ, ◌<◌, ◌≤◌, ◌≢◌, get_or, length, List, false, true, sym, Ok, Err, inl, inr, arith}
use Rattle.std.specs.Prelude.{◌==◌}
use Rattle.std.proofs.lemmas.Bool.{cases_lt}
use Rattle.std.proofs.lemmas.Bool.Decides.{nat_tests}
use Rattle.std.proofs.lemmas.List.Folds.{list_any_at, list_any_none}
use Rattle.std.proofs.lemmas.List.Elements.{All-from_get_or}
use Rattle.std.proofs.lemmas.List.Sorted.{searched}
use Rattle.fn_sites.proofs.search.is_among.Goals as goal

is_here : (s a : ℕ) → s ≡ a → (s == a) ≡ true
is_here s a e = grind (arith, nat_tests)

is_not : (s a : ℕ) → s ≢ a → (s == a) ≡ false
is_not s a e = grind (arith, nat_tests)

apart : (xs : List ℕ) (a i k : ℕ) → ((k : ℕ) → k < i → get_or xs k 0 < a) → ((k : ℕ) → i ≤ k → k < length xs → a < get_or xs k 0) → k < length xs → get_or xs k 0 ≢ a
apart xs a i k below above lt e = elim (cases_lt k i) [
  | inl l ↦ let b = below k l in omega arith
  | inr g ↦ let b = above k g lt in omega arith
]

pub returns-in-Ok : goal.returns-in-Ok
returns-in-Ok c =
    let found = searched c.args.numbers.now c.args.number (Ok c.in-Ok.field-0) c.in-Ok.ensures.position (λ i j le lt. c.requires i j 0 le lt) in
    sym (list_any_at (λ (p : ℕ). p == c.args.number) c.args.numbers.now c.in-Ok.field-0 0 found.0 (is_here _ _ found.1))

pub returns-in-Err : goal.returns-in-Err
returns-in-Err c =
    let missing = searched c.args.numbers.now c.args.number (Err c.in-Err.field-0) c.in-Err.ensures.position (λ i j le lt. c.requires i j 0 le lt) in
    sym (list_any_none (λ (p : ℕ). p == c.args.number) c.args.numbers.now (All-from_get_or (λ (p : ℕ). (p == c.args.number) ≡ false) c.args.numbers.now 0 (λ k lt. is_not _ _ (apart c.args.numbers.now c.args.number c.in-Err.field-0 k missing.1 missing.2 lt))))
