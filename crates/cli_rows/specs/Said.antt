-- SPDX-License-Identifier: Apache-2.0
-- What is read off the commands' rows, of what is due.
use Rattle.std.specs.Prelude.{◌≡◌, ◌≢◌, ◌≤◌, ◌∷◌, [], None, Contains}
use Rattle.guest_dues.specs.declared.due.Due.{Due}

-- what is due has one of these statuses, stores with 0 alone, and has an end and a machine with 0 to 4 alone
pub record DueIsSaid (due : Due) : Type 0 where
  pub statuses : Contains (0 ∷ 1 ∷ 2 ∷ 3 ∷ 4 ∷ 10 ∷ 11 ∷ 12 ∷ []) due.status
  pub stores : due.status ≢ 0 → due.store ≡ None
  pub unmade : 10 ≤ due.status → (due.end ≡ None) × (due.machine ≡ None)
