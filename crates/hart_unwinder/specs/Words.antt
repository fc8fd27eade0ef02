-- SPDX-License-Identifier: Apache-2.0
-- The words that a hart owns, as a list. This project's own.
use Rattle.std.specs.Prelude.{ℕ, zero, suc, Bool, List, [], ◌∷◌, ◌++◌, if◌then◌else◌}
use Rattle.sh_machines.specs.Shuffled.{Owned}
use Rattle.sh_machines.specs.Unmoved.{is_his}
use Rattle.guest_mem.specs.Held.{word_limit}

-- the numbers below n that pass the test, in rising order
abbrev pub passing : (ℕ → Bool) → ℕ → List ℕ
passing test zero = []
passing test (suc n) = if test n then passing test n ++ n ∷ [] else passing test n

-- the words that the hart owns, in rising order
abbrev pub owned_words : (ℕ → Owned) → ℕ → List ℕ
owned_words words hart = passing (λ w. is_his hart (words w).owner) word_limit
