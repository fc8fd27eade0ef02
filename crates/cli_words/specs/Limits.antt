-- SPDX-License-Identifier: Apache-2.0
-- The limits of the options, and what holds where the words give none. This project's own.
use Rattle.std.specs.Prelude.{ℕ}

-- instructions between publications
abbrev pub least_period : ℕ
least_period = 1

abbrev pub most_period : ℕ
most_period = 1000000000

abbrev pub default_period : ℕ
default_period = 100000

-- instructions in a turn at most
abbrev pub least_quantum : ℕ
least_quantum = 1

abbrev pub most_quantum : ℕ
most_quantum = 1000000

abbrev pub default_quantum : ℕ
default_quantum = 1000

-- instructions in all at most
abbrev pub least_steps : ℕ
least_steps = 0

abbrev pub most_steps : ℕ
most_steps = 1000000000000

abbrev pub default_steps : ℕ
default_steps = 100000000

abbrev pub default_workers : ℕ
default_workers = 4

-- numbers of generated guests
abbrev pub least_guest : ℕ
least_guest = 1

abbrev pub most_guest : ℕ
most_guest = 1000

-- bytes of a seed
abbrev pub seed_size : ℕ
seed_size = 32
