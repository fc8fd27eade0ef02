-- SPDX-License-Identifier: Apache-2.0
-- A reservation and what was stored share a byte.
use Rattle.std.proofs.Common.{◌≡◌, ℕ, ◌+◌, ◌<◌, true, arith}
use Rattle.std.specs.Prelude.{min, max, nat_lt}
use Rattle.std.proofs.lemmas.Bool.Decides.{nat_tests}
use Rattle.rv_table.specs.declared.instructions.Reservation.{Reservation}
use Rattle.sh_types.specs.declared.runs.Stored.{Stored}
use Rattle.rv_table.specs.Arithmetic.{Meets}
use Rattle.sh_machines.specs.Need.{shares}

below : (a b c d : ℕ) → nat_lt (max a b) (min c d) ≡ true → max a b < min c d
below a b c d e = grind (arith, nat_tests)

above : (a b c d : ℕ) → max a b < min c d → nat_lt (max a b) (min c d) ≡ true
above a b c d l = grind (arith, nat_tests)

pub shared : (r : Reservation) (s : Stored) → shares r s ≡ true → Meets r s.address s.length
unfolding shares
shared r s e =
    let l = below r.address s.address (r.address + r.width) (s.address + s.length) e in
    (max r.address s.address, omega arith, omega (arith, l), omega arith, omega (arith, l))

pub meeting : (r : Reservation) (s : Stored) → Meets r s.address s.length → shares r s ≡ true
unfolding shares
meeting r s m = above r.address s.address (r.address + r.width) (s.address + s.length) (omega (arith, m.1, m.2, m.3, m.4))
