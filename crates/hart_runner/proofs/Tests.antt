-- SPDX-License-Identifier: Apache-2.0
-- What the two tests of a conjunction say, and an end that has not come.
use Rattle.std.proofs.Common.{◌≡◌, Bool, true, Option, Some, None, refl, arith}
use Rattle.std.specs.Prelude.{◌&&◌}
use Rattle.sh_types.specs.declared.runs.End.{End}
use Rattle.sh_machines.specs.Unmoved.{goes_still}

pub and_first : (a b : Bool) → (a && b) ≡ true → a ≡ true
and_first a b e = grind arith

pub and_second : (a b : Bool) → (a && b) ≡ true → b ≡ true
and_second a b e = grind arith

pub none_of : (e : Option End) → goes_still e ≡ true → e ≡ None
none_of None g = refl
none_of (Some e) g = absurd (cc)
