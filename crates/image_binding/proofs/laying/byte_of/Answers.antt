-- SPDX-License-Identifier: Apache-2.0
use Rattle.std.proofs.Common.{ap}
use Rattle.std.specs.Prelude.{◌/◌, ◌%◌}
use Rattle.image_binding.proofs.Shifts.{bits_of_bytes}
use Rattle.image_binding.proofs.laying.byte_of.Goals as goal

pub returns : goal.returns
returns c = ap (λ n. c.args.value / n % 256) (bits_of_bytes c.args.i c.requires)
