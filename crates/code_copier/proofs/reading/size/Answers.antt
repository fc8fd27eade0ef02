-- SPDX-License-Identifier: Apache-2.0
use Rattle.code_copier.proofs.Sizes.{size_got, size_past}
use Rattle.code_copier.proofs.reading.size.Goals as goal

pub returns-in-Some : goal.returns-in-Some
returns-in-Some c =
    size_got c.args.image.now c.as_slice.result.now c.args.func c.in-Some.function.now c.as_slice.ensures c.in-Some.ensures.lookup.1 c.in-Some.ensures.lookup.3.0

pub returns-in-None : goal.returns-in-None
returns-in-None c = size_past c.args.image.now c.as_slice.result.now c.args.func c.as_slice.ensures c.in-None.ensures.lookup.3
