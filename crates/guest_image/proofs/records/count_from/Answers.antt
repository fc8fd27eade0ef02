-- SPDX-License-Identifier: Apache-2.0
use Rattle.std.proofs.Common.{◌<◌, length, rules, arith}
use Rattle.std.specs.Prelude.{nat_le}
use Rattle.std.proofs.lemmas.Bool.{leb-true, leb-false}
use Rattle.std.proofs.lemmas.List.Sorted.{IsPartitionedBy-leb, IsPartitionPoint-from_clause}
use Rattle.sh_types.specs.declared.code.Function.{Function}
use Rattle.fn_lookup.proofs.Holding.{home_is, never_falls}
use Rattle.guest_image.specs.Records.{no_function}
use Rattle.guest_image.proofs.records.count_from.Goals as goal

pub returns : goal.returns
returns c =
    let parted = IsPartitionedBy-leb (λ (f : Function). f.home) c.args.functions.now c.args.address (never_falls c.args.functions.now c.requires) in
    let point = IsPartitionPoint-from_clause (λ (f : Function). nat_le f.home c.args.address) _ _ c.partition_point.ensures.partitioned parted (λ a r q k. search rules) in
    record {
      bound = c.partition_point.ensures.bound;
      below = λ k h.
          let lt : k < length c.args.functions.now = omega (arith, h, c.partition_point.ensures.bound) in
          let one = home_is c.args.functions.now k no_function lt in
          let two = leb-true _ _ (point.0 k no_function (omega arith) h) in
          omega (arith, one, two);
      above = λ k h l.
          let one = home_is c.args.functions.now k no_function l in
          let two = leb-false _ _ (point.1 k no_function h l) in
          omega (arith, one, two);
    }
