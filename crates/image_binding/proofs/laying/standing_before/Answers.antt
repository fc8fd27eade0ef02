-- SPDX-License-Identifier: Apache-2.0
use Rattle.std.proofs.Common.{arith, rules}
use Rattle.std.specs.Prelude.{nat_lt}
use Rattle.std.proofs.lemmas.Bool.{ltb-true, ltb-false}
use Rattle.std.proofs.lemmas.List.Sorted.{IsPartitionedBy-ltb, IsPartitionPoint-from_clause}
use Rattle.image_rules.specs.declared.tokens.Token.{Token}
use Rattle.image_binding.proofs.laying.standing_before.Goals as goal

pub returns : goal.returns
returns c =
    let parted = IsPartitionedBy-ltb (λ (t : Token). t.place) _ c.args.address c.requires in
    let point = IsPartitionPoint-from_clause (λ (t : Token). nat_lt t.place c.args.address) _ _ c.partition_point.ensures.partitioned parted (λ a r q k. search rules) in
    record {
      bound = c.partition_point.ensures.bound;
      below = λ k d h. ltb-true _ _ (point.0 k d (omega arith) h);
      above = λ k d h l. ltb-false _ _ (point.1 k d h l);
    }
