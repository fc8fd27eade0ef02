-- SPDX-License-Identifier: Apache-2.0
use Rattle.std.proofs.Common.{arith, rules}
use Rattle.std.specs.Prelude.{nat_le}
use Rattle.std.proofs.lemmas.Bool.{leb-true, leb-false}
use Rattle.std.proofs.lemmas.List.Sorted.{IsPartitionedBy-leb, IsPartitionPoint-from_clause}
use Rattle.sh_types.specs.declared.code.Region.{Region}
use Rattle.plain_memory.proofs.areas.ended_by.Goals as goal

pub returns : goal.returns
returns c =
    let parted = IsPartitionedBy-leb (λ (r : Region). r.end) _ c.args.address c.requires in
    let point = IsPartitionPoint-from_clause (λ (r : Region). nat_le r.end c.args.address) _ _ c.partition_point.ensures.partitioned parted (λ a r q k. search rules) in
    record {
      bound = c.partition_point.ensures.bound;
      below = λ k d h. leb-true _ _ (point.0 k d (omega arith) h);
      above = λ k d h l. leb-false _ _ (point.1 k d h l);
    }
