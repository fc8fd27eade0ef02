-- SPDX-License-Identifier: Apache-2.0
use Rattle.std.proofs.Common.{arith, rules}
use Rattle.std.specs.Prelude.{nat_lt}
use Rattle.std.proofs.lemmas.Bool.{ltb-true, ltb-false}
use Rattle.std.proofs.lemmas.List.Sorted.{IsPartitionedBy-ltb, IsPartitionPoint-from_clause}
use Rattle.elf_rules.specs.declared.elf.Head.{Head}
use Rattle.image_binding.proofs.order.starting_below.Goals as goal

pub returns : goal.returns
returns c =
    let parted = IsPartitionedBy-ltb (λ (h : Head). h.start) _ c.args.address c.requires in
    let point = IsPartitionPoint-from_clause (λ (h : Head). nat_lt h.start c.args.address) _ _ c.partition_point.ensures.partitioned parted (λ a r q k. search rules) in
    record {
      bound = c.partition_point.ensures.bound;
      below = λ k d h. ltb-true _ _ (point.0 k d (omega arith) h);
      above = λ k d h l. ltb-false _ _ (point.1 k d h l);
    }
