-- SPDX-License-Identifier: Apache-2.0
use Rattle.std.proofs.Common.{rules, arith}
use Rattle.std.specs.Prelude.{nat_lt}
use Rattle.std.proofs.lemmas.Bool.{ltb-true, ltb-false}
use Rattle.std.proofs.lemmas.List.Sorted.{IsPartitionedBy-ltb, IsPartitionPoint-from_clause}
use Rattle.sh_types.specs.declared.code.Pair.{Pair}
use Rattle.image_rules.specs.Binding.{label_home}
use Rattle.ptr_table.proofs.data.labels_before.Goals as goal

pub returns : goal.returns
returns c =
    let parted = IsPartitionedBy-ltb (label_home c.args.functions.now) _ c.args.address c.requires in
    let point = IsPartitionPoint-from_clause (λ (p : Pair). nat_lt (label_home c.args.functions.now p) c.args.address) _ _ c.partition_point.ensures.partitioned parted (λ a r q k. search rules) in
    record {
      bound = c.partition_point.ensures.bound;
      below = λ k d h. ltb-true _ _ (point.0 k d (omega arith) h);
      above = λ k d h l. ltb-false _ _ (point.1 k d h l);
    }
