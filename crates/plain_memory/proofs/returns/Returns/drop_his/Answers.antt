-- SPDX-License-Identifier: Apache-2.0
use Rattle.std.proofs.Common.{rules}
use Rattle.std.proofs.lemmas.Map.Made.{filter_same_pairs}
use Rattle.plain_memory.proofs.Maps.{filtered, is_other}
use Rattle.plain_memory.proofs.returns.Returns.drop_his.Goals as goal

pub returns : goal.returns
returns c =
    let e = filter_same_pairs _ (is_other c.args.hart) _ (λ k v b w f' t. search rules) _ _ c.retain.ensures.filtered in
    rw (← c.self.view_is) (filtered c.self.inside.saved c.retain.new.self c.args.hart c.retain.ensures.was_ordered e)
