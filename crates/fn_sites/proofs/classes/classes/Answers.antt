-- SPDX-License-Identifier: Apache-2.0
use Rattle.std.proofs.Common.{length}
use Rattle.sh_machines.specs.Class.{Source}
use Rattle.fn_sites.specs.Body.{source}
use Rattle.fn_sites.proofs.Listing.{class_more, class_all}
use Rattle.fn_sites.proofs.classes.classes.Goals as goal

pub loop-number-preserved : goal.loop-number-preserved
loop-number-preserved c relocs labels tells =
    let b : Source = source c.args.body.now relocs labels in
    class_more b c.loop-number.found.items _ _ _ c.loop-number.number (length c.args.body.now.words.now) c.loop-number-test.true c.in_ok-push.ensures.items (c.class_at.ensures relocs labels tells) (c.loop-number.invariant relocs labels tells)

pub returns : goal.returns
returns c relocs labels tells =
    let b : Source = source c.args.body.now relocs labels in
    class_all b c.loop-number.found.items _ c.loop-number.number (length c.args.body.now.words.now) c.loop-number-test.false (c.loop-number.invariant relocs labels tells)
