-- SPDX-License-Identifier: Apache-2.0
use Rattle.std.specs.Prelude.{map}
use Rattle.asm_places.proofs.Counting.{map_goes_on, map_done}
use Rattle.rv_asm.specs.Object.{words_in}
use Rattle.rv_asm.proofs.assembling.words_of_functions.Goals as goal

pub loop-function-preserved : goal.loop-function-preserved
loop-function-preserved c =
    let give = words_in c.args.text.now in
    record { made = map_goes_on give c.loop-function.words.items c.push_words_in.new.words.items c.args.functions.now c.loop-function.function-index c.function-item.result (map give c.args.functions.now) c.loop-function-test.true c.function-item.is c.in_ok-push_words_in.ensures c.loop-function.invariant.made }

pub returns : goal.returns
returns c =
    let give = words_in c.args.text.now in
    map_done give c.loop-function.words.items c.args.functions.now c.loop-function.function-index (map give c.args.functions.now) c.loop-function-test.false c.loop-function.invariant.made
