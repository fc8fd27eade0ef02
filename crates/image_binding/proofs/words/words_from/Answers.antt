-- SPDX-License-Identifier: Apache-2.0
use Rattle.elf_rules.specs.Elf.{number_at}
use Rattle.image_binding.proofs.Places.{read_more, fits_more}
use Rattle.image_binding.proofs.words.words_from.Goals as goal

pub loop-preserved : goal.loop-preserved
loop-preserved c = record {
  read = rw (c.in_ok-push.ensures.items, c.u32_at.ensures) (read_more (number_at 4 c.args.bytes.now) _ 4 c.loop.place c.args.count c.loop.counter _ c.loop-test.true c.loop.invariant.read);
  inside = fits_more c.loop.place 4 c.args.count c.loop.counter _ c.loop-test.true c.loop.invariant.inside;
}
