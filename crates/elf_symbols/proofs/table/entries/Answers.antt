-- SPDX-License-Identifier: Apache-2.0
use Rattle.std.proofs.Common.{◌/◌}
use Rattle.elf_rules.specs.Elf.{raw_symbol}
use Rattle.elf_read.proofs.Places.{read_more, fits_more}
use Rattle.elf_symbols.proofs.table.entries.Goals as goal

pub loop-preserved : goal.loop-preserved
loop-preserved c = record {
  read = rw (c.in_ok-push.ensures.items, c.raw_symbol.ensures) (read_more (raw_symbol c.args.bytes.now) _ 24 c.loop.place (c.args.table.now.size / 24) c.loop.counter _ c.loop-test.true c.loop.invariant.read);
  within = fits_more c.loop.place 24 (c.args.table.now.size / 24) c.loop.counter _ c.loop-test.true c.loop.invariant.within;
}
