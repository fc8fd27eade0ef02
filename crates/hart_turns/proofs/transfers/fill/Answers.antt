-- SPDX-License-Identifier: Apache-2.0
use Rattle.std.proofs.Common.{length, refl, ◌∙◌, arith, add-one}
use Rattle.guest_mem.specs.Held.{words_of, regions_of}
use Rattle.hart_turns.proofs.Bytes.{fill_first, fill_next, fill_free_at, fill_write_at, write_read}
use Rattle.hart_turns.proofs.transfers.fill.Goals as goal

pub loop-byte-init : goal.loop-byte-init
loop-byte-init c = record { at = omega arith; words = fill_first c.args.address c.args.bytes.now (words_of c.args.memory.now); regions = refl }

pub put_byte-requires-clause-writable : goal.put_byte-requires-clause-writable
put_byte-requires-clause-writable c =
    fill_write_at (regions_of c.args.memory.now) (regions_of c.loop-byte.memory) c.args.address c.loop-byte.byte-index c.loop-byte.at (length c.args.bytes.now) c.loop-byte.invariant.at (omega (arith, c.loop-byte-test.true)) c.loop-byte.invariant.regions c.requires.writable

pub reads_low-requires-clause-readable : goal.reads_low-requires-clause-readable
reads_low-requires-clause-readable c =
    write_read (regions_of c.loop-byte.memory) c.loop-byte.at 1
    (fill_write_at (regions_of c.args.memory.now) (regions_of c.loop-byte.memory) c.args.address c.loop-byte.byte-index c.loop-byte.at (length c.args.bytes.now) c.loop-byte.invariant.at (omega (arith, c.loop-byte-test.true)) c.loop-byte.invariant.regions c.requires.writable)

pub put_byte-requires-clause-free : goal.put_byte-requires-clause-free
put_byte-requires-clause-free c =
    fill_free_at c.args.address c.loop-byte.byte-index c.loop-byte.at c.args.bytes.now (words_of c.args.memory.now) (words_of c.loop-byte.memory) c.loop-byte.invariant.at (omega (arith, c.loop-byte-test.true)) c.requires.plain c.loop-byte.invariant.words

pub loop-byte-preserved : goal.loop-byte-preserved
loop-byte-preserved c =
    let w = fill_next c.args.address c.loop-byte.byte-index c.loop-byte.at _ c.args.bytes.now (words_of c.args.memory.now) (words_of c.loop-byte.memory) (words_of c.put_byte.new.self) c.loop-byte.invariant.at (omega (arith, c.loop-byte-test.true)) refl c.requires.plain c.loop-byte.invariant.words c.put_byte.ensures.words in
    record { at = omega (arith, c.loop-byte.invariant.at); words = rw add-one w; regions = c.put_byte.ensures.regions ∙ c.loop-byte.invariant.regions }
