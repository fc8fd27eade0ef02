-- SPDX-License-Identifier: Apache-2.0
use Rattle.std.proofs.Common.{◌≡◌, ◌++◌, length, drop}
use Rattle.std.specs.Vec.Iter.{into_iter_items, into_iter_len}
use Rattle.guest_image.specs.Walks.{all_found, first_fault}
use Rattle.guest_image.proofs.frames.gathered.Given as goal

abbrev pub invariant-loop-one : goal.invariant-loop-one
invariant-loop-one l = record {
  all : all_found l.frames.items ++ into_iter_items l.one-iterator ≡ into_iter_items l.initial.one-iterator;
  long : into_iter_len l.one-iterator ≡ length (into_iter_items l.one-iterator);
  first : first_fault (length l.frames.items) (drop (length l.frames.items) l.functions) (into_iter_items l.one-iterator) ≡ first_fault 0 l.functions (into_iter_items l.initial.one-iterator);
}
