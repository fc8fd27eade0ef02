-- SPDX-License-Identifier: Apache-2.0
-- A function as the code walks it, and the one that the frame grammar speaks of. This project's own.
use Rattle.std.specs.Prelude.{◌≡◌, ℕ, ◌<◌, ◌^◌, None, length, slice_index, slice_index_or}
use Rattle.rv_table.specs.Decoding.{decoded}
use Rattle.sh_machines.specs.Constants.{known_of}
use Rattle.sh_machines.specs.Grammar as grammar
use Rattle.sh_machines.specs.Grammar.{StaysInside, own_labels}
use Rattle.frame_tables.specs.declared.body.Body.{Body}
use Rattle.frame_tables.specs.Answers.{body_with}
use Rattle.frame_tables.specs.Operand.{operand_in}

-- the grammar's function
abbrev pub meant : Body → grammar.Body
meant b = body_with b.func b.entry b.words.now b.sites.now b.labels.now

-- each word has a class and an operand, the labels are the function's own, and no path leaves the function but at its end
pub record IsBody (b : Body) : Type 0 where
  pub size : length b.words.now < 2 ^ 30
  pub sites : length b.sites.now ≡ length b.words.now
  pub operands : length b.operands.now ≡ length b.words.now
  pub each : (k : ℕ) → k < length b.words.now → slice_index_or b.operands.now k None ≡ operand_in (decoded (slice_index b.words.now k)) (known_of b.words.now b.sites.now b.labels.now b.func k)
  pub own : b.own.now ≡ own_labels b.func b.labels.now
  pub inside : StaysInside (meant b)
