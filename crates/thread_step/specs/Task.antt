-- SPDX-License-Identifier: Apache-2.0
-- What the code takes the word at a pair for, as one of the kinds of words on the unmoved image.
use Rattle.std.specs.Prelude.{◌≡◌, ◌<◌, ◌==◌, false, IsTrue}
use Rattle.rv_operands.specs.Registers.{NamesRegisters}
use Rattle.rv_table.specs.Arithmetic.{is_arithmetic, is_branch, is_load}
use Rattle.sh_machines.specs.Kind.{Kind, Sets, Computes, Passes, Loads, Stores, Atomics, Saves, Restores, CallsTo, JumpsTo, Branches, CallsThrough, JumpsThrough, GoesBack, Asks, Breaks, Illegal, kind_at, opcode_of}
use Rattle.sh_machines.specs.Tokens.{call_way, tail_way}
use Rattle.sh_types.specs.Place.{pair}
use Rattle.sh_types.specs.declared.code.Image.{Image}
use Rattle.sh_types.specs.declared.code.Pair.{Pair}
use Rattle.thread_step.specs.declared.tasks.Task.{Task}
use Rattle.thread_step.specs.declared.tasks.Task.TheVariants as task

-- by the rows and the labels of the image, at a pair
abbrev pub kind_of : Image → Pair → Task → Kind Pair
kind_of image p (task.Sets rd value) = Sets rd value
kind_of image p (task.Computes i) = Computes i
kind_of image p task.Passes = Passes
kind_of image p (task.Loads i) = Loads i
kind_of image p (task.Stores i) = Stores i
kind_of image p (task.Atomics i) = Atomics i
kind_of image p (task.Saves imm) = Saves imm
kind_of image p (task.Restores imm) = Restores imm
kind_of image p (task.CallsTo func) = CallsTo (pair func 0)
kind_of image p (task.JumpsTo func off) = JumpsTo (pair func off)
kind_of image p (task.Branches i off) = Branches i (pair p.func off)
kind_of image p (task.Untaken i off) = Branches i (pair p.func off)
kind_of image p (task.CallsThrough rs1 imm) = CallsThrough rs1 imm (call_way image.rows)
kind_of image p (task.JumpsThrough rs1 imm) = JumpsThrough rs1 imm (tail_way image.rows image.labels p.func)
kind_of image p (task.GoesBack imm) = GoesBack imm
kind_of image p task.Asks = Asks
kind_of image p task.Breaks = Breaks
kind_of image p task.Illegal = Illegal

-- the task's instruction is one of those that its kind is made for
abbrev pub IsDoable : Task → Type 0
IsDoable (task.Sets rd value) = rd < 32
IsDoable (task.Computes i) = NamesRegisters i × IsTrue (is_arithmetic i.op)
IsDoable (task.Loads i) = NamesRegisters i × IsTrue (is_load i.op)
IsDoable (task.Stores i) = NamesRegisters i
IsDoable (task.Atomics i) = NamesRegisters i × IsTrue (opcode_of i.op == 0x2f)
IsDoable (task.Branches i off) = NamesRegisters i × IsTrue (is_branch i.op)
IsDoable (task.Untaken i off) = is_branch i.op ≡ false
IsDoable (task.CallsThrough rs1 imm) = rs1 < 32
IsDoable (task.JumpsThrough rs1 imm) = rs1 < 32
IsDoable _ = Unit {0}

-- the task is of the kind of the word at the pair, and can be done
pub record IsTask (image : Image) (p : Pair) (t : Task) : Type 0 where
  pub kind : kind_of image p t ≡ kind_at image p
  pub doable : IsDoable t
