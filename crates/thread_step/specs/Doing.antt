-- SPDX-License-Identifier: Apache-2.0
-- That an instruction of a kind was done. This project's own.
use Rattle.std.specs.Prelude.{ℕ, List, Bool, true, false, None}
use Rattle.rv_table.specs.Arithmetic.{is_branch}
use Rattle.sh_types.specs.declared.code.Pair.{Pair}
use Rattle.sh_types.specs.declared.code.Region.{Region}
use Rattle.sh_machines.specs.Kind.{Kind, Sets, Computes, Loads, CallsTo, JumpsTo, Branches}
use Rattle.sh_machines.specs.Need.{answered}
use Rattle.sh_machines.specs.Unmoved.{Content, thread_does}
use Rattle.thread_acts.specs.Done.{IsDone, meant}
use Rattle.thread_acts.specs.declared.answers.Did.{Did}
use Rattle.thread_acts.specs.declared.answers.Did.TheVariants.{Went}
use Rattle.thread_acts.specs.declared.threads.Thread.{Thread}

-- the hart and the words of memory, before and after an instruction of this kind, and the answer
abbrev pub Does : List Region → (t t' : Thread) (u u' : ℕ → Content) → Kind Pair → Did → Type 0
Does regions t t' u u' kind did = IsDone (answered (thread_does regions (meant t) kind) u) t t' u u' did

-- the same where no word has a part in it, over any memory
abbrev pub DoesAlone : (t t' : Thread) → Kind Pair → Did → Type 0
DoesAlone t t' kind did = (regions : List Region) (u : ℕ → Content) → Does regions t t' u u kind did

-- words of these kinds write no memory and ask for nothing
abbrev pub is_quick : Kind Pair → Bool
is_quick (Sets rd value) = true
is_quick (Computes i) = true
is_quick (Loads i) = true
is_quick (CallsTo to) = true
is_quick (JumpsTo to) = true
is_quick (Branches i to) = is_branch i.op
is_quick _ = false

-- an instruction of this kind does not go on to the next: it traps, or uses a return address as data
abbrev pub Stops : List Region → (t : Thread) → (u : ℕ → Content) → Kind Pair → Type 0
Stops regions t u kind = (t' : Thread) → Does regions t t' u u kind (Went None) → ⊥
