-- SPDX-License-Identifier: Apache-2.0
-- That an instruction was done, where its kind is known otherwise, and where it only traps or calls.
use Rattle.std.proofs.Common.{◌≡◌, ℕ, List, true, false, refl, sym, ap, subst}
use Rattle.std.specs.Prelude.{Result, IfOk, ◌&&◌, slice_index}
use Rattle.rv_table.specs.Arithmetic.{is_branch}
use Rattle.rv_table.specs.Operands.{both_ra}
use Rattle.rv_table.specs.declared.instructions.Instr.{Instr}
use Rattle.sh_machines.specs.Need.{answered}
use Rattle.sh_machines.specs.Kind.{Kind, Asks, Branches, Breaks, Illegal, Passes, Past}
use Rattle.sh_machines.specs.Unmoved.{Content, is_return, thread_does}
use Rattle.sh_types.specs.declared.code.Image.{Image}
use Rattle.sh_types.specs.declared.code.Pair.{Pair}
use Rattle.sh_types.specs.declared.code.Region.{Region}
use Rattle.sh_types.specs.declared.runs.NoMemory.{NoMemory}
use Rattle.sh_types.specs.declared.runs.Trap.TheVariants as trap
use Rattle.thread_acts.specs.Done.{IsDone, meant}
use Rattle.thread_acts.specs.declared.answers.Did.{Did}
use Rattle.thread_acts.specs.declared.answers.Did.TheVariants.{Call, Leak, Trapped}
use Rattle.thread_acts.specs.declared.threads.Thread.{Thread}
use Rattle.thread_step.specs.Doing.{Does, DoesAlone}
use Rattle.thread_step.specs.Task.{kind_of}
use Rattle.thread_step.specs.declared.tasks.Task.{Task}
use Rattle.thread_step.proofs.Grouping.{never_taken}

-- by an equal kind
pub ok_as : (regions : List Region) (t t' : Thread) (u u' : ℕ → Content) (r : Result Did NoMemory) (k k' : Kind Pair) → k' ≡ k → IfOk r (λ did. Does regions t t' u u' k did) → IfOk r (λ did. Does regions t t' u u' k' did)
ok_as regions t t' u u' r k k' e d = subst (λ x. IfOk r (λ did. Does regions t t' u u' x did)) (sym e) d

-- by an equal task
pub does_task : (image : Image) (p : Pair) (s s' : Task) (regions : List Region) (t t' : Thread) (u u' : ℕ → Content) (did : Did) → s ≡ s' → Does regions t t' u u' (kind_of image p s') did → Does regions t t' u u' (kind_of image p s) did
does_task image p s s' regions t t' u u' did e d = subst (λ x. Does regions t t' u u' (kind_of image p x) did) (sym e) d

pub alone_task : (image : Image) (p : Pair) (s s' : Task) (t t' : Thread) (did : Did) → s ≡ s' → DoesAlone t t' (kind_of image p s') did → DoesAlone t t' (kind_of image p s) did
alone_task image p s s' t t' did e d = subst (λ x. DoesAlone t t' (kind_of image p x) did) (sym e) d

pub ok_task : (image : Image) (p : Pair) (s s' : Task) (regions : List Region) (t t' : Thread) (u u' : ℕ → Content) (r : Result Did NoMemory) → s ≡ s' → IfOk r (λ did. Does regions t t' u u' (kind_of image p s') did) → IfOk r (λ did. Does regions t t' u u' (kind_of image p s) did)
ok_task image p s s' regions t t' u u' r e d = ok_as regions t t' u u' r (kind_of image p s') (kind_of image p s) (ap (λ x. kind_of image p x) e) d

-- what changes nothing
pub asks_alone : (t : Thread) (k : Kind Pair) → k ≡ Asks → DoesAlone t t k Call
asks_alone t k e = λ regions u. rw e (record { did_is = refl; thread = refl; contents = refl })

pub breaks_alone : (t : Thread) (k : Kind Pair) (did : Did) → k ≡ Breaks → did ≡ Trapped trap.Breakpoint 0 → DoesAlone t t k did
breaks_alone t k did e d = λ regions u. rw (e, d) (record { did_is = refl; thread = refl; contents = refl })

pub illegal_alone : (t : Thread) (k : Kind Pair) (did : Did) → k ≡ Illegal → did ≡ Trapped trap.Illegal 0 → DoesAlone t t k did
illegal_alone t k did e d = λ regions u. rw (e, d) (record { did_is = refl; thread = refl; contents = refl })

pub past_alone : (t : Thread) (k : Kind Pair) (did : Did) → k ≡ Past → did ≡ Trapped trap.FellOff 0 → DoesAlone t t k did
past_alone t k did e d = λ regions u. rw (e, d) (record { did_is = refl; thread = refl; contents = refl })

-- what compares nothing leaks as a branch does, and else goes on
pub leak_alone : (t : Thread) (i : Instr) (to : Pair) → (is_return t.ra && both_ra i) ≡ true → DoesAlone t t (Branches i to) Leak
leak_alone t i to e = λ regions u. rw e (record { did_is = refl; thread = refl; contents = refl })

pub pass_alone : (t t' : Thread) (i : Instr) (to : Pair) (did : Did) → (is_return t.ra && both_ra i) ≡ false → is_branch i.op ≡ false → DoesAlone t t' Passes did → DoesAlone t t' (Branches i to) did
pass_alone t t' i to did e other d = λ regions u.
    let same : thread_does regions (meant t) (Branches i to) ≡ thread_does regions (meant t) Passes = rw (e, never_taken i.op (slice_index t.regs i.rs1) (slice_index t.regs i.rs2) other) refl in
    subst (λ need. IsDone (answered need u) t t' u u did) (sym same) (d regions u)
