-- SPDX-License-Identifier: Apache-2.0
-- What an instruction that stores nothing leaves where it is not done: nothing has changed.
use Rattle.std.proofs.Common.{◌≡◌, ℕ, List, Bool, true, false, subst, ap, sym, ◌∙◌}
use Rattle.std.specs.Bool.{OnFalse, OnTrue}
use Rattle.std.specs.Prelude.{◌==◌, ◌&&◌, ◌/◌, ◌%◌, None, slice_index, if◌then◌else◌}
use Rattle.rv_table.specs.Operands.{both_ra, plus_imm, reads_ra, width_of}
use Rattle.rv_table.specs.declared.instructions.Instr.{Instr}
use Rattle.sh_machines.specs.Kind.{Kind, Branches, Computes, Loads}
use Rattle.sh_machines.specs.Memory.{readable}
use Rattle.sh_machines.specs.Need.{Need, Outcome, Goes, Puts, Calls, Quits, Traps, Leaks, answered}
use Rattle.sh_machines.specs.Unmoved as unmoved
use Rattle.sh_machines.specs.Unmoved.{Content, Number, Return, is_return, load_content, thread_does}
use Rattle.sh_types.specs.declared.code.Pair.{Pair}
use Rattle.sh_types.specs.declared.code.Region.{Region}
use Rattle.thread_acts.specs.Done.{did_of, meant, thread_after}
use Rattle.thread_acts.specs.declared.answers.Did.{Did}
use Rattle.thread_acts.specs.declared.answers.Did.TheVariants.{Went}
use Rattle.thread_acts.specs.declared.threads.Thread.{Thread}
use Rattle.thread_step.specs.Doing.{Does, DoesAlone, Stops}
use Rattle.thread_step.specs.Task.{kind_of}
use Rattle.thread_step.specs.declared.tasks.Task.{Task}
use Rattle.sh_types.specs.declared.code.Image.{Image}

-- no word is written
abbrev IsLight : Outcome unmoved.Thread Content → Type 0
IsLight (Puts t w c stored) = ⊥
IsLight _ = Unit {0}

-- the code's hart that has this meaning
abbrev back : unmoved.Thread → Thread
back t = record { number = t.number; live = t.live; code = t.code; at = t.at; regs = t.regs; ra = t.ra; reserved = t.reserved }

same_thread : (t t' : Thread) → meant t' ≡ meant t → t' ≡ t
same_thread t t' e = ap back e

light_stays : (x : Outcome unmoved.Thread Content) (t t' : Thread) (did : Did) → IsLight x → did ≡ did_of x → meant t' ≡ thread_after x (meant t) → (did ≡ Went None → ⊥) → t' ≡ t
light_stays (Goes h) t t' did light d m not = absurd (not d)
light_stays (Puts h w c stored) t t' did light d m not = absurd light
light_stays Calls t t' did light d m not = same_thread t t' m
light_stays Quits t t' did light d m not = same_thread t t' m
light_stays (Traps kind value) t t' did light d m not = same_thread t t' m
light_stays Leaks t t' did light d m not = same_thread t t' m

light_if : (b : Bool) (n n' : Need unmoved.Thread Content) (u : ℕ → Content) → IsLight (answered n u) → IsLight (answered n' u) → IsLight (answered (if b then n else n') u)
light_if true n n' u p q = p
light_if false n n' u p q = q

light_load : (t : unmoved.Thread) (i : Instr) (a : ℕ) (c : Content) → IsLight (load_content t i a c)
light_load t i a (Number v) = tt
light_load t i a (Return hart to) = tt

-- what an instruction of a kind leaves that writes no word
stays_by : (regions : List Region) (t t' : Thread) (k : Kind Pair) (u : ℕ → Content) (did : Did) → IsLight (answered (thread_does regions (meant t) k) u) → Does regions t t' u u k did → (did ≡ Went None → ⊥) → t' ≡ t
stays_by regions t t' k u did light d not = light_stays (answered (thread_does regions (meant t) k) u) t t' did light d.did_is d.thread not

pub computes_stays : (regions : List Region) (t t' : Thread) (i : Instr) (u : ℕ → Content) (did : Did) → Does regions t t' u u (Computes i) did → (did ≡ Went None → ⊥) → t' ≡ t
computes_stays regions t t' i u did = stays_by regions t t' (Computes i) u did (light_if (is_return t.ra && reads_ra i) _ _ u tt tt)

pub branches_stays : (regions : List Region) (t t' : Thread) (i : Instr) (to : Pair) (u : ℕ → Content) (did : Did) → Does regions t t' u u (Branches i to) did → (did ≡ Went None → ⊥) → t' ≡ t
branches_stays regions t t' i to u did = stays_by regions t t' (Branches i to) u did (light_if (is_return t.ra && both_ra i) _ _ u tt tt)

pub loads_stays : (regions : List Region) (t t' : Thread) (i : Instr) (u : ℕ → Content) (did : Did) → Does regions t t' u u (Loads i) did → (did ≡ Went None → ⊥) → t' ≡ t
loads_stays regions t t' i u did =
    let a = plus_imm (slice_index t.regs i.rs1) i.imm in
    stays_by regions t t' (Loads i) u did
    (light_if (is_return t.ra && (i.rs1 == 1)) _ _ u tt
    (light_if (a % width_of i.op == 0) _ _ u (light_if (readable regions a (width_of i.op)) _ _ u (light_load (meant t) i a (u (a / 8))) tt) tt))

-- an instruction that went so
pub does_went : (regions : List Region) (t t' : Thread) (u u' : ℕ → Content) (k : Kind Pair) (did : Did) → did ≡ Went None → Does regions t t' u u' k did → Does regions t t' u u' k (Went None)
does_went regions t t' u u' k did e d = subst (λ x. Does regions t t' u u' k x) e d

-- answers of yes and no
pub on_true : (b : Bool) (P Q : Type 0) → OnTrue b P → (P → Q) → OnTrue b Q
on_true true P Q p f = f p
on_true false P Q p f = tt

pub on_false : (b : Bool) (P Q : Type 0) → OnFalse b P → (P → Q) → OnFalse b Q
on_false true P Q p f = tt
on_false false P Q p f = f p

pub alone_went : (t t' : Thread) (k : Kind Pair) (did : Did) → did ≡ Went None → DoesAlone t t' k did → DoesAlone t t' k (Went None)
alone_went t t' k did e d = subst (λ x. DoesAlone t t' k x) e d

-- an instruction that came to anything else does not go on
pub stops : (regions : List Region) (t t' : Thread) (u : ℕ → Content) (k : Kind Pair) (did : Did) → (did ≡ Went None → ⊥) → Does regions t t' u u k did → Stops regions t u k
stops regions t t' u k did not d h went = not (d.did_is ∙ sym went.did_is)

pub alone_stops : (t t' : Thread) (k : Kind Pair) (did : Did) → (did ≡ Went None → ⊥) → DoesAlone t t' k did → (regions : List Region) (u : ℕ → Content) → Stops regions t u k
alone_stops t t' k did not d regions u = stops regions t t' u k did not (d regions u)

pub task_stops : (regions : List Region) (t : Thread) (u : ℕ → Content) (image : Image) (p : Pair) (task given : Task) → task ≡ given → Stops regions t u (kind_of image p given) → Stops regions t u (kind_of image p task)
task_stops regions t u image p task given e = subst (λ x. Stops regions t u (kind_of image p x)) (sym e)
