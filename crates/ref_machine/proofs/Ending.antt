-- SPDX-License-Identifier: Apache-2.0
-- Instructions that end a hart or the run.
use Rattle.std.proofs.Common.{◌≡◌, ℕ, Bool, true, false, Option, Some, None, List, [], ◌++◌, length, drop, refl, sym, ap, ◌∙◌, append-nil}
use Rattle.std.specs.Prelude.{map, slice_get, slice_set}
use Rattle.sh_types.specs.declared.code.Image.{Image}
use Rattle.sh_types.specs.declared.runs.End.{End}
use Rattle.sh_types.specs.declared.runs.End.TheVariants as end
use Rattle.sh_types.specs.declared.runs.Stored.{Stored}
use Rattle.sh_machines.specs.Need.{Outcome}
use Rattle.sh_machines.specs.Unmoved.{Content, Unmoved, any_alive, end_if, first_answer, emptied, thread_ends, then_leaves, unmoved_step}
use Rattle.sh_machines.specs.Unmoved as unmoved
use Rattle.thread_acts.specs.Done.{meant}
use Rattle.thread_acts.specs.declared.threads.Thread.{Thread}
use Rattle.std.specs.Vec.{with_items}
use Rattle.std.proofs.lemmas.List.{with_items_is}
use Rattle.sh_law.proofs.Lists.{get_map, length_map}
use Rattle.ref_machine.specs.declared.state.State.{State}
use Rattle.ref_machine.specs.Losing.{loses}
use Rattle.ref_machine.specs.Meant.{state_of, threads_of}
use Rattle.ref_machine.specs.Next.{IsNext, lost}
use Rattle.ref_machine.proofs.Lost.{all_lose}
use Rattle.ref_machine.proofs.Steps.{done_by}
use Rattle.ref_machine.proofs.Threads.{threads_set}

-- the code has done what comes of the next instruction of the hart with this number
pub stopped_by : (i : Image) (n : ℕ) (s : State) (x : ℕ → Content) (u' : Unmoved) (t : Thread) (out : Outcome unmoved.Thread Content) → IsNext i n out (state_of s x) → slice_get s.threads.items n ≡ Some t → u' ≡ then_leaves i (state_of s x) n (meant t) out → u' ≡ unmoved_step i n (state_of s x)
stopped_by i n s x u' t out next e eu = done_by i n (state_of s x) u' (meant t) out next.can (get_map meant s.threads.items n t e) next.comes eu

-- the hart ended, and its return words are zeros
abbrev ended : Thread → ℕ → Thread
ended t exit = record { number = t.number; live = false; code = exit; at = t.at; regs = t.regs; ra = t.ra; reserved = t.reserved }

abbrev pub with_end : State → List unmoved.Thread → (ℕ → Content) → (out : List ℕ) → Option End → Unmoved
with_end s ts x out e = record { threads = ts; contents = x; unread = drop s.read s.input; output = out; end = e }

pub ended_is : (s : State) (n exit : ℕ) (t : Thread) (x x' : ℕ → Content) (e : Option End) → x' ≡ emptied t.number x → e ≡ end_if (any_alive (threads_of (slice_set s.threads.items n (ended t exit)))) (first_answer (threads_of (slice_set s.threads.items n (ended t exit)))) → with_end s (threads_of (slice_set s.threads.items n (ended t exit))) x' s.output.items e ≡ thread_ends (state_of s x) n (meant t) exit
ended_is s n exit t x x' e ex ee =
    ap (with_end s (threads_of (slice_set s.threads.items n (ended t exit))) x' s.output.items) ee
    ∙ ap (λ y. with_end s (threads_of (slice_set s.threads.items n (ended t exit))) y s.output.items (end_if (any_alive (threads_of (slice_set s.threads.items n (ended t exit)))) (first_answer (threads_of (slice_set s.threads.items n (ended t exit)))))) ex
    ∙ ap (λ ts. with_end s ts (emptied t.number x) s.output.items (end_if (any_alive ts) (first_answer ts))) (threads_set s.threads.items n (ended t exit))
    ∙ ap (λ out. with_end s (slice_set (threads_of s.threads.items) n (meant (ended t exit))) (emptied t.number x) out (end_if (any_alive (slice_set (threads_of s.threads.items) n (meant (ended t exit)))) (first_answer (slice_set (threads_of s.threads.items) n (meant (ended t exit)))))) (sym (append-nil s.output.items))

pub end_some : (live : Bool) (code : ℕ) → live ≡ true → None ≡ end_if live code
end_some live code e = ap (λ b. end_if b code) (sym e)

pub end_none : (live : Bool) (code : ℕ) → live ≡ false → Some (end.Exit code) ≡ end_if live code
end_none live code e = ap (λ b. end_if b code) (sym e)

-- a store has taken reservations of other harts
pub lost_is : (s : State) (n : ℕ) (stored : Stored) (x : ℕ → Content) (ts old : List Thread) → ts ≡ map (loses n stored) old → old ≡ s.threads.items → with_end s (threads_of (with_items s.threads ts).items) x s.output.items s.end ≡ lost n (Some stored) (state_of s x)
lost_is s n stored x ts old e eo =
    let is : ts ≡ map (loses n stored) s.threads.items = e ∙ ap (map (loses n stored)) eo in
    let many : length ts ≡ s.threads.len = ap length is ∙ length_map (loses n stored) s.threads.items ∙ sym s.threads.ok.0 in
    ap (λ (ys : List Thread). with_end s (threads_of ys) x s.output.items s.end) (with_items_is s.threads ts many ∙ is) ∙ ap (λ ys. with_end s ys x s.output.items s.end) (all_lose n stored s.threads.items)
