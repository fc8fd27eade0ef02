-- SPDX-License-Identifier: Apache-2.0
-- What environment calls leave, as the code does them.
use Rattle.std.proofs.Common.{◌≡◌, ℕ, zero, suc, ◌+◌, true, Option, Some, None, List, [], ◌∷◌, ◌++◌, length, take, drop, refl, sym, ap, ◌∙◌, append-nil, arith}
use Rattle.std.specs.Prelude.{map, slice_set}
use Rattle.sh_types.specs.declared.code.CodeRef.TheVariants.{Root}
use Rattle.sh_types.specs.declared.runs.End.{End}
use Rattle.sh_types.specs.Place.{pair}
use Rattle.sh_machines.specs.Need.{stored_at}
use Rattle.sh_machines.specs.Unmoved as unmoved
use Rattle.sh_machines.specs.Unmoved.{Content, Unmoved, leaves, set_thread, start_regs, threads_lose, filled}
use Rattle.thread_acts.specs.Done.{meant}
use Rattle.thread_acts.specs.declared.threads.Thread.{Thread}
use Rattle.std.specs.Vec.{with_items}
use Rattle.std.proofs.lemmas.List.{drop-drop}
use Rattle.sh_law.proofs.Lists.{length_map}
use Rattle.ref_machine.specs.declared.asking.Answer.TheVariants as answer
use Rattle.ref_machine.specs.declared.state.State.{State}
use Rattle.ref_machine.specs.Calling.{acted}
use Rattle.ref_machine.specs.Losing.{loses}
use Rattle.ref_machine.specs.Meant.{state_of, threads_of}
use Rattle.ref_machine.specs.Next.{lost}
use Rattle.ref_machine.proofs.Ending.{with_end, lost_is}
use Rattle.ref_machine.proofs.Threads.{threads_set, threads_more}

-- the hart with the answer in a0, behind the call
abbrev replying : Thread → ℕ → Thread
replying t v = record { number = t.number; live = t.live; code = t.code; at = pair t.at.func (t.at.off + 4); regs = slice_set t.regs 10 v; ra = t.ra; reserved = t.reserved }

pub replied : (s : State) (n v : ℕ) (t : Thread) (x : ℕ → Content) → s.end ≡ None → with_end s (threads_of (slice_set s.threads.items n (replying t v))) x s.output.items s.end ≡ leaves (state_of s x) (slice_set (threads_of s.threads.items) n (set_thread (meant t) 10 v)) x (drop s.read s.input) [] None
replied s n v t x e =
    ap (λ ts. with_end s ts x s.output.items s.end) (threads_set s.threads.items n (replying t v))
    ∙ ap (λ out. with_end s (slice_set (threads_of s.threads.items) n (set_thread (meant t) 10 v)) x out s.end) (sym (append-nil s.output.items))
    ∙ ap (with_end s (slice_set (threads_of s.threads.items) n (set_thread (meant t) 10 v)) x (s.output.items ++ [])) e

-- the hart that is started
abbrev begun : (number func : ℕ) → List ℕ → Thread
begun number f regs = record { number = number; live = true; code = 0; at = pair f 0; regs = regs; ra = Some Root; reserved = None }

abbrev with_more : Unmoved → unmoved.Thread → Unmoved
with_more u t = record { threads = u.threads ++ t ∷ []; contents = u.contents; unread = u.unread; output = u.output; end = u.end }

pub started : (s r : State) (n v number f a0 sp tp : ℕ) (t : Thread) (regs : List ℕ) (x : ℕ → Content) (ts : List Thread) → ts ≡ r.threads.items ++ begun number f regs ∷ [] → v ≡ number → number ≡ length s.threads.items → regs ≡ start_regs a0 sp tp → state_of r x ≡ leaves (state_of s x) (slice_set (threads_of s.threads.items) n (set_thread (meant t) 10 v)) x (drop s.read s.input) [] None → with_end r (threads_of ts) x r.output.items r.end ≡ acted n (meant t) (answer.Starts f a0 sp tp) (state_of s x)
started s r n v number f a0 sp tp t regs x ts ets ev en er e =
    let replies : ℕ → Unmoved = λ k. leaves (state_of s x) (slice_set (threads_of s.threads.items) n (set_thread (meant t) 10 k)) x (drop s.read s.input) [] None in
    let k : number ≡ length (threads_of s.threads.items) = en ∙ sym (length_map meant s.threads.items) in
    ap (λ ys. with_end r ys x r.output.items r.end) (ap threads_of ets ∙ threads_more r.threads.items (begun number f regs))
    ∙ ap (λ u. with_more u (meant (begun number f regs))) (e ∙ ap replies ev)
    ∙ ap (λ j. with_more (replies j) (meant (begun j f regs))) k
    ∙ ap (λ rs. with_more (replies (length (threads_of s.threads.items))) (meant (begun (length (threads_of s.threads.items)) f rs))) er

pub read_is : (s r : State) (n a k : ℕ) (t : Thread) (x x' : ℕ → Content) (left : List ℕ) (ts old : List Thread) → ts ≡ map (loses n (stored_at a k)) old → old ≡ r.threads.items → left ≡ drop s.read s.input → x' ≡ filled a (take k left) x → state_of r x' ≡ leaves (state_of s x') (slice_set (threads_of s.threads.items) n (set_thread (meant t) 10 k)) x' (drop (s.read + k) s.input) [] None → with_end r (threads_of (with_items r.threads ts).items) x' r.output.items r.end ≡ acted n (meant t) (answer.Reads a k) (state_of s x)
read_is s r n a k t x x' left ts old ets eo el ex e =
    let threads : List unmoved.Thread = threads_lose n (Some (stored_at a k)) (slice_set (threads_of s.threads.items) n (set_thread (meant t) 10 k)) in
    lost_is r n (stored_at a k) x' ts old ets eo
    ∙ ap (lost n (Some (stored_at a k))) e
    ∙ ap (λ un. record { threads = threads; contents = x'; unread = un; output = s.output.items ++ []; end = None }) (sym (drop-drop k s.read s.input))
    ∙ ap (λ y. record { threads = threads; contents = y; unread = drop k (drop s.read s.input); output = s.output.items ++ []; end = None }) (ex ∙ ap (λ v. filled a (take k v) x) el)
