-- SPDX-License-Identifier: Apache-2.0
-- Environment calls, as the code does them. This project's own.
use Rattle.std.specs.Prelude.{◌≡◌, ℕ, ◌<◌, ◌≤◌, Bool, true, Option, Some, None, IsSome, List, [], ◌∷◌, ◌++◌, length, map, take, drop, slice_set}
use Rattle.sh_types.specs.declared.code.Image.{Image}
use Rattle.sh_types.specs.declared.code.Region.{Region}
use Rattle.sh_types.specs.declared.runs.End.TheVariants as end
use Rattle.sh_types.specs.Limits.{most_harts}
use Rattle.sh_machines.specs.Environment as defined
use Rattle.sh_machines.specs.Environment.{Answers, Reads, Starts, ExitsHart, ExitsRun, LeaksWord, call_of}
use Rattle.sh_machines.specs.Memory.{bytes_from, writable}
use Rattle.sh_machines.specs.Need.{stored_at}
use Rattle.sh_machines.specs.Unmoved as unmoved
use Rattle.sh_machines.specs.Unmoved.{Unmoved, leaves, set_thread, new_thread, threads_lose, filled, thread_ends, stands_still, thread_asks}
use Rattle.guest_calls.specs.declared.CallDid.{CallDid}
use Rattle.guest_calls.specs.declared.CallDid.TheVariants as did
use Rattle.guest_calls.specs.Seen as seen
use Rattle.guest_calls.specs.Seen.{Seen, Put, put}
use Rattle.plain_memory.specs.Access.{plain_in}
use Rattle.thread_acts.specs.declared.threads.Thread.{Thread}
use Rattle.ref_machine.specs.declared.asking.Answer.{Answer}
use Rattle.ref_machine.specs.declared.asking.Answer.TheVariants as answer
use Rattle.ref_machine.specs.declared.asking.Begun.{Begun}
use Rattle.ref_machine.specs.declared.asking.Taken.{Taken}

-- ---- what calls see

abbrev pub stored_of : Option Taken → List Put
stored_of None = []
stored_of (Some t) = put t.by t.address t.length ∷ []

abbrev pub begun_by : Begun → seen.Begun
begun_by b = record { by = b.by; func = b.func; a0 = b.argument; sp = b.stack; tp = b.thread }

abbrev pub started_of : Option Begun → List seen.Begun
started_of None = []
started_of (Some b) = begun_by b ∷ []

-- the numbers in the words, once what was taken of the input is put
abbrev pub plain_after : Option Taken → List ℕ → (ℕ → Option ℕ) → ℕ → Option ℕ
plain_after None input plain = plain
plain_after (Some t) input plain = seen.filled t.address (take t.length input) plain

abbrev pub unread_after : Option Taken → List ℕ → List ℕ
unread_after None input = input
unread_after (Some t) input = drop t.length input

abbrev pub lives_of : List Thread → List Bool
lives_of ts = map (λ (t : Thread). t.live) ts

abbrev pub lives_with : List Thread → Option Begun → List Bool
lives_with ts None = lives_of ts
lives_with ts (Some b) = lives_of ts ++ true ∷ []

-- the harts, what can be read and written, the numbers in the words, the rows, the input that was not read yet and the
-- output; what was taken of the input, and the hart that was started
abbrev pub seen_of : List Thread → List Region → (ℕ → Option ℕ) → (rows input output : List ℕ) → Option Taken → Option Begun → Seen
seen_of ts regions plain rows input output t b =
    record {
      regions = regions;
      rows = rows;
      lives = lives_with ts b;
      plain = plain_after t input plain;
      unread = unread_after t input;
      output = output;
      stored = stored_of t;
      started = started_of b;
    }

-- ---- what a call comes to

abbrev pub answer_for : defined.CallDid → Answer
answer_for (Answers v more) = answer.Value v
answer_for (Reads a bytes) = answer.Reads a (length bytes)
answer_for (Starts f a0 sp tp) = answer.Starts f a0 sp tp
answer_for (ExitsHart code) = answer.ExitsHart code
answer_for (ExitsRun code) = answer.ExitsRun code
answer_for LeaksWord = answer.Leaks

-- what the code takes a call for, by what it kept of it
abbrev pub answer_by : CallDid → Option Taken → Option Begun → Answer
answer_by (did.Answer v) (Some t) b = answer.Reads t.address t.length
answer_by (did.Answer v) None (Some b) = answer.Starts b.func b.argument b.stack b.thread
answer_by (did.Answer v) None None = answer.Value v
answer_by (did.ExitHart code) t b = answer.ExitsHart code
answer_by (did.ExitAll code) t b = answer.ExitsRun code
answer_by did.Leak t b = answer.Leaks

-- what joins the output
abbrev pub more_of : defined.CallDid → List ℕ
more_of (Answers v more) = more
more_of (Reads a bytes) = []
more_of (Starts f a0 sp tp) = []
more_of (ExitsHart code) = []
more_of (ExitsRun code) = []
more_of LeaksWord = []

-- what the hart's call comes to
abbrev pub call_at : Image → Unmoved → unmoved.Thread → defined.CallDid
call_at i u t = call_of i.regions i.rows (thread_asks u t)

-- so many bytes of the input that was not read can be put from an address on
pub record CanRead (regions : List Region) (u : Unmoved) (a n : ℕ) : Type 0 where
  pub writable : writable regions a n ≡ true
  pub plain : IsSome (bytes_from (plain_in u.contents) a n)
  pub few : n ≤ length u.unread

abbrev pub CanAct : List Region → Unmoved → Answer → Type 0
CanAct regions u (answer.Value v) = Unit {0}
CanAct regions u (answer.Reads a n) = CanRead regions u a n
CanAct regions u (answer.Starts f a0 sp tp) = length u.threads < most_harts
CanAct regions u (answer.ExitsHart code) = Unit {0}
CanAct regions u (answer.ExitsRun code) = Unit {0}
CanAct regions u answer.Leaks = Unit {0}

-- what the call leaves, after what it wrote has joined the output
abbrev pub acted : ℕ → unmoved.Thread → Answer → Unmoved → Unmoved
acted n t (answer.Value v) u = leaves u (slice_set u.threads n (set_thread t 10 v)) u.contents u.unread [] None
acted n t (answer.Reads a k) u =
    leaves u (threads_lose n (Some (stored_at a k)) (slice_set u.threads n (set_thread t 10 k))) (filled a (take k u.unread) u.contents) (drop k u.unread) [] None
acted n t (answer.Starts f a0 sp tp) u =
    leaves u (slice_set u.threads n (set_thread t 10 (length u.threads)) ++ new_thread (length u.threads) f a0 sp tp ∷ []) u.contents u.unread [] None
acted n t (answer.ExitsHart code) u = thread_ends u n t code
acted n t (answer.ExitsRun code) u = stands_still u (end.Exit code)
acted n t answer.Leaks u = stands_still u (end.Leak n t.at)

-- the state with another output
abbrev pub with_output : Unmoved → List ℕ → Unmoved
with_output u out = record { threads = u.threads; contents = u.contents; unread = u.unread; output = out; end = u.end }
