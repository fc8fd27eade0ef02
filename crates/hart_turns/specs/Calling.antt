-- SPDX-License-Identifier: Apache-2.0
-- Environment calls, as the machine does them. This project's own.
use Rattle.std.specs.Prelude.{◌≡◌, ℕ, ◌<◌, ◌≤◌, Bool, true, Option, Some, None, IsSome, List, [], ◌∷◌, ◌++◌, length, map, take, drop, slice_set}
use Rattle.sh_types.specs.declared.code.Region.{Region}
use Rattle.sh_types.specs.declared.runs.End.TheVariants as end
use Rattle.sh_types.specs.declared.runs.Hart.{Hart}
use Rattle.sh_machines.specs.Environment as defined
use Rattle.sh_machines.specs.Environment.{Answers, Reads, Starts, ExitsHart, ExitsRun, LeaksWord, Request, call_of}
use Rattle.sh_types.specs.Image.{sizes_of}
use Rattle.sh_types.specs.Limits.{most_harts}
use Rattle.sh_machines.specs.Memory.{bytes_from, writable}
use Rattle.sh_machines.specs.Need.{stored_at}
use Rattle.sh_machines.specs.Shuffled.{Setting, Shuffled, left, set_hart, hart_ends, stopped, pair_of, harts_lose, fills, new_hart, plain_value, hart_asks}
use Rattle.guest_calls.specs.declared.CallDid.{CallDid}
use Rattle.guest_calls.specs.declared.CallDid.TheVariants as did
use Rattle.guest_calls.specs.Seen.{Seen, Put, put, filled}
use Rattle.guest_calls.specs.Seen as seen
use Rattle.hart_turns.specs.declared.asking.Answer.{Answer}
use Rattle.hart_turns.specs.declared.asking.Answer.TheVariants as answer
use Rattle.hart_turns.specs.declared.asking.Begun.{Begun}
use Rattle.hart_turns.specs.declared.asking.Taken.{Taken}

-- ---- what calls see

abbrev pub stored_of : Option Taken → List Put
stored_of None = []
stored_of (Some t) = put t.by t.address t.length ∷ []

abbrev pub begun_by : Begun → seen.Begun
begun_by b = record { by = b.by; func = b.func; a0 = b.argument; sp = b.stack; tp = b.thread }

abbrev pub started_of : Option Begun → List seen.Begun
started_of None = []
started_of (Some b) = begun_by b ∷ []

-- the numbers in the words, once what was taken of the input is put
abbrev pub plain_after : Option Taken → List ℕ → (ℕ → Option ℕ) → ℕ → Option ℕ
plain_after None input plain = plain
plain_after (Some t) input plain = filled t.address (take t.length input) plain

abbrev pub unread_after : Option Taken → List ℕ → List ℕ
unread_after None input = input
unread_after (Some t) input = drop t.length input

abbrev pub lives_of : List Hart → List Bool
lives_of hs = map (λ (h : Hart). h.live) hs

abbrev pub lives_with : List Hart → Option Begun → List Bool
lives_with hs None = lives_of hs
lives_with hs (Some b) = lives_of hs ++ true ∷ []

-- the harts, what can be read and written, the numbers in the words, the rows, the input that was not read yet and the
-- output; what was taken of the input, and the hart that was started
abbrev pub seen_of : List Hart → List Region → (ℕ → Option ℕ) → (rows input output : List ℕ) → Option Taken → Option Begun → Seen
seen_of hs regions plain rows input output t b =
    record {
      regions = regions;
      rows = rows;
      lives = lives_with hs b;
      plain = plain_after t input plain;
      unread = unread_after t input;
      output = output;
      stored = stored_of t;
      started = started_of b;
    }

-- ---- what a call comes to

abbrev pub answer_for : defined.CallDid → Answer
answer_for (Answers v more) = answer.Value v
answer_for (Reads a bytes) = answer.Reads a (length bytes)
answer_for (Starts f a0 sp tp) = answer.Starts f a0 sp tp
answer_for (ExitsHart code) = answer.ExitsHart code
answer_for (ExitsRun code) = answer.ExitsRun code
answer_for LeaksWord = answer.Leaks

-- what the code takes a call for, by what it kept of it
abbrev pub answer_by : CallDid → Option Taken → Option Begun → Answer
answer_by (did.Answer v) (Some t) b = answer.Reads t.address t.length
answer_by (did.Answer v) None (Some b) = answer.Starts b.func b.argument b.stack b.thread
answer_by (did.Answer v) None None = answer.Value v
answer_by (did.ExitHart code) t b = answer.ExitsHart code
answer_by (did.ExitAll code) t b = answer.ExitsRun code
answer_by did.Leak t b = answer.Leaks

-- what joins the output
abbrev pub more_of : defined.CallDid → List ℕ
more_of (Answers v more) = more
more_of (Reads a bytes) = []
more_of (Starts f a0 sp tp) = []
more_of (ExitsHart code) = []
more_of (ExitsRun code) = []
more_of LeaksWord = []

-- what the hart's call comes to
abbrev pub call_at : Setting → Shuffled → Hart → defined.CallDid
call_at o s h = call_of o.image.regions o.image.rows (hart_asks s h)

abbrev pub plain_words : Shuffled → ℕ → Option ℕ
plain_words s w = plain_value (s.words w)

-- so many bytes of the input that was not read can be put from an address on
pub record CanRead (o : Setting) (s : Shuffled) (a n : ℕ) : Type 0 where
  pub writable : writable o.image.regions a n ≡ true
  pub plain : IsSome (bytes_from (plain_words s) a n)
  pub few : n ≤ length s.unread

-- a hart can be started at the function
pub record CanStart (o : Setting) (s : Shuffled) (f : ℕ) : Type 0 where
  pub func : f < length (sizes_of o.image)
  pub few : length s.harts < most_harts

abbrev pub CanAct : Setting → Shuffled → Answer → Type 0
CanAct o s (answer.Value v) = Unit {0}
CanAct o s (answer.Reads a n) = CanRead o s a n
CanAct o s (answer.Starts f a0 sp tp) = CanStart o s f
CanAct o s (answer.ExitsHart code) = Unit {0}
CanAct o s (answer.ExitsRun code) = Unit {0}
CanAct o s answer.Leaks = Unit {0}

-- what the call leaves, after what it wrote has joined the output
abbrev pub acted : Setting → ℕ → Hart → Answer → Shuffled → Shuffled
acted o n h (answer.Value v) s = left s (slice_set s.harts n (set_hart h 10 v)) s.words s.unread [] None
acted o n h (answer.Reads a k) s =
    left s (harts_lose n (Some (stored_at a k)) (slice_set s.harts n (set_hart h 10 k))) (fills a (take k s.unread) s.words) (drop k s.unread) [] None
acted o n h (answer.Starts f a0 sp tp) s =
    left s (slice_set s.harts n (set_hart h 10 (length s.harts)) ++ new_hart o h.layout (length s.harts) f a0 sp tp ∷ []) s.words s.unread [] None
acted o n h (answer.ExitsHart code) s = hart_ends s n h code
acted o n h (answer.ExitsRun code) s = stopped s (end.Exit code)
acted o n h answer.Leaks s = stopped s (end.Leak n (pair_of o h))

-- the state with another output
abbrev pub with_output : Shuffled → List ℕ → Shuffled
with_output s out =
    record { newest = s.newest; older = s.older; wiped = s.wiped; harts = s.harts; words = s.words; unread = s.unread; output = out; count = s.count; end = s.end }
