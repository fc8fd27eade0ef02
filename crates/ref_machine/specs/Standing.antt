-- SPDX-License-Identifier: Apache-2.0
-- A machine as contracts see it. This project's own.
use Rattle.std.specs.Prelude.{◌≡◌, ℕ, ◌+◌, ◌≤◌, Option, List, ◌++◌, length, drop, vec_capacity}
use Rattle.sh_types.specs.declared.code.Image.{Image}
use Rattle.sh_types.specs.declared.runs.End.{End}
use Rattle.sh_types.specs.Limits.{most_harts}
use Rattle.sh_machines.specs.Unmoved.{Unmoved, unmoved_from, unmoved_start, unmoved_run}
use Rattle.thread_acts.specs.declared.threads.Thread.{Thread}
use Rattle.ref_machine.specs.declared.state.State.{State}
use Rattle.plain_memory.specs.declared.memory.PlainMemory.{PlainMemory}
use Rattle.ref_machine.specs.Meant.{IsCode, IsMapped, IsSound, state_of, threads_of}
use Rattle.plain_memory.specs.Plain.{contents_of, regions_of}

-- the image, and what the machine holds
pub record Held : Type 0 where
  pub image : Image
  pub memory : PlainMemory
  pub threads : List Thread
  -- the input that was not read yet
  pub unread : List ℕ
  pub output : List ℕ
  pub count : ℕ
  pub end : Option End

-- where a run of the image stands: its state, and how many instructions were executed
pub record Run : Type 0 where
  pub image : Image
  pub state : Unmoved
  pub count : ℕ

abbrev pub run_of : Held → Run
run_of h =
    record {
      image = h.image;
      state = record { threads = threads_of h.threads; contents = contents_of h.memory; unread = h.unread; output = h.output; end = h.end };
      count = h.count;
    }

-- before the first instruction
abbrev pub opening : Image → (input : List ℕ) → Run
opening i input = record { image = i; state = unmoved_start i input; count = 0 }

-- after the unmoved run of a list from there
abbrev pub whole : Image → (input ns : List ℕ) → Run
whole i input ns = record { image = i; state = unmoved_run i input ns; count = length ns }

-- once the instructions of a list were executed
abbrev pub after : List ℕ → Run → Run
after ns r = record { image = r.image; state = unmoved_from r.image ns r.state; count = r.count + length ns }

-- once the first instructions of a list were
pub record IsPart (all : List ℕ) (r r' : Run) : Type 0 where
  pub first : List ℕ
  pub rest : List ℕ
  pub is : first ++ rest ≡ all
  pub run : r' ≡ after first r

-- what holds of the fields
pub record IsPlain (image : Image) (s : State) (m : PlainMemory) : Type 0 where
  pub code : IsCode image
  pub mapped : IsMapped image (regions_of m)
  pub sound : IsSound (state_of s (contents_of m))
  pub room : most_harts ≤ vec_capacity s.threads
