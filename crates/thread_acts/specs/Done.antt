-- SPDX-License-Identifier: Apache-2.0
-- What the code answers and leaves for an instruction that came out so. This project's own.
use Rattle.std.specs.Prelude.{◌≡◌, ℕ, None}
use Rattle.sh_machines.specs.Need.{Outcome, Goes, Puts, Calls, Quits, Traps, Leaks, words_after}
use Rattle.sh_machines.specs.Unmoved as unmoved
use Rattle.sh_machines.specs.Unmoved.{Content}
use Rattle.thread_acts.specs.declared.answers.Did.{Did}
use Rattle.thread_acts.specs.declared.answers.Did.TheVariants.{Went, Call, HartEnd, Trapped, Leak}
use Rattle.thread_acts.specs.declared.threads.Thread.{Thread}

-- the hart of the unmoved machine
abbrev pub meant : Thread → unmoved.Thread
meant t = record { number = t.number; live = t.live; code = t.code; at = t.at; regs = t.regs; ra = t.ra; reserved = t.reserved }

-- the answer for an outcome
abbrev pub did_of : Outcome unmoved.Thread Content → Did
did_of (Goes t) = Went None
did_of (Puts t w c stored) = Went stored
did_of Calls = Call
did_of Quits = HartEnd
did_of (Traps kind value) = Trapped kind value
did_of Leaks = Leak

-- the hart after an outcome
abbrev pub thread_after : Outcome unmoved.Thread Content → unmoved.Thread → unmoved.Thread
thread_after (Goes t') t = t'
thread_after (Puts t' w c stored) t = t'
thread_after Calls t = t
thread_after Quits t = t
thread_after (Traps kind value) t = t
thread_after Leaks t = t

-- the instruction of a hart came out so, and the code has done it: what it answers, the hart and the words after it
pub record IsDone (x : Outcome unmoved.Thread Content) (t t' : Thread) (u u' : ℕ → Content) (did : Did) : Type 0 where
  pub did_is : did ≡ did_of x
  pub thread : meant t' ≡ thread_after x (meant t)
  pub contents : u' ≡ words_after x u
