-- SPDX-License-Identifier: Apache-2.0
-- How far a run has come: instructions of one hart, and of the serial order. This project's own.
use Rattle.std.specs.Prelude.{◌≡◌, ℕ, ◌+◌, ◌-◌, ◌<◌, ◌≤◌, List, ◌++◌, length, replicate}
use Rattle.sh_types.specs.declared.code.Image.{Image}
use Rattle.sh_machines.specs.PlainSerial.{goes_for}
use Rattle.sh_machines.specs.Unmoved.{Unmoved, unmoved_from}

-- instructions of one hart have led from count c and state u on, to the limit at most; each could go
pub record Ran (i : Image) (n limit c : ℕ) (u : Unmoved) (c' : ℕ) (u' : Unmoved) : Type 0 where
  pub k : ℕ
  pub count : c' ≡ c + k
  pub few : c' ≤ limit
  pub state : u' ≡ unmoved_from i (replicate k n) u
  pub rest : goes_for i n (limit - c) u ≡ k + goes_for i n (limit - c') u'

-- and there was one at least
pub record RanOn (i : Image) (n limit c : ℕ) (u : Unmoved) (c' : ℕ) (u' : Unmoved) : Type 0 where
  pub ran : Ran i n limit c u c' u'
  pub more : c < c'

-- a whole turn, to the limit or as far as the hart can go
pub record IsTurn (i : Image) (n limit c : ℕ) (u : Unmoved) (c' : ℕ) (u' : Unmoved) : Type 0 where
  pub count : c' ≡ c + goes_for i n (limit - c) u
  pub state : u' ≡ unmoved_from i (replicate (goes_for i n (limit - c) u) n) u

-- memory was refused before the limit
pub record RanShort (i : Image) (n limit c : ℕ) (u : Unmoved) (c' : ℕ) (u' : Unmoved) : Type 0 where
  pub ran : Ran i n limit c u c' u'
  pub less : c' < limit

-- the instructions of a list were executed, from count c and state u on
pub record Listed (i : Image) (ns : List ℕ) (c : ℕ) (u : Unmoved) (c' : ℕ) (u' : Unmoved) : Type 0 where
  pub count : c' ≡ c + length ns
  pub state : u' ≡ unmoved_from i ns u

-- the first of them were
pub record ListedPart (i : Image) (all : List ℕ) (c : ℕ) (u : Unmoved) (c' : ℕ) (u' : Unmoved) : Type 0 where
  pub first : List ℕ
  pub rest : List ℕ
  pub is : first ++ rest ≡ all
  pub listed : Listed i first c u c' u'
