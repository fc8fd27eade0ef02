-- SPDX-License-Identifier: Apache-2.0
-- The walk: the least point that has a state and was not examined is examined next. This project's own.
use Rattle.std.specs.Prelude.{◌≡◌, ℕ, zero, suc, ◌+◌, ◌<◌, ◌⊎◌, IsSome, Bool, Option, Some, None, List, [], ◌∷◌, replicate, slice_index_or, slice_set, nat_lt, if◌then◌else◌, length}
use Rattle.std.specs.Ordering.{nat_cmp}
use Rattle.std.specs.BTreeSet.{insert_key}
use Rattle.sh_machines.specs.Fit.{Next}
use Rattle.sh_machines.specs.Fit.{Refuses, Leads}

-- the states so far, and the points below n that have a state and were not examined, rising
pub record Walk (S : Type 0) : Type 0 where
  pub table : List (Option S)
  pub waiting : List ℕ

-- how a turn comes out: the walk goes on, it ends with its table, or it fails at a word by a rule
pub data Turn (S R : Type 0) : Type 0 where
  Goes : (walk : Walk S) → Turn S R
  Ends : (table : List (Option S)) → Turn S R
  Fails : (at : ℕ) → (rule : R) → Turn S R

-- the state that the table has
abbrev pub state_at : {S : Type 0} → List (Option S) → ℕ → Option S
state_at table p = slice_index_or table p None

-- the point joins those that wait, where it is below n
abbrev pub wait : ℕ → ℕ → List ℕ → List ℕ
wait n p waiting = if nat_lt p n then insert_key nat_cmp waiting p else waiting

-- a turn after a turn, where the walk goes on
abbrev pub carry : {S R : Type 0} → (Walk S → Turn S R) → Turn S R → Turn S R
carry f (Goes w) = f w
carry f (Ends table) = Ends table
carry f (Fails at rule) = Fails at rule

module _ {S R : Type 0} (same : S → S → Bool) (join : R) (n : ℕ) where
  -- the state at the point, which has the state had
  abbrev pub put_over : S → ℕ → Walk S → Option S → Turn S R
  put_over s p w None = Goes (record { table = slice_set w.table p (Some s); waiting = wait n p w.waiting })
  put_over s p w (Some t) = if same t s then Goes w else Fails p join

  -- the state at a word
  abbrev pub put : S → ℕ → Walk S → Turn S R
  put s p w = put_over s p w (state_at w.table p)

  -- the state at each of the points, in order
  abbrev pub put_all : S → List ℕ → Walk S → Turn S R
  put_all s [] w = Goes w
  put_all s (p ∷ ps) w = carry (put_all s ps) (put s p w)

  -- what the word leads to
  abbrev pub follow : ℕ → Walk S → Next S R → Turn S R
  follow o w (Refuses rule) = Fails o rule
  follow o w (Leads s ps) = put_all s ps w

module _ {S R : Type 0} (same : S → S → Bool) (join : R) (n : ℕ) (next : ℕ → S → Next S R) where
  -- the word in its state
  abbrev pub examine_in : ℕ → Walk S → Option S → Turn S R
  examine_in o w None = Goes w
  examine_in o w (Some s) = follow same join n o w (next o s)

  -- the point is examined
  abbrev pub examine : ℕ → Walk S → Turn S R
  examine o w = examine_in o w (state_at w.table o)

  -- the first that waits is examined
  abbrev pub turn_of : List (Option S) → List ℕ → Turn S R
  turn_of table [] = Ends table
  turn_of table (o ∷ rest) = examine o (record { table = table; waiting = rest })

  -- one turn
  abbrev pub turn : Walk S → Turn S R
  turn w = turn_of w.table w.waiting

module _ {S R : Type 0} (same : S → S → Bool) (join : R) (n : ℕ) (first : S) (next : ℕ → S → Next S R) where
  -- after k examinations
  unfoldable pub walked : ℕ → Turn S R
  walked zero = Goes (record { table = slice_set (replicate (n + 1) None) 0 (Some first); waiting = wait n 0 [] })
  walked (suc k) = carry (turn same join n next) (walked k)

-- the point is in the list
abbrev pub Has : List ℕ → ℕ → Type 0
Has [] x = ⊥
Has (y ∷ ys) x = (y ≡ x) ⊎ Has ys x

-- each is greater
abbrev pub Above : ℕ → List ℕ → Type 0
Above x [] = Unit {0}
Above x (y ∷ ys) = (x < y) × Above x ys

-- in rising order
abbrev pub Rising : List ℕ → Type 0
Rising [] = Unit {0}
Rising (x ∷ xs) = Above x xs × Rising xs

-- the point that the next turn examines, before those seen
abbrev pub head_in : List ℕ → List ℕ → List ℕ
head_in [] seen = seen
head_in (o ∷ rest) seen = o ∷ seen

-- the point that the turn after this one examines, before those seen
abbrev pub head_of : {S R : Type 0} → Turn S R → List ℕ → List ℕ
head_of (Goes w) seen = head_in w.waiting seen
head_of (Ends table) seen = seen
head_of (Fails at rule) seen = seen

module _ {S R : Type 0} (same : S → S → Bool) (join : R) (n : ℕ) (first : S) (next : ℕ → S → Next S R) where
  -- the points that the first k turns examined
  unfoldable pub seen : ℕ → List ℕ
  seen zero = []
  seen (suc k) = head_of (walked same join n first next k) (seen k)

-- the points that wait are those below n that have a state and were not examined, each once, rising
pub record IsInOrder {S : Type 0} (n : ℕ) (seen : List ℕ) (w : Walk S) : Type 0 where
  pub long : length w.table ≡ n + 1
  pub rising : Rising w.waiting
  pub waits : (o : ℕ) → Has w.waiting o → (o < n) × IsSome (state_at w.table o) × (Has seen o → ⊥)
  pub every : (o : ℕ) → o < n → IsSome (state_at w.table o) → (Has seen o → ⊥) → Has w.waiting o
  pub seen_some : (o : ℕ) → Has seen o → IsSome (state_at w.table o)
