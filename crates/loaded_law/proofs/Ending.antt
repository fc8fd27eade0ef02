-- SPDX-License-Identifier: Apache-2.0
-- A walk that ends has a row for each word, and one for the point behind the last.
use Rattle.std.proofs.Common.{◌≡◌, ℕ, zero, suc, ◌+◌, Bool, Option, Some, None, List, [], ◌∷◌, length, replicate, ◌∙◌, subst, length-set}
use Rattle.std.proofs.lemmas.Bool.{cond_both}
use Rattle.std.proofs.lemmas.List.{length-replicate}
use Rattle.sh_types.specs.declared.code.FrameState.{FrameState}
use Rattle.sh_types.specs.declared.code.Rule.TheVariants.{Join}
use Rattle.sh_machines.specs.Fit.{Next, Refuses, Leads}
use Rattle.sh_machines.specs.Grammar.{Body, answer_of, at_entry, next_in, same_state}
use Rattle.sh_machines.specs.Walk.{Walk, Turn, Goes, Ends, Fails, carry, put_over, put, put_all, follow, examine_in, state_at, turn, turn_of, walked}

-- the table of a turn has so many rows
abbrev IsLong : {S R : Type 0} → ℕ → Turn S R → Type 0
IsLong m (Goes w) = length w.table ≡ m
IsLong m (Ends table) = length table ≡ m
IsLong m (Fails at rule) = Unit {0}

carry_long : {S R : Type 0} (m : ℕ) (f : Walk S → Turn S R) (x : Turn S R) → ((w : Walk S) → length w.table ≡ m → IsLong m (f w)) → IsLong m x → IsLong m (carry f x)
carry_long m f (Goes w) go h = go w h
carry_long m f (Ends table) go h = h
carry_long m f (Fails at rule) go h = tt

module _ {S R : Type 0} (same : S → S → Bool) (join : R) (n m : ℕ) where
  over_long : (s : S) (p : ℕ) (w : Walk S) (o : Option S) → length w.table ≡ m → IsLong m (put_over same join n s p w o)
  over_long s p w None h = length-set w.table p (Some s) ∙ h
  over_long s p w (Some t) h = cond_both (same t s) (Goes w) (Fails p join) (IsLong m) (λ e. h) (λ e. tt)

  all_long : (s : S) (ps : List ℕ) (w : Walk S) → length w.table ≡ m → IsLong m (put_all same join n s ps w)
  all_long s [] w h = h
  all_long s (p ∷ ps) w h =
      carry_long m (put_all same join n s ps) (put same join n s p w) (λ v g. all_long s ps v g) (over_long s p w (state_at w.table p) h)

  follow_long : (o : ℕ) (w : Walk S) (x : Next S R) → length w.table ≡ m → IsLong m (follow same join n o w x)
  follow_long o w (Refuses rule) h = tt
  follow_long o w (Leads s ps) h = all_long s ps w h

  module _ (next : ℕ → S → Next S R) where
    examine_long : (o : ℕ) (w : Walk S) (x : Option S) → length w.table ≡ m → IsLong m (examine_in same join n next o w x)
    examine_long o w None h = h
    examine_long o w (Some s) h = follow_long o w (next o s) h

    turn_long : (table : List (Option S)) (waiting : List ℕ) → length table ≡ m → IsLong m (turn_of same join n next table waiting)
    turn_long table [] h = h
    turn_long table (o ∷ rest) h = examine_long o (record { table = table; waiting = rest }) (state_at table o) h

walked_long : {S R : Type 0} (same : S → S → Bool) (join : R) (n : ℕ) (first : S) (next : ℕ → S → Next S R) (k : ℕ) → IsLong (n + 1) (walked same join n first next k)
unfolding walked
walked_long same join n first next zero = length-set (replicate (n + 1) None) 0 (Some first) ∙ length-replicate (n + 1) None
walked_long same join n first next (suc k) =
    carry_long (n + 1) (turn same join n next) (walked same join n first next k) (λ w h. turn_long same join n (n + 1) next w.table w.waiting h) (walked_long same join n first next k)

pub ends_long : (b : Body) (table : List (Option FrameState)) → answer_of b ≡ Ends table → length table ≡ length b.words + 1
ends_long b table e = subst (IsLong (length b.words + 1)) e (walked_long same_state Join (length b.words) at_entry (next_in b) (length b.words + 1))
