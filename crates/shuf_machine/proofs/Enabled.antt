-- SPDX-License-Identifier: Apache-2.0
-- For an event that is allowed there is no reason against it.
use Rattle.std.proofs.Common.{◌≡◌, ℕ, zero, suc, ◌+◌, ◌-◌, Bool, true, false, Option, Some, None, List, [], ◌∷◌, refl, arith}
use Rattle.std.specs.Prelude.{slice_get, ◌==◌, ◌&&◌, ◌||◌, not, nat_lt, if◌then◌else◌}
use Rattle.std.specs.List.{position_from}
use Rattle.std.proofs.lemmas.Bool.{and_parts}
use Rattle.std.proofs.lemmas.Bool.Decides.{nat_tests}
use Rattle.sh_types.specs.declared.runs.End.{End}
use Rattle.sh_types.specs.declared.runs.Event.TheVariants.{Run, Migrate, Publish, Erase}
use Rattle.sh_types.specs.declared.runs.Hart.{Hart}
use Rattle.sh_machines.specs.Event.{is_live, can_run, can_all, is_off, all_on, Allowed}
use Rattle.sh_machines.specs.Shuffled.{Setting, Shuffled, shuffled_step}
use Rattle.sh_machines.specs.Unmoved.{goes_still}
use Rattle.layout_epochs.specs.Epoch.{is_on}
use Rattle.shuf_machine.specs.declared.answers.No.{No}
use Rattle.shuf_machine.specs.declared.answers.No.TheVariants.{OnNewest, OlderLive, NoOlder, WrongLayout}
use Rattle.shuf_machine.specs.Refusal.{unless_ended, hart_no, live_no, run_no, migrate_no, publish_no, on_no, erase_no}

going : (e : Option End) (why : Option No) → goes_still e ≡ true → why ≡ None → unless_ended e why ≡ None
going None why g w = w
going (Some e) why g w = absurd (cc)

-- ---- run

live : (n : ℕ) (x : Option Hart) → is_live x ≡ true → live_no n x ≡ None
live n None l = absurd (cc)
live n (Some h) l = rw l refl

can_run_no : (s : Shuffled) (n : ℕ) → can_run s n ≡ true → run_no s n ≡ None
can_run_no s n c =
    let p = and_parts (goes_still s.end) (is_live (slice_get s.harts n)) c in
    going s.end (live_no n (slice_get s.harts n)) p.0 (live n (slice_get s.harts n) p.1)

pub run_enabled : (o : Setting) (s : Shuffled) (n k : ℕ) → Allowed o (Run n k) s → run_no s n ≡ None
run_enabled o s n k a = by k (and_parts (nat_lt 0 k) (can_all o n k s) a)
  where
    by : (k : ℕ) → (nat_lt 0 k ≡ true) × (can_all o n k s ≡ true) → run_no s n ≡ None
    by zero p = absurd (let q = p.0 in grind (arith, nat_tests))
    by (suc k) p = can_run_no s n (and_parts (can_run s n) (can_all o n k (shuffled_step o n s)) p.1).0

-- ---- migrate

off : (newest n : ℕ) (x : Option Hart) → is_off newest x ≡ true → hart_no newest n x ≡ None
off newest n None o = absurd (cc)
off newest n (Some h) o =
    let p = and_parts h.live (not (h.layout == newest)) o in
    rw p.0 (by (h.layout == newest) p.1)
  where
    by : (b : Bool) → not b ≡ true → (if b then Some (OnNewest n) else None) ≡ None
    by true q = absurd (cc)
    by false q = refl

pub migrate_enabled : (o : Setting) (s : Shuffled) (n : ℕ) → Allowed o (Migrate n) s → migrate_no s n ≡ None
migrate_enabled o s n a =
    let p = and_parts (goes_still s.end) (is_off s.newest (slice_get s.harts n)) a in
    going s.end (hart_no s.newest n (slice_get s.harts n)) p.0 (off s.newest n (slice_get s.harts n) p.1)

-- ---- publish

pub publish_enabled : (o : Setting) (s : Shuffled) (k : ℕ) → Allowed o (Publish k) s → publish_no s k ≡ None
publish_enabled o s k a =
    let p = and_parts (goes_still s.end) (not s.older && (k == s.newest + 1)) a in
    let q = and_parts (not s.older) (k == s.newest + 1) p.1 in
    going s.end (if s.older then Some (OlderLive (s.newest - 1)) else (if k == s.newest + 1 then None else Some (WrongLayout (s.newest + 1)))) p.0 (by s.older q.0 (k == s.newest + 1) q.1)
  where
    by : (older : Bool) → not older ≡ true → (next : Bool) → next ≡ true → (if older then Some (OlderLive (s.newest - 1)) else (if next then None else Some (WrongLayout (s.newest + 1)))) ≡ None
    by true o next n = absurd (cc)
    by false o false n = absurd (cc)
    by false o true n = refl

-- ---- erase

none_on : (newest k i : ℕ) (hs : List Hart) → k + 1 ≡ newest → all_on newest hs ≡ true → position_from (is_on k) i hs ≡ None
none_on newest k i [] e a = refl
none_on newest k i (h ∷ hs) e a =
    let p = and_parts (not h.live || (h.layout == newest)) (all_on newest hs) a in
    by (is_on k h) refl p.0 (none_on newest k (i + 1) hs e p.1)
  where
    clash : (live : Bool) (layout : ℕ) → (live && (layout == k)) ≡ true → (not live || (layout == newest)) ≡ true → ⊥
    clash false layout on all = cc
    clash true layout on all = grind (arith, nat_tests, e)

    by : (b : Bool) → is_on k h ≡ b → (not h.live || (h.layout == newest)) ≡ true → position_from (is_on k) (i + 1) hs ≡ None → (if b then Some i else position_from (is_on k) (i + 1) hs) ≡ None
    by true q all rest = absurd (clash h.live h.layout q all)
    by false q all rest = rest

pub erased_older : (o : Setting) (s : Shuffled) (k : ℕ) → Allowed o (Erase k) s → k ≡ s.newest - 1
erased_older o s k a =
    let p = and_parts (goes_still s.end) (s.older && ((k + 1 == s.newest) && all_on s.newest s.harts)) a in
    let q = and_parts s.older ((k + 1 == s.newest) && all_on s.newest s.harts) p.1 in
    let r = and_parts (k + 1 == s.newest) (all_on s.newest s.harts) q.1 in
    let e : k + 1 ≡ s.newest = grind (arith, nat_tests, r.0) in
    omega (arith, e)

pub erase_enabled : (o : Setting) (s : Shuffled) (k : ℕ) → Allowed o (Erase k) s → erase_no s ≡ None
erase_enabled o s k a =
    let p = and_parts (goes_still s.end) (s.older && ((k + 1 == s.newest) && all_on s.newest s.harts)) a in
    let q = and_parts s.older ((k + 1 == s.newest) && all_on s.newest s.harts) p.1 in
    let r = and_parts (k + 1 == s.newest) (all_on s.newest s.harts) q.1 in
    let e : k + 1 ≡ s.newest = grind (arith, nat_tests, r.0) in
    let n : position_from (is_on (s.newest - 1)) 0 s.harts ≡ None = none_on s.newest (s.newest - 1) 0 s.harts (omega (arith, e)) r.1 in
    going s.end (if s.older then on_no (position_from (is_on (s.newest - 1)) 0 s.harts) else Some NoOlder) p.0 (rw (q.0, n) refl)
