-- SPDX-License-Identifier: Apache-2.0
-- A hart of a machine, by the thread of the unmoved one.
use Rattle.std.proofs.Common.{◌≡◌, ℕ, zero, suc, ◌+◌, ◌≤◌, ◌<◌, ◌==◌, nat_lt, Bool, true, false, Option, Some, None, List, [], ◌∷◌, length, refl, sym, ap, ◌∙◌, subst, arith}
use Rattle.std.specs.Prelude.{slice_get, slice_index, if◌then◌else◌}
use Rattle.std.proofs.lemmas.Bool.Decides.{nat_tests}
use Rattle.sh_types.specs.declared.code.Image.{Image}
use Rattle.sh_types.specs.declared.layouts.Layout.{Layout}
use Rattle.sh_types.specs.declared.runs.Hart.{Hart}
use Rattle.sh_machines.specs.Event.{can_run, is_live}
use Rattle.sh_machines.specs.Fine.{IsSetting}
use Rattle.sh_types.specs.Place.{whose_of}
use Rattle.sh_machines.specs.Shuffled.{Setting, Shuffled}
use Rattle.sh_machines.specs.StandsFor.{StandsFor}
use Rattle.sh_machines.specs.Unmoved.{Thread, Unmoved, goes_still, is_alive, can_go}
use Rattle.sh_law.specs.Sound.{Stays}
use Rattle.sh_law.proofs.Lists.{GetStands, get_stands}
use Rattle.shuf_machine.specs.declared.answers.MachineNo.{MachineNo}
use Rattle.shuf_machine.specs.declared.answers.MachineNo.TheVariants.{NotEnabled}
use Rattle.shuf_machine.specs.declared.answers.No.{No}
use Rattle.shuf_machine.specs.declared.answers.No.TheVariants.{NoHart}
use Rattle.shuf_machine.specs.Refusal.{IsCause, run_no, live_no, unless_ended}
use Rattle.hart_runner.proofs.Tests.{and_first, and_second, none_of}

live_stands : (o : Setting) (x : Option Hart) (y : Option Thread) → GetStands o x y → is_live x ≡ is_alive y
live_stands o None None stand = refl
live_stands o None (Some t) stand = absurd stand
live_stands o (Some h) None stand = absurd stand
live_stands o (Some h) (Some t) stand = stand.live

-- it is live where the thread is
pub lives_stand : (o : Setting) (s : Shuffled) (u : Unmoved) (n : ℕ) → StandsFor o s u → is_live (slice_get s.harts n) ≡ is_alive (slice_get u.threads n)
lives_stand o s u n st = live_stands o (slice_get s.harts n) (slice_get u.threads n) (get_stands o s.harts u.threads n st.harts)

-- it can go where the thread can
pub can_stands : (o : Setting) (s : Shuffled) (u : Unmoved) (n : ℕ) → StandsFor o s u → can_run s n ≡ can_go u n
can_stands o s u n st = cc (st.end, lives_stand o s u n st)

-- ---- a hart that can go is not refused

live_not : (n : ℕ) (x : Option Hart) → is_live x ≡ true → live_no n x ≡ None
live_not n None l = absurd (cc)
live_not n (Some h) l = ap (λ b. if b then None else Some (NoHart n)) l

pub may_run : (s : Shuffled) (n : ℕ) → can_run s n ≡ true → run_no s n ≡ None
may_run s n go =
    ap (λ x. unless_ended x (live_no n (slice_get s.harts n))) (none_of s.end (and_first (goes_still s.end) _ go)) ∙ live_not n (slice_get s.harts n) (and_second (goes_still s.end) _ go)

pub never_refused : (e : MachineNo) (why : Option No) (w : No) → IsCause e why → why ≡ None → e ≡ NotEnabled w → ⊥
never_refused e why w cause none is =
    let some : why ≡ Some w = subst (λ x. IsCause x why) is cause in
    cc (none, some)

-- ---- behind the last hart

none_from : (hs : List Hart) (n : ℕ) → length hs ≤ n → is_live (slice_get hs n) ≡ false
none_from [] n l = refl
none_from (h ∷ hs) zero l = absurd (omega (arith, l))
none_from (h ∷ hs) (suc n) l = none_from hs n (omega (arith, l))

-- each thread from a number up to another is not live
abbrev pub NoneLive : Unmoved → ℕ → ℕ → Type 0
NoneLive u low n = (k : ℕ) → low ≤ k → k < n → is_alive (slice_get u.threads k) ≡ false

pub none_first : (u : Unmoved) (low : ℕ) → NoneLive u low low
none_first u low = λ k a b. absurd (omega (arith, a, b))

pub none_more : (u : Unmoved) (low n : ℕ) → NoneLive u low n → is_alive (slice_get u.threads n) ≡ false → NoneLive u low (n + 1)
none_more u low n none e = λ k a b. by k a b (k == n) refl
  where
    less : (k : ℕ) → (k == n) ≡ false → k < n + 1 → k < n
    less k t l = grind (arith, nat_tests)

    same : (k : ℕ) → (k == n) ≡ true → k ≡ n
    same k t = grind (arith, nat_tests)

    by : (k : ℕ) → low ≤ k → k < n + 1 → (t : Bool) → (k == n) ≡ t → is_alive (slice_get u.threads k) ≡ false
    by k a b true t = ap (λ m. is_alive (slice_get u.threads m)) (same k t) ∙ e
    by k a b false t = none k a (less k t b)

pub none_all : (o : Setting) (s : Shuffled) (u : Unmoved) (low n : ℕ) → StandsFor o s u → NoneLive u low n → length s.harts ≤ n → (k : ℕ) → low ≤ k → is_alive (slice_get u.threads k) ≡ false
none_all o s u low n st none few k a = by (nat_lt k n) refl
  where
    by : (t : Bool) → nat_lt k n ≡ t → is_alive (slice_get u.threads k) ≡ false
    by true t = none k a (grind (arith, nat_tests))
    by false t = sym (lives_stand o s u k st) ∙ none_from s.harts k (grind (arith, nat_tests, few))
