-- SPDX-License-Identifier: Apache-2.0
-- A machine whose journal keeps pace, by its pace: which events on layouts it refuses.
use Rattle.std.proofs.Common.{◌≡◌, ℕ, zero, suc, ◌+◌, ◌-◌, ◌==◌, ◌&&◌, ◌<◌, ◌≤◌, Bool, true, false, not, Option, Some, None, List, [], ◌∷◌, length, refl, sym, ap, ◌∙◌, subst, arith}
use Rattle.std.specs.Prelude.{if◌then◌else◌, cond, slice_get}
use Rattle.std.specs.List.{position_from}
use Rattle.std.proofs.lemmas.Bool.Decides.{nat_tests}
use Rattle.sh_types.specs.declared.code.Image.{Image}
use Rattle.sh_types.specs.declared.runs.Hart.{Hart}
use Rattle.sh_machines.specs.Event.{is_off}
use Rattle.sh_machines.specs.Fine.{IsSetting}
use Rattle.sh_machines.specs.Pace.{Pace, is_among}
use Rattle.sh_machines.specs.Shuffled.{Shuffled}
use Rattle.sh_machines.specs.StandsFor.{StandsFor}
use Rattle.sh_machines.specs.Unmoved.{Unmoved, goes_still}
use Rattle.sh_law.specs.Paced.{AreOn, StandsPaced}
use Rattle.sh_law.proofs.Ciphers.{is_cipher}
use Rattle.sh_law.proofs.Pacing.{paced_stands}
use Rattle.layout_maker.specs.Layout.{layout_of}
use Rattle.layout_epochs.specs.Epoch.{is_on}
use Rattle.shuf_machine.specs.declared.answers.Origin.{Origin}
use Rattle.shuf_machine.specs.declared.answers.No.TheVariants.{NoHart, OnNewest, OlderLive, NoOlder, WrongLayout}
use Rattle.shuf_machine.specs.Past.{Past, state_of, guest_of}
use Rattle.shuf_machine.specs.Refusal.{unless_ended, hart_no, migrate_no, publish_no, on_no, erase_no}
use Rattle.shuf_machine.specs.Run.{setting_of, IsLegal}
use Rattle.hart_runner.specs.Standing.{image_in, pace_of, IsInPace, first_of}
use Rattle.hart_runner.proofs.Behind.{AreBehind, Off, journal_paces}
use Rattle.hart_runner.proofs.Numbers.{Rises, same_test, test_same}
use Rattle.hart_runner.proofs.Tests.{none_of}
use Rattle.hart_runner.proofs.Written.{pace_guest}

pub record Linked (s : Shuffled) (b : Pace) : Type 0 where
  pub goes : goes_still b.guest.end ≡ true → s.end ≡ None
  pub newest : s.newest ≡ b.newest
  pub older : s.older ≡ b.older
  pub some : 1 ≤ b.newest
  pub behind : AreBehind s.newest s.harts b.behind
  pub on : AreOn s.newest b.behind s.harts

pub linked : (p : Past) → IsSetting (setting_of p.image p.origin) → IsLegal p.image p.origin p.journal → StandsFor (setting_of p.image p.origin) (state_of p) (guest_of p) → IsInPace p → Linked (state_of p) (pace_of p)
linked p set legal st pace =
    let stands : StandsPaced (state_of p) (pace_of p) = paced_stands is_cipher (setting_of p.image p.origin) set pace.period p.journal legal pace.paced in
    let paces = journal_paces (setting_of p.image p.origin) pace.period p.journal set legal pace.paced in
    record {
      goes = λ g. st.end ∙ sym (ap (λ (u : Unmoved). u.end) (pace_guest (image_in p) p.origin.input p.journal)) ∙ none_of (pace_of p).guest.end g;
      newest = stands.newest;
      older = stands.older;
      some = paces.step.some;
      behind = paces.behind;
      on = stands.on;
    }

pub layout_number : (image : Image) (o : Origin) (k : ℕ) → ((setting_of image o).layout_at k).number ≡ k
unfolding layout_of
layout_number image o k = refl

-- ---- the least hart that is behind

-- each hart below the number is not off the newest layout
abbrev pub NoneBelow : ℕ → List Hart → ℕ → Type 0
NoneBelow newest hs n = (m : ℕ) → m < n → is_off newest (slice_get hs m) ≡ false

pub below_more : (newest : ℕ) (hs : List Hart) (n : ℕ) → NoneBelow newest hs n → is_off newest (slice_get hs n) ≡ false → NoneBelow newest hs (n + 1)
below_more newest hs n b e = λ m l. by m (m == n) refl l
  where
    less : (m : ℕ) → (m == n) ≡ false → m < n + 1 → m < n
    less m t l = grind (arith, nat_tests)

    by : (m : ℕ) (t : Bool) → (m == n) ≡ t → m < n + 1 → is_off newest (slice_get hs m) ≡ false
    by m true t l = ap (λ k. is_off newest (slice_get hs k)) (test_same m n t) ∙ e
    by m false t l = b m (less m t l)

off_among : (s : Shuffled) (behind : List ℕ) (n : ℕ) → AreOn s.newest behind s.harts → is_off s.newest (slice_get s.harts n) ≡ true → is_among n behind ≡ true
off_among s behind n on f = at (slice_get s.harts n) refl f (is_among n behind) refl
  where
    clash : (h : Hart) → h.layout ≡ s.newest → (h.live && not (h.layout == s.newest)) ≡ true → ⊥
    clash h e f = let t : (h.layout == s.newest) ≡ true = grind (arith, nat_tests, e) in cc (and_false h.live, sym (ap (λ b. h.live && not b) t) ∙ f)
      where
        and_false : (b : Bool) → (b && false) ≡ false
        and_false true = refl
        and_false false = refl

    live : (h : Hart) (b : Bool) → h.live ≡ b → (b && not (h.layout == s.newest)) ≡ true → b ≡ true
    live h true e f = refl
    live h false e f = absurd (cc)

    at : (x : Option Hart) → slice_get s.harts n ≡ x → is_off s.newest x ≡ true → (b : Bool) → is_among n behind ≡ b → b ≡ true
    at None e f b q = absurd (cc)
    at (Some h) e f true q = refl
    at (Some h) e f false q = absurd (clash h (on n h e (live h h.live refl f) q) f)

pub first_found : (s : Shuffled) (b : Pace) (n : ℕ) → Linked s b → NoneBelow s.newest s.harts n → is_off s.newest (slice_get s.harts n) ≡ true → Some n ≡ first_of b.behind
first_found s b n l none f = at b.behind l.behind.off l.behind.rises (off_among s b.behind n l.on f)
  where
    at : (ks : List ℕ) → ((m : ℕ) → is_among m ks ≡ true → Off s.newest s.harts m) → Rises ks → is_among n ks ≡ true → Some n ≡ first_of ks
    at [] off r i = absurd (cc)
    at (k ∷ ks) off r i = by (k == n) refl i
      where
        by : (t : Bool) → (k == n) ≡ t → (if t then true else is_among n ks) ≡ true → Some n ≡ Some k
        by true t i = ap Some (sym (test_same k n t))
        by false t i = absurd (cc (none k (r.0 n i), off k (ap (λ b. if b then true else is_among k ks) (same_test k))))

off_few : (newest : ℕ) (hs : List Hart) (k : ℕ) → Off newest hs k → k < length hs
off_few newest [] k f = absurd (cc)
off_few newest (h ∷ hs) zero f = omega arith
off_few newest (h ∷ hs) (suc k) f = omega (arith, off_few newest hs k f)

pub first_none : (s : Shuffled) (b : Pace) (n : ℕ) → Linked s b → NoneBelow s.newest s.harts n → length s.harts ≤ n → None ≡ first_of b.behind
first_none s b n l none few = at b.behind l.behind.off
  where
    at : (ks : List ℕ) → ((m : ℕ) → is_among m ks ≡ true → Off s.newest s.harts m) → None ≡ first_of ks
    at [] off = refl
    at (k ∷ ks) off =
        let f : Off s.newest s.harts k = off k (ap (λ b. if b then true else is_among k ks) (same_test k)) in
        let lt : k < n = omega (arith, off_few s.newest s.harts k f, few) in
        absurd (cc (none k lt, f))

-- ---- no event on layouts is refused

off_not : (newest n : ℕ) (x : Option Hart) → is_off newest x ≡ true → hart_no newest n x ≡ None
off_not newest n None f = absurd (cc)
off_not newest n (Some h) f = by h.live (h.layout == newest) f
  where
    by : (l t : Bool) → (l && not t) ≡ true → (if l then (if t then Some (OnNewest n) else None) else Some (NoHart n)) ≡ None
    by true true f = absurd (cc)
    by true false f = refl
    by false t f = absurd (cc)

pub may_migrate : (s : Shuffled) (b : Pace) (n : ℕ) → Linked s b → goes_still b.guest.end ≡ true → first_of b.behind ≡ Some n → migrate_no s n ≡ None
may_migrate s b n l g f =
    ap (λ e. unless_ended e (hart_no s.newest n (slice_get s.harts n))) (l.goes g) ∙ off_not s.newest n (slice_get s.harts n) (at b.behind l.behind.off f)
  where
    at : (ks : List ℕ) → ((m : ℕ) → is_among m ks ≡ true → Off s.newest s.harts m) → first_of ks ≡ Some n → Off s.newest s.harts n
    at [] off e = absurd (cc)
    at (k ∷ ks) off e =
        let q : k ≡ n = cc in
        off n (subst (λ m. is_among m (k ∷ ks) ≡ true) q (ap (λ b. if b then true else is_among k ks) (same_test k)))

pub may_publish : (s : Shuffled) (b : Pace) (k : ℕ) → Linked s b → goes_still b.guest.end ≡ true → b.older ≡ false → k ≡ s.newest + 1 → publish_no s k ≡ None
may_publish s b k l g o e =
    let t : (k == s.newest + 1) ≡ true = grind (arith, nat_tests, e) in
    ap (λ x. unless_ended x (if s.older then Some (OlderLive (s.newest - 1)) else (if k == s.newest + 1 then None else Some (WrongLayout (s.newest + 1))))) (l.goes g)
    ∙ ap (λ x. if x then Some (OlderLive (s.newest - 1)) else (if k == s.newest + 1 then None else Some (WrongLayout (s.newest + 1)))) (l.older ∙ o)
    ∙ ap (λ x. if x then None else Some (WrongLayout (s.newest + 1))) t

none_at : (test : Hart → Bool) (i : ℕ) (hs : List Hart) → ((m : ℕ) (h : Hart) → slice_get hs m ≡ Some h → test h ≡ false) → position_from test i hs ≡ None
none_at test i [] e = refl
none_at test i (h ∷ hs) e = ap (λ b. cond b (Some i) (position_from test (i + 1) hs)) (e 0 h refl) ∙ none_at test (i + 1) hs (λ m. e (suc m))

pub may_erase : (s : Shuffled) (b : Pace) → Linked s b → goes_still b.guest.end ≡ true → b.older ≡ true → b.behind ≡ [] → erase_no s ≡ None
may_erase s b l g o e =
    let some : 1 ≤ s.newest = omega (arith, l.some, l.newest) in
    ap (λ x. unless_ended x (if s.older then on_no (position_from (is_on (s.newest - 1)) 0 s.harts) else Some NoOlder)) (l.goes g)
    ∙ ap (λ x. if x then on_no (position_from (is_on (s.newest - 1)) 0 s.harts) else Some NoOlder) (l.older ∙ o)
    ∙ ap on_no (none_at (is_on (s.newest - 1)) 0 s.harts (λ m h i. by h h.live refl some (λ v. l.on m h i v (ap (is_among m) e))))
  where
    by : (h : Hart) (b : Bool) → h.live ≡ b → 1 ≤ s.newest → (h.live ≡ true → h.layout ≡ s.newest) → (b && (h.layout == s.newest - 1)) ≡ false
    by h false v some on = refl
    by h true v some on = let q = on v in grind (arith, nat_tests, q, some)
