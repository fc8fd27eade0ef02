-- SPDX-License-Identifier: Apache-2.0
-- The layouts that are live, and the words that live harts own.
use Rattle.std.proofs.Common.{◌≡◌, ℕ, zero, suc, ◌-◌, ◌*◌, ◌/◌, ◌≤◌, Bool, true, false, Option, Some, None, List, [], ◌∷◌, map, refl, sym, ap, ◌∙◌, subst, inl, inr, arith}
use Rattle.std.specs.Prelude.{slice_get, ◌==◌}
use Rattle.std.proofs.lemmas.Bool.Decides.{nat_tests}
use Rattle.sh_types.specs.declared.code.Image.{Image}
use Rattle.sh_types.specs.declared.layouts.Layout.{Layout}
use Rattle.sh_types.specs.declared.runs.Event.{Event}
use Rattle.sh_types.specs.declared.runs.Hart.{Hart}
use Rattle.sh_machines.specs.Event.{IsLegalIn, state_after}
use Rattle.sh_machines.specs.Fine.{IsSetting}
use Rattle.sh_machines.specs.Shuffled.{Setting, Owned, Shuffled}
use Rattle.sh_machines.specs.StandsFor.{layout_number, layouts_of}
use Rattle.sh_machines.specs.Unmoved.{is_his}
use Rattle.sh_law.specs.Reach.{SoundIn}
use Rattle.sh_law.specs.Sound.{IsOn}
use Rattle.sh_law.proofs.Lists.{get_past}
use Rattle.guest_mem.specs.Held.{words_of, word_limit}
use Rattle.hart_turns.specs.declared.state.Prepared.{Prepared}
use Rattle.hart_turns.specs.declared.state.State.{State}
use Rattle.hart_unwinder.specs.Owned.{addresses}
use Rattle.hart_unwinder.specs.Words.{passing}
use Rattle.shuf_machine.specs.declared.answers.Origin.{Origin}
use Rattle.shuf_machine.specs.declared.code.Code.{Code}
use Rattle.shuf_machine.specs.Meant.{IsMade, IsOlder, IsMachine, IsUp}
use Rattle.shuf_machine.specs.Returns.{return_word, words_on, return_words}
use Rattle.shuf_machine.specs.Run.{setting_of, shuffled_run}
use Rattle.shuf_machine.proofs.Moves.{FewLaw, NumberLaw, FramesLaw, OnLaw}

-- ---- live layouts

pub older_is : (image : Image) (o : Origin) (newest n : ℕ) (older : Bool) (x : Option Prepared) (p : Prepared) → IsOlder image o newest older x → x ≡ Some p → 1 ≤ newest → n ≡ newest - 1 → (IsOn newest older n) × IsMade image o n p
older_is image o newest n older x p is e some en =
    let there = subst (IsOlder image o newest older) e is in
    (inr (there.0, omega (arith, en, some)), subst (λ k. IsMade image o k p) (sym en) there.1)

pub not_older : (image : Image) (o : Origin) (newest n : ℕ) (older : Bool) (x : Option Prepared) → IsOlder image o newest older x → (n ≡ newest → ⊥) → ((p : Prepared) → x ≡ Some p → n ≡ newest - 1 → ⊥) → IsOn newest older n → ⊥
not_older image o newest n older x is off none (inl e) = off e
not_older image o newest n older None is off none (inr e) = let t = e.0 in cc
not_older image o newest n older (Some p) is off none (inr e) = let s = e.1 in none p refl (omega (arith, s))

-- ---- the words of harts

-- as many words as there are addresses
pub same_words : (l : Layout) (n : ℕ) (m : ℕ → Owned) (ws : List ℕ) → map (λ a. return_word l n m (a / 8)) (addresses ws) ≡ map (return_word l n m) ws
same_words l n m [] = refl
same_words l n m (w ∷ ws) =
    let e : 8 * w / 8 ≡ w = omega arith in
    ap (λ v. return_word l n m v ∷ map (λ a. return_word l n m (a / 8)) (addresses ws)) e ∙ ap (λ xs. return_word l n m w ∷ xs) (same_words l n m ws)

none_pass : (test : ℕ → Bool) (n : ℕ) → ((w : ℕ) → test w ≡ false) → passing test n ≡ []
none_pass test zero f = refl
none_pass test (suc n) f = rw (f n) (none_pass test n f)

-- what the law says of the words that have owners
abbrev pub OwnersLaw : Type 0
OwnersLaw = (o : Setting) (es : List Event) (w n : ℕ) → IsSetting o → IsLegalIn o es → ((state_after o es).words w).owner ≡ Some n → (h : Hart) × (slice_get (state_after o es).harts n ≡ Some h) × (h.live ≡ true)

-- a hart that is not live owns no word
pub none_owned : OwnersLaw → (c : Code) (s : State) (j : List Event) (n : ℕ) → IsMachine c s j → ((h : Hart) → slice_get s.harts.items n ≡ Some h → h.live ≡ true → ⊥) → [] ≡ return_words (setting_of c.image c.origin) (shuffled_run c.image c.origin j) n
none_owned law c s j n m dead =
    let o = setting_of c.image c.origin in
    let r = shuffled_run c.image c.origin j in
    sym (ap (map (return_word (layouts_of o r.harts n) n r.words)) (none_pass (λ w. is_his n (r.words w).owner) word_limit (λ w. by w (r.words w).owner refl)))
  where
    by : (w : ℕ) (x : Option ℕ) → ((shuffled_run c.image c.origin j).words w).owner ≡ x → is_his n x ≡ false
    by w None e = refl
    by w (Some k) e = at (k == n) refl
      where
        at : (b : Bool) → (k == n) ≡ b → (k == n) ≡ false
        at false q = q
        at true q =
            let kn : k ≡ n = grind (arith, nat_tests) in
            let h = law (setting_of c.image c.origin) j w k m.code.setting m.legal e in
            absurd (dead h.0 (ap (λ (x : Shuffled). slice_get x.harts n) m.state ∙ ap (slice_get (shuffled_run c.image c.origin j).harts) (sym kn) ∙ h.1) h.2)

-- a live hart is on a live layout, and its frames lead to the words that it owns
pub live_up : FewLaw → NumberLaw → FramesLaw → OnLaw → (c : Code) (s : State) (j : List Event) (n : ℕ) (h : Hart) → IsMachine c s j → slice_get s.harts.items n ≡ Some h → h.live ≡ true → IsUp c s h
live_up few number frames on c s j n h m is live =
    let o = setting_of c.image c.origin in
    let r = shuffled_run c.image c.origin j in
    let there : slice_get r.harts n ≡ Some h = sym (ap (λ (x : Shuffled). slice_get x.harts n) m.state) ∙ is in
    let past = get_past r.harts n h there in
    let many = few o j m.legal in
    let is_n = number o j n h m.code.setting m.legal there in
    record {
      small = omega (arith, past, many, is_n);
      on = subst (λ (x : Shuffled). IsOn x.newest x.older h.layout) (sym m.state) (on o j n h m.code.setting m.legal there live);
      sound = subst (λ (x : Shuffled). SoundIn c.image.frames (o.layout_at h.layout) h x.words) (sym m.state) (frames o j n h m.code.setting m.legal there live);
    }

-- its words are the return words of its number
pub words_are : NumberLaw → (c : Code) (s : State) (j : List Event) (n : ℕ) (h : Hart) → IsMachine c s j → slice_get s.harts.items n ≡ Some h → words_on ((setting_of c.image c.origin).layout_at h.layout) h.number (words_of s.memory) ≡ return_words (setting_of c.image c.origin) (shuffled_run c.image c.origin j) n
words_are number c s j n h m is =
    let o = setting_of c.image c.origin in
    let r = shuffled_run c.image c.origin j in
    let there : slice_get r.harts n ≡ Some h = sym (ap (λ (x : Shuffled). slice_get x.harts n) m.state) ∙ is in
    ap (λ k. words_on (o.layout_at h.layout) k (words_of s.memory)) (number o j n h m.code.setting m.legal there)
    ∙ ap (λ (x : Shuffled). words_on (o.layout_at h.layout) n x.words) m.state
    ∙ ap (λ x. words_on (o.layout_at (layout_number x)) n r.words) (sym there)
