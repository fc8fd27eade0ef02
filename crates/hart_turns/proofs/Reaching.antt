-- SPDX-License-Identifier: Apache-2.0
-- What holds of a state that a legal list of events leads to, and of the next.
use Rattle.std.proofs.Common.{◌≡◌, ℕ, zero, suc, ◌/◌, ◌<◌, ◌≤◌, true, Some, List, [], ◌∷◌, ◌++◌, length, refl, sym, ap, ◌∙◌, subst, arith}
use Rattle.std.specs.Prelude.{slice_get, slice_index}
use Rattle.sh_types.specs.declared.layouts.CodeCopy.{CodeCopy}
use Rattle.sh_types.specs.declared.layouts.Layout.{Layout}
use Rattle.sh_types.specs.declared.runs.Event.TheVariants.{Run}
use Rattle.sh_types.specs.declared.runs.Hart.{Hart}
use Rattle.sh_machines.specs.Copy.{copied, copy_of}
use Rattle.sh_machines.specs.Event.{can_run, Allowed, state_after, written}
use Rattle.sh_types.specs.Fetch.{InCopy, word_in}
use Rattle.sh_machines.specs.Fine.{IsSetting}
use Rattle.sh_machines.specs.Kind.{tables_of}
use Rattle.sh_machines.specs.Need.{Outcome, Goes, Puts, Calls, Quits, Traps, Leaks, answered}
use Rattle.rv_table.specs.Operands.{plus_imm}
use Rattle.sh_types.specs.Place.{IsPair, WellPlaced, place_of}
use Rattle.sh_machines.specs.Shuffled.{Setting, Owned, Shuffled, shuffled_step, kind_there, moved_of}
use Rattle.sh_machines.specs.StandsFor.{HartStands, HartsStand, layout_number, layouts_of}
use Rattle.sh_machines.specs.Unmoved.{Thread, Content, Unmoved, thread_needs, unmoved_run}
use Rattle.sh_machines.proofs.Copied.{place_in_copy, cell_length}
use Rattle.sh_law.specs.Agrees.{Both, Agrees}
use Rattle.sh_law.specs.Sound.{IsOn, Stays}
use Rattle.hart_turns.specs.declared.state.LiveCode.{LiveCode}
use Rattle.hart_turns.specs.declared.state.Prepared.{Prepared}
use Rattle.hart_turns.specs.Laws.{Laws}
use Rattle.hart_turns.specs.Meant.{IsLive, IsMade, setting_of}
use Rattle.hart_turns.specs.Next.{Continues, OutContinues, layout_on, IsHere, IsNext, IsReached}
use Rattle.hart_turns.proofs.Copies.{copy_is, words_are}
use Rattle.hart_turns.proofs.Legal.{state_more, legal_more}
use Rattle.hart_turns.proofs.Steps.{can_hart, can_more, run_allowed}

pub reached_more : (o : Setting) (n : ℕ) (s : Shuffled) → IsReached o s → can_run s n ≡ true → IsReached o (shuffled_step o n s)
reached_more o n s r can =
    record {
      events = r.events ++ Run n 1 ∷ [];
      legal = legal_more o r.events (Run n 1) r.legal (subst (λ x. Allowed o (Run n 1) x) r.state (run_allowed o n 1 s (omega arith) (can_more o n 0 s refl can)));
      state = ap (shuffled_step o n) r.state ∙ sym (state_more o r.events (Run n 1));
    }

-- ---- the hart stays on its layout, by what it stands for

both_continues : (o : Setting) (h h' : Hart) (t t' : Thread) → HartStands o h t → Both o h t h' t' → Continues h h'
both_continues o h h' t t' st b = (b.stands.live ∙ b.live ∙ sym st.live, b.stands.number ∙ b.number ∙ sym st.number, b.layout)

agrees_continues : (o : Setting) (on : ℕ → Layout) (h : Hart) (t : Thread) (x : Outcome Hart Owned) (y : Outcome Thread Content) → HartStands o h t → Agrees o on h t x y → OutContinues h x
agrees_continues o on h t (Goes h') (Goes t') st a = both_continues o h h' t t' st a
agrees_continues o on h t (Goes h') (Puts t' w c b) st a = absurd a
agrees_continues o on h t (Goes h') Calls st a = absurd a
agrees_continues o on h t (Goes h') Quits st a = absurd a
agrees_continues o on h t (Goes h') (Traps k v) st a = absurd a
agrees_continues o on h t (Goes h') Leaks st a = absurd a
agrees_continues o on h t (Puts h' x d b) (Goes t') st a = absurd a
agrees_continues o on h t (Puts h' x d b) (Puts t' w c b') st a = both_continues o h h' t t' st a.both
agrees_continues o on h t (Puts h' x d b) Calls st a = absurd a
agrees_continues o on h t (Puts h' x d b) Quits st a = absurd a
agrees_continues o on h t (Puts h' x d b) (Traps k v) st a = absurd a
agrees_continues o on h t (Puts h' x d b) Leaks st a = absurd a
agrees_continues o on h t Calls y st a = tt
agrees_continues o on h t Quits y st a = tt
agrees_continues o on h t (Traps k v) y st a = tt
agrees_continues o on h t Leaks y st a = tt

paired : (o : Setting) (hs : List Hart) (ts : List Thread) (n : ℕ) (h : Hart) → HartsStand o hs ts → slice_get hs n ≡ Some h → (t : Thread) × (slice_get ts n ≡ Some t) × HartStands o h t
paired o [] [] n h st e = absurd (cc)
paired o [] (t ∷ ts) n h st e = absurd st
paired o (x ∷ hs) [] n h st e = absurd st
paired o (x ∷ hs) (t ∷ ts) zero h st e = let q : x ≡ h = cc in (t, refl, subst (λ y. HartStands o y t) q st.0)
paired o (x ∷ hs) (t ∷ ts) (suc n) h st e = paired o hs ts n h st.1 e

continues : Laws → (o : Setting) (s : Shuffled) (u : Unmoved) (n : ℕ) (h : Hart) → IsSetting o → Stays o s u → slice_get s.harts n ≡ Some h → h.live ≡ true → OutContinues h (moved_of o h s.words)
continues laws o s u n h fi st e live =
    let p = paired o s.harts u.threads n h st.stands.harts e in
    let ok = st.ok n p.0 p.1 in
    let on : layouts_of o s.harts p.0.number ≡ o.layout_at h.layout = ap (layouts_of o s.harts) ok.number ∙ ap (λ x. o.layout_at (layout_number x)) e in
    agrees_continues o (layouts_of o s.harts) h p.0 (moved_of o h s.words) (answered (thread_needs o.image p.0) u.contents) p.2
    (laws.agree o (layouts_of o s.harts) h p.0 s.words u.contents fi on st.stands.words p.2 (p.2.runs live) ok.many (ok.sound (sym p.2.live ∙ live)))

-- ---- a hart that can go

got_below : {A : Type 0} (xs : List A) (n : ℕ) (x : A) → slice_get xs n ≡ Some x → n < length xs
got_below [] n x e = absurd (cc)
got_below (y ∷ xs) zero x e = omega arith
got_below (y ∷ xs) (suc n) x e = omega (arith, got_below xs n x e)

-- on the layout k, from the copy p of it
module _ (laws : Laws) (c : LiveCode) (p : Prepared) (s : Shuffled) (n : ℕ) (ic : IsLive c) (r : IsReached (setting_of c) s) (h : Hart) (e : slice_get s.harts n ≡ Some h) (live : h.live ≡ true) where
  there_is : slice_get (state_after (setting_of c) r.events).harts n ≡ Some h
  there_is = ap (λ (s : Shuffled). slice_get s.harts n) (sym r.state) ∙ e

  pub on_live : IsOn s.newest s.older h.layout
  on_live = subst (λ (x : Shuffled). IsOn x.newest x.older h.layout) (sym r.state) (laws.on (setting_of c) r.events n h ic.setting r.legal there_is live)

  pub few : length s.harts ≤ 64
  few = subst (λ (x : Shuffled). length x.harts ≤ 64) (sym r.state) (laws.few (setting_of c) r.events r.legal)

  pub number : h.number ≡ n
  number = laws.number (setting_of c) r.events n h ic.setting r.legal there_is

  module _ (made : IsMade (setting_of c) h.layout p) where
    copy : p.copy ≡ copy_of c.image.now p.layout
    copy = copy_is c p h.layout ic made

    well : WellPlaced p.layout
    well = subst WellPlaced (sym made.layout) (ic.setting.placed h.layout)

    in_copy : InCopy (copy_of c.image.now p.layout) h.pc
    in_copy =
        let q = laws.place (setting_of c) r.events n h ic.setting r.legal there_is live in
        let own : IsPair ((setting_of c).layout_at h.layout).sizes q.at = subst (λ ss. IsPair ss q.at) (sym (ic.setting.sizes h.layout)) q.pair in
        let ip : IsPair p.layout.sizes q.at = subst (λ l. IsPair l.sizes q.at) (sym made.layout) own in
        let pc : h.pc ≡ place_of p.layout q.at = q.pc ∙ ap (λ l. place_of l q.at) (sym made.layout) in
        subst (InCopy (copy_of c.image.now p.layout)) (sym pc) (place_in_copy c.image.now p.layout q.at well ip)

    there : InCopy p.copy h.pc
    there = subst (λ (k : CodeCopy). InCopy k h.pc) (sym copy) in_copy

    word : word_in p.copy h.pc ≡ copied c.image.now p.layout h.pc
    word = words_are c p h.pc copy there

    pub here_is : IsHere c p n s h
    here_is =
        record {
          number = number;
          small = omega (arith, got_below s.harts n h e, few);
          live = live;
          made = made;
          pc = omega (arith, in_copy.from, in_copy.below, cell_length c.image.now p.layout, well.cell);
          there = there;
          word = word;
          goes_on = subst (λ (x : Shuffled). OutContinues h (moved_of (setting_of c) h x.words)) (sym r.state) (continues laws (setting_of c) (state_after (setting_of c) r.events) (unmoved_run (setting_of c).image (setting_of c).input (written r.events)) n h ic.setting (laws.stand (setting_of c) r.events ic.setting r.legal) there_is live);
          meets = λ imm k.
              ap (λ (x : Shuffled). (x.words (plus_imm (slice_index h.regs 2) imm / 8)).owner) r.state
              ∙ laws.meets (setting_of c) r.events n h imm ic.setting r.legal there_is live
              (ap (λ l. kind_there (tables_of (setting_of c).image) l h.pc (copied (setting_of c).image l h.pc)) (sym made.layout)
              ∙ ap (kind_there (tables_of c.image.now) p.layout h.pc) (sym word) ∙ k);
        }

-- the hart that can run is to be run from the copy of its layout
pub next_is_here : (laws : Laws) (c : LiveCode) (p : Prepared) (s : Shuffled) (n : ℕ) → IsLive c → IsReached (setting_of c) s → can_run s n ≡ true → IsMade (setting_of c) (layout_on s n) p → IsNext c p s n
next_is_here laws c p s n ic r can made =
    let h = can_hart s n can in
    record { few = few laws c p s n ic r h.0 h.1 h.2; hart = h.0; is = h.1; here = here_is laws c p s n ic r h.0 h.1 h.2 (subst (λ x. IsMade (setting_of c) (layout_number x) p) h.1 made) }
