-- SPDX-License-Identifier: Apache-2.0
-- What events that are run again write.
use Rattle.std.proofs.Common.{◌≡◌, ℕ, ◌+◌, Result, Ok, Err, List, ◌∷◌, ◌++◌, append_assoc, length, sym, ap, ◌∙◌, inl}
use Rattle.std.specs.Prelude.{OnOk}
use Rattle.sha2.specs.Sha256.{sha256}
use Rattle.sh_types.specs.declared.layouts.CodeCopy.{CodeCopy}
use Rattle.sh_types.specs.declared.layouts.Layout.{Layout}
use Rattle.sh_types.specs.declared.runs.Event.{Event}
use Rattle.sh_types.specs.declared.runs.Event.TheVariants.{Migrate, Publish}
use Rattle.sh_machines.specs.Copy.{copy_of}
use Rattle.sh_machines.specs.Event.{after_event, state_after}
use Rattle.sh_machines.specs.Shuffled.{Setting, Owned, Shuffled}
use Rattle.sh_law.specs.Sound.{IsOn}
use Rattle.layout_maker.specs.Cell.{cell_of}
use Rattle.shuf_machine.specs.declared.answers.Origin.{Origin}
use Rattle.shuf_machine.specs.declared.answers.ReturnWord.{ReturnWord}
use Rattle.shuf_machine.specs.Past.{Past, state_of, opening, with_event}
use Rattle.shuf_machine.specs.Returns.{return_words}
use Rattle.shuf_machine.specs.Run.{first_state}
use Rattle.shuf_machine.proofs.Layouts.{layout_number, layout_cell}
use Rattle.period_report.specs.Full.{code_bytes, copy_line, digest_line, words_text, move_line, move_text, layout_text, full_event, full_events}
use Rattle.period_report.specs.Replay.{setting_in, IsAfter}
use Rattle.period_report.specs.Text.{layout_line}
use Rattle.period_report.proofs.Replaying.{after_with, same_setting}

-- ---- the newest layout

pub number_is : (m : Past) (l : Layout) → l ≡ (setting_in m).layout_at (state_of m).newest → l.number ≡ (state_of m).newest
number_is m l is = ap (λ (x : Layout). x.number) is ∙ layout_number m.image m.origin (state_of m).newest

pub newest_live : (m : Past) (l : Layout) → l ≡ (setting_in m).layout_at (state_of m).newest → IsOn (state_of m).newest (state_of m).older l.number
newest_live m l is = inl (number_is m l is)

pub newest_text : (m : Past) (count : ℕ) (l : Layout) (copy : CodeCopy) (out front shown line digest : List ℕ) → l ≡ (setting_in m).layout_at (state_of m).newest → copy ≡ copy_of m.image ((setting_in m).layout_at l.number) → front ≡ layout_line l.number count l.cell → digest ≡ sha256 (code_bytes copy l) → line ≡ copy_line l.number digest → shown ≡ line → out ≡ front ++ shown → out ≡ layout_text (setting_in m) m.origin.seed (state_of m).newest count
unfolding digest_line
newest_text m count l copy out front shown line digest is ec ef ed el es eo =
    let k = (state_of m).newest in
    let number : l.number ≡ k = number_is m l is in
    let cell : l.cell ≡ cell_of m.origin.seed k = ap (λ (x : Layout). x.cell) is ∙ layout_cell m.image m.origin k in
    eo ∙ ap (λ x. x ++ shown) (ef ∙ ap (λ n. layout_line n count l.cell) number ∙ ap (layout_line k count) cell)
    ∙ ap (λ x. layout_line k count (cell_of m.origin.seed k) ++ x)
    (es ∙ el ∙ ap (λ n. copy_line n digest) number
    ∙ ap (copy_line k) (ed ∙ ap (λ x. sha256 (code_bytes x l)) (ec ∙ ap (λ n. copy_of m.image ((setting_in m).layout_at n)) number) ∙ ap (λ x. sha256 (code_bytes (copy_of m.image ((setting_in m).layout_at k)) x)) is))

-- ---- a publication

pub on_ok : {A E P : Type 0} (r : Result A E) → P → OnOk r P
on_ok (Ok x) p = p
on_ok (Err e) p = tt

pub after_publish : (m n m' : Past) (k j : ℕ) → n ≡ m → m' ≡ with_event n (Publish j) → j ≡ (state_of n).newest + 1 → k ≡ (state_of m).newest + 1 → IsAfter (Publish k) m m'
after_publish m n m' k j same is ej ek =
    let e : j ≡ k = ej ∙ ap (λ (x : Past). (state_of x).newest + 1) same ∙ sym ek in
    after_with (Publish k) m m' (is ∙ ap (λ (x : Past). with_event x (Publish j)) same ∙ ap (λ i. with_event m (Publish i)) e)

pub published_text : (m m' : Past) (k count : ℕ) → IsAfter (Publish k) m m' → count ≡ (state_of m).count → layout_text (setting_in m') m'.origin.seed (state_of m').newest count ≡ layout_text (setting_in m) m.origin.seed k (state_of m).count
published_text m m' k count a ec =
    ap (λ o. layout_text o m'.origin.seed (state_of m').newest count) (same_setting m m' a.image a.origin)
    ∙ ap (λ o. layout_text (setting_in m) o.seed (state_of m').newest count) a.origin
    ∙ ap (λ (s : Shuffled). layout_text (setting_in m) m.origin.seed s.newest count) a.state
    ∙ ap (layout_text (setting_in m) m.origin.seed k) ec

-- ---- a hart that moves

pub moved_text : (o : Setting) (s s' : Shuffled) (n count number len : ℕ) (of of' : List ReturnWord) (m : ℕ → Owned) (out front shown line : List ℕ) → of ≡ return_words o s n → count ≡ s.count → number ≡ s.newest → len ≡ length of → front ≡ move_line n count number len → s' ≡ after_event o (Migrate n) s → m ≡ s'.words → of' ≡ of → line ≡ words_text m of' → shown ≡ line → out ≡ front ++ shown → out ≡ move_text o s n
unfolding move_text
moved_text o s s' n count number len of of' m out front shown line eof ec en elen ef es em eof' el esh eo =
    eo ∙ ap (λ x. x ++ shown) (ef ∙ ap (λ c. move_line n c number len) ec ∙ ap (λ k. move_line n s.count k len) en ∙ ap (move_line n s.count s.newest) (elen ∙ ap length eof))
    ∙ ap (λ x. move_line n s.count s.newest (length (return_words o s n)) ++ x)
    (esh ∙ el ∙ ap (λ x. words_text x of') (em ∙ ap (λ (x : Shuffled). x.words) es) ∙ ap (words_text (after_event o (Migrate n) s).words) (eof' ∙ eof))

-- ---- lists of events

pub told_next : (m m' : Past) (e : Event) (es : List Event) (front new shown lines all : List ℕ) → IsAfter e m m' → lines ≡ full_event (setting_in m) m.origin.seed (state_of m) e → shown ≡ lines → new ≡ front ++ shown → front ++ full_events (setting_in m) m.origin.seed (state_of m) (e ∷ es) ≡ all → new ++ full_events (setting_in m') m'.origin.seed (state_of m') es ≡ all
told_next m m' e es front new shown lines all a el esh en ea =
    let o = setting_in m in
    let seed = m.origin.seed in
    ap (λ x. new ++ full_events x m'.origin.seed (state_of m') es) (same_setting m m' a.image a.origin)
    ∙ ap (λ (x : Origin). new ++ full_events o x.seed (state_of m') es) a.origin
    ∙ ap (λ s. new ++ full_events o seed s es) a.state
    ∙ ap (λ x. x ++ full_events o seed (after_event o e (state_of m)) es) (en ∙ ap (λ x. front ++ x) (esh ∙ el))
    ∙ append_assoc front (full_event o seed (state_of m) e) (full_events o seed (after_event o e (state_of m)) es) ∙ ea

pub told_again : (m again : Past) (front out shown middle : List ℕ) → again ≡ opening m.image m.origin → front ≡ layout_text (setting_in again) again.origin.seed (state_of again).newest 0 → middle ≡ full_events (setting_in again) again.origin.seed (state_of again) m.journal → shown ≡ middle → out ≡ front ++ shown → out ≡ layout_text (setting_in m) m.origin.seed 1 0 ++ full_events (setting_in m) m.origin.seed (first_state m.image m.origin) m.journal
unfolding state_after
told_again m again front out shown middle is ef em es eo =
    eo ∙ ap (λ x. x ++ shown) (ef ∙ ap (λ (x : Past). layout_text (setting_in x) x.origin.seed (state_of x).newest 0) is)
    ∙ ap (λ x. layout_text (setting_in m) m.origin.seed 1 0 ++ x) (es ∙ em ∙ ap (λ (x : Past). full_events (setting_in x) x.origin.seed (state_of x) m.journal) is)
