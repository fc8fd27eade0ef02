-- SPDX-License-Identifier: Apache-2.0
-- What the code does for an instruction is what the machine does.
use Rattle.std.proofs.Common.{◌≡◌, ℕ, ℤ, zero, suc, ◌/◌, true, false, Option, Some, None, List, [], ◌∷◌, refl, sym, ap, ◌∙◌, subst}
use Rattle.std.specs.Prelude.{IfNone, slice_get, slice_set, slice_index, slice_index_or, ◌==◌, ◌&&◌, if◌then◌else◌}
use Rattle.std.proofs.Math.Path.{fun_ext}
use Rattle.sh_types.specs.declared.code.Image.{Image}
use Rattle.sh_types.specs.declared.code.Pair.{Pair}
use Rattle.sh_types.specs.declared.code.Region.{Region}
use Rattle.sh_types.specs.declared.layouts.CodeCopy.{CodeCopy}
use Rattle.sh_types.specs.declared.layouts.Layout.{Layout}
use Rattle.sh_types.specs.declared.runs.Hart.{Hart}
use Rattle.sh_types.specs.declared.runs.Stored.{Stored}
use Rattle.sh_types.specs.declared.runs.Trap.TheVariants as trap
use Rattle.sh_machines.specs.Copy.{copied}
use Rattle.sh_machines.specs.Event.{with_harts, can_run, is_live}
use Rattle.sh_types.specs.Fetch.{InCopy, word_in, fetched}
use Rattle.sh_types.specs.Image.{sizes_of}
use Rattle.sh_machines.specs.Kind.{Kind, Sets, Computes, Passes, Loads, Stores, Atomics, Saves, Restores, CallsTo, JumpsTo, Branches, CallsThrough, JumpsThrough, GoesBack, Asks, Breaks, Illegal, Past, Tables, tables_of}
use Rattle.sh_machines.specs.Memory.{readable, writable}
use Rattle.sh_machines.specs.Need.{Outcome, Goes, Puts, Calls, Quits, Traps, Leaks, Need, Makes, touching, answered, words_after, set_at}
use Rattle.rv_table.specs.Operands.{plus_imm, both_ra, width_of, is_lr}
use Rattle.sh_types.specs.Place.{whose_of, pair_or_first}
use Rattle.sh_machines.specs.Shuffled.{Setting, Owned, Shuffled, left, after, harts_lose, moved_of, on_hart, shuffled_step, hart_does, hart_needs, is_guard, kind_there, pair_of, load_owned, store_owned, reserve_owned, atomic_owned, save_owned, take_owned}
use Rattle.sh_machines.specs.StandsFor.{layout_number}
use Rattle.sh_law.specs.Length.{is_calls, hart_calls, calls_in}
use Rattle.hart_acts.specs.declared.answers.Did.{Did}
use Rattle.hart_acts.specs.declared.answers.Short.{Short}
use Rattle.hart_acts.specs.Did.{did_as, touched_by, did_of, hart_after, whole_of}
use Rattle.hart_acts.specs.Fits.{Fits}
use Rattle.hart_step.specs.Task.{tables_with}
use Rattle.hart_step.specs.Word.{IsShort}
use Rattle.guest_mem.specs.Held.{Held, regions_of}
use Rattle.hart_turns.specs.declared.state.LiveCode.{LiveCode}
use Rattle.hart_turns.specs.declared.state.Prepared.{Prepared}
use Rattle.hart_turns.specs.Meant.{IsLive, IsMade, IsMapped, setting_of}
use Rattle.hart_turns.specs.Next.{outcome_at, next_outcome, Continues, OutContinues, IsHere, IsNext, IsBegun, IsStill, Begins, IsWordOf}
use Rattle.hart_turns.specs.Ran.{asked_by}
use Rattle.hart_turns.proofs.Copies.{guards_are_zero, number_of_layout}
use Rattle.hart_turns.proofs.Reservations.{get_lost, set_free, get_set}

-- ---- which addresses are mapped is all that an instruction asks of the regions

same_does : (l : Layout) (r r' : List Region) (h : Hart) (k : Kind ℕ) → readable r ≡ readable r' → writable r ≡ writable r' → hart_does l r h k ≡ hart_does l r' h k
same_does l r r' h (Sets rd v) er ew = refl
same_does l r r' h (Computes i) er ew = refl
same_does l r r' h Passes er ew = refl
same_does l r r' h (Loads i) er ew =
    ap (λ can. if h.marked && (i.rs1 == 1) then Makes Leaks else touching can (width_of i.op) trap.Misaligned trap.Load (plus_imm (slice_index h.regs i.rs1) i.imm) (λ c. load_owned h i (plus_imm (slice_index h.regs i.rs1) i.imm) c.value c.owner)) er
same_does l r r' h (Stores i) er ew =
    ap (λ can. if h.marked && both_ra i then Makes Leaks else touching can (width_of i.op) trap.Misaligned trap.Store (plus_imm (slice_index h.regs i.rs1) i.imm) (λ c. store_owned h (plus_imm (slice_index h.regs i.rs1) i.imm) (width_of i.op) (slice_index h.regs i.rs2) c.value c.owner)) ew
same_does l r r' h (Atomics i) er ew =
    ap (λ can. if h.marked && both_ra i then Makes Leaks else if is_lr i.op then touching can (width_of i.op) trap.Misaligned trap.Load (slice_index h.regs i.rs1) (λ c. reserve_owned h i (slice_index h.regs i.rs1) c.value c.owner) else touching (writable r) (width_of i.op) trap.Misaligned trap.Store (slice_index h.regs i.rs1) (λ c. atomic_owned h i (slice_index h.regs i.rs1) (slice_index h.regs i.rs2) c.value c.owner)) er
    ∙ ap (λ can. if h.marked && both_ra i then Makes Leaks else if is_lr i.op then touching (readable r') (width_of i.op) trap.Misaligned trap.Load (slice_index h.regs i.rs1) (λ c. reserve_owned h i (slice_index h.regs i.rs1) c.value c.owner) else touching can (width_of i.op) trap.Misaligned trap.Store (slice_index h.regs i.rs1) (λ c. atomic_owned h i (slice_index h.regs i.rs1) (slice_index h.regs i.rs2) c.value c.owner)) ew
same_does l r r' h (Saves imm) er ew =
    ap (λ can. if h.marked then touching can 8 trap.Misaligned trap.Store (plus_imm (slice_index h.regs 2) imm) (λ c. save_owned l h (plus_imm (slice_index h.regs 2) imm) c.owner) else Makes (Traps trap.Illegal 0)) ew
same_does l r r' h (Restores imm) er ew =
    ap (λ can. touching can 8 trap.Misaligned trap.Load (plus_imm (slice_index h.regs 2) imm) (λ c. take_owned l h (plus_imm (slice_index h.regs 2) imm) c.value)) er
same_does l r r' h (CallsTo a) er ew = refl
same_does l r r' h (JumpsTo a) er ew = refl
same_does l r r' h (Branches i a) er ew = refl
same_does l r r' h (CallsThrough rs1 imm way) er ew = refl
same_does l r r' h (JumpsThrough rs1 imm way) er ew = refl
same_does l r r' h (GoesBack imm) er ew = refl
same_does l r r' h Asks er ew = refl
same_does l r r' h Breaks er ew = refl
same_does l r r' h Illegal er ew = refl
same_does l r r' h Past er ew = refl

same_needs : (t : Tables) (l : Layout) (r r' : List Region) (h : Hart) (w : ℕ) → readable r ≡ readable r' → writable r ≡ writable r' → hart_needs t l r h w ≡ hart_needs t l r' h w
unfolding hart_needs
same_needs t l r r' h w er ew = same_does l r r' h (kind_there t l h.pc w) er ew

pub reads_alike : (i : Image) (m : Held) → IsMapped i m → readable (regions_of m) ≡ readable i.regions
reads_alike i m im = fun_ext (λ a. fun_ext (λ n. im.reads a n))

pub writes_alike : (i : Image) (m : Held) → IsMapped i m → writable (regions_of m) ≡ writable i.regions
writes_alike i m im = fun_ext (λ a. fun_ext (λ n. im.writes a n))

-- what the code's instruction demands is what the hart's next instruction demands
pub needs_are : (c : LiveCode) (p : Prepared) (m : Held) (h : Hart) (t : Tables) → IsLive c → IsMapped c.image.now m → IsMade (setting_of c) h.layout p → word_in p.copy h.pc ≡ copied c.image.now p.layout h.pc → t ≡ tables_of c.image.now → (ws : ℕ → Owned) → answered (hart_needs t p.layout (regions_of m) h (word_in p.copy h.pc)) ws ≡ moved_of (setting_of c) h ws
needs_are c p m h t ic im made word et ws =
    let o = setting_of c in
    ap (λ w. answered (hart_needs t p.layout (regions_of m) h w) ws) word
    ∙ ap (λ ts. answered (hart_needs ts p.layout (regions_of m) h (copied c.image.now p.layout h.pc)) ws) et
    ∙ ap (λ need. answered need ws) (same_needs (tables_of c.image.now) p.layout (regions_of m) c.image.now.regions h (copied c.image.now p.layout h.pc) (reads_alike c.image.now m im) (writes_alike c.image.now m im))
    ∙ ap (λ l. answered (hart_needs (tables_of o.image) l o.image.regions h (copied o.image l h.pc)) ws) made.layout

-- ---- what is left to be done

pub set_same : {A : Type 0} (xs : List A) (n : ℕ) (x : A) → slice_get xs n ≡ Some x → slice_set xs n x ≡ xs
set_same [] n x e = refl
set_same (y ∷ xs) zero x e = let q : y ≡ x = cc in ap (λ z. z ∷ xs) (sym q)
set_same (y ∷ xs) (suc n) x e = ap (λ zs. y ∷ zs) (set_same xs n x e)

pub next_is : (o : Setting) (n : ℕ) (s : Shuffled) (h : Hart) → slice_get s.harts n ≡ Some h → next_outcome o n s ≡ moved_of o h s.words
next_is o n s h e = ap (outcome_at o s.words) e

pub calls_are : (o : Setting) (n : ℕ) (s : Shuffled) → calls_in o n s ≡ is_calls (next_outcome o n s)
calls_are o n s = by (slice_get s.harts n)
  where
    by : (x : Option Hart) → hart_calls o s.words x ≡ is_calls (outcome_at o s.words x)
    by None = refl
    by (Some h) = refl

pub step_is : (o : Setting) (n : ℕ) (s : Shuffled) (h : Hart) → slice_get s.harts n ≡ Some h → shuffled_step o n s ≡ after o s n h (next_outcome o n s)
unfolding shuffled_step
step_is o n s h e = ap (on_hart o s n) e ∙ ap (after o s n h) (sym (next_is o n s h e))

-- the instruction has gone: the hart is another, and so may be one word
module _ (o : Setting) (n : ℕ) (s : Shuffled) (h : Hart) (e : slice_get s.harts n ≡ Some h) (number : h.number ≡ n) (can : can_run s n ≡ true) (live : h.live ≡ true) where
  went : (g : Hart) (m : ℕ → Owned) (stored : Option Stored) (h' : Hart) (m' : ℕ → Owned) → shuffled_step o n s ≡ left s (harts_lose n stored (slice_set s.harts n g)) m s.unread [] None → calls_in o n s ≡ false → Continues h g → h' ≡ g → m' ≡ m → IsBegun o n stored s (with_harts s (slice_set s.harts n h') m')
  went g m stored h' m' st quiet con eh em =
      let hs : List Hart = slice_set s.harts n h' in
      let get : slice_get hs n ≡ Some h' = get_set s.harts n h h' e in
      let at : slice_get (harts_lose n stored hs) n ≡ Some h' = get_lost n stored hs h' get (ap (λ (x : Hart). x.number) eh ∙ con.1 ∙ number) in
      let alive : h'.live ≡ true = ap (λ (x : Hart). x.live) eh ∙ con.0 ∙ live in
      record {
        quiet = quiet;
        step = st ∙ ap (λ x. left s (harts_lose n stored (slice_set s.harts n x)) m s.unread [] None) (sym eh) ∙ ap (λ x. left s (harts_lose n stored hs) x s.unread [] None) (sym em);
        can = ap is_live at ∙ alive;
        layout = ap layout_number at ∙ ap (λ (x : Hart). x.layout) eh ∙ con.2 ∙ sym (ap layout_number e);
        free = λ f. set_free n s.harts n h' (ap (λ (x : Hart). x.number) eh ∙ con.1 ∙ number) f;
      }

  still_there : (x : Outcome Hart Owned) (h' : Hart) (m' : ℕ → Owned) → x ≡ next_outcome o n s → h' ≡ h → m' ≡ s.words → IsStill o n x s (with_harts s (slice_set s.harts n h') m')
  still_there x h' m' ex eh em =
      record {
        comes = sym ex;
        still = ap (λ y. with_harts s (slice_set s.harts n y) m') eh ∙ ap (λ hs. with_harts s hs m') (set_same s.harts n h e) ∙ ap (with_harts s s.harts) em;
      }

  begun_by : (h' : Hart) (m' : ℕ → Owned) (t : Option ℕ) (x : Outcome Hart Owned) → x ≡ next_outcome o n s → OutContinues h x → h' ≡ hart_after x h → m' ≡ words_after x s.words → Begins o n (did_as t x) s (with_harts s (slice_set s.harts n h') m')
  begun_by h' m' t (Goes g) ex con eh em =
      went g s.words None h' m' (step_is o n s h e ∙ ap (after o s n h) (sym ex)) (calls_are o n s ∙ ap is_calls (sym ex)) con eh em
  begun_by h' m' t (Puts g w c stored) ex con eh em =
      went g (set_at s.words w c) stored h' m' (step_is o n s h e ∙ ap (after o s n h) (sym ex)) (calls_are o n s ∙ ap is_calls (sym ex)) con eh em
  begun_by h' m' t Calls ex con eh em = still_there Calls h' m' ex eh em
  begun_by h' m' t Quits ex con eh em = still_there Quits h' m' ex eh em
  begun_by h' m' t (Traps k v) ex con eh em = still_there (Traps k v) h' m' ex eh em
  begun_by h' m' t Leaks ex con eh em = still_there Leaks h' m' ex eh em

begun : (c : LiveCode) (p : Prepared) (l : Layout) (m : Held) (s : Shuffled) (n : ℕ) (h h' : Hart) (m' : ℕ → Owned) (t : Tables) (did : Did) → IsLive c → IsMapped c.image.now m → slice_get s.harts n ≡ Some h → IsHere c p n s h → can_run s n ≡ true → l ≡ p.layout → t ≡ tables_of c.image.now → did ≡ did_of (hart_needs t l (regions_of m) h (word_in p.copy h.pc)) s.words → h' ≡ hart_after (answered (hart_needs t l (regions_of m) h (word_in p.copy h.pc)) s.words) h → m' ≡ words_after (answered (hart_needs t l (regions_of m) h (word_in p.copy h.pc)) s.words) s.words → Begins (setting_of c) n did s (with_harts s (slice_set s.harts n h') m')
begun c p l m s n h h' m' t did ic im e here can el et ed eh em =
    let o = setting_of c in
    let need : Need Hart Owned = hart_needs t l (regions_of m) h (word_in p.copy h.pc) in
    let same : answered need s.words ≡ moved_of o h s.words = ap (λ x. answered (hart_needs t x (regions_of m) h (word_in p.copy h.pc)) s.words) el ∙ needs_are c p m h t ic im here.made here.word et s.words in
    subst (λ d. Begins o n d s (with_harts s (slice_set s.harts n h') m')) (sym ed)
    (begun_by o n s h e here.number can here.live h' m' (touched_by need) (answered need s.words) (same ∙ sym (next_is o n s h e)) (subst (OutContinues h) (sym same) here.goes_on) eh em)

-- what the word of the hart comes to, in place
pub begun_by_word : (c : LiveCode) (p : Prepared) (l : Layout) (m : Held) (s : Shuffled) (n : ℕ) (h h' : Hart) (m' : ℕ → Owned) (t : Tables) (w : ℕ) (did : Did) → IsLive c → IsMapped c.image.now m → slice_get s.harts n ≡ Some h → IsHere c p n s h → can_run s n ≡ true → l ≡ p.layout → t ≡ tables_of c.image.now → w ≡ word_in p.copy h.pc → did ≡ did_of (hart_does l (regions_of m) h (kind_there t l h.pc w)) s.words → h' ≡ hart_after (answered (hart_does l (regions_of m) h (kind_there t l h.pc w)) s.words) h → m' ≡ words_after (answered (hart_does l (regions_of m) h (kind_there t l h.pc w)) s.words) s.words → Begins (setting_of c) n did s (with_harts s (slice_set s.harts n h') m')
unfolding hart_needs
begun_by_word c p l m s n h h' m' t w did ic im e here can el et ew ed eh em =
    begun c p l m s n h h' m' t did ic im e here can el et
    (ed ∙ ap (λ x. did_of (hart_does l (regions_of m) h (kind_there t l h.pc x)) s.words) ew)
    (eh ∙ ap (λ x. hart_after (answered (hart_does l (regions_of m) h (kind_there t l h.pc x)) s.words) h) ew)
    (em ∙ ap (λ x. words_after (answered (hart_does l (regions_of m) h (kind_there t l h.pc x)) s.words) s.words) ew)

-- the word that the code asked for is the hart's
pub word_there : (copy : CodeCopy) (hs : List Hart) (n : ℕ) (h : Hart) (w : ℕ) → slice_get hs n ≡ Some h → IsWordOf copy (slice_get hs n) w → w ≡ word_in copy h.pc
word_there copy hs n h w e i = subst (λ x. IsWordOf copy x w) e i

pub is_word_of : (copy : CodeCopy) (hs : List Hart) (n : ℕ) (h : Hart) (w : ℕ) → slice_get hs n ≡ Some h → w ≡ word_in copy h.pc → IsWordOf copy (slice_get hs n) w
is_word_of copy hs n h w e i = subst (λ x. IsWordOf copy x w) (sym e) i

pub tables_are : (i : Image) (xs ys : List ℕ) (zs : List Pair) → xs ≡ i.literals → ys ≡ i.rows → zs ≡ i.labels → tables_with xs ys zs ≡ tables_of i
tables_are i xs ys zs ex ey ez = ap (λ x. tables_with x ys zs) ex ∙ ap (λ y. tables_with i.literals y zs) ey ∙ ap (tables_with i.literals i.rows) ez

-- what `long_step` asks of its arguments, where the tables and the layout are equal to the code's
pub meets_there : (c : LiveCode) (p : Prepared) (l : Layout) (s : Shuffled) (n : ℕ) (h : Hart) (t : Tables) (w : ℕ) → IsHere c p n s h → l ≡ p.layout → t ≡ tables_of c.image.now → w ≡ word_in p.copy h.pc → (imm : ℤ) → kind_there t l h.pc w ≡ Restores imm → (s.words (plus_imm (slice_index h.regs 2) imm / 8)).owner ≡ Some h.number
meets_there c p l s n h t w here el et ew imm k =
    here.meets imm (sym (ap (λ x. kind_there t l h.pc x) ew ∙ ap (λ x. kind_there t x h.pc (word_in p.copy h.pc)) el ∙ ap (λ x. kind_there x p.layout h.pc (word_in p.copy h.pc)) et) ∙ k)

pub fits_there : (c : LiveCode) (p : Prepared) (k : ℕ) (l : Layout) (rows : List ℕ) (labels : List Pair) → IsLive c → IsMade (setting_of c) k p → l ≡ p.layout → rows ≡ c.image.now.rows → labels ≡ c.image.now.labels → Fits rows labels l.sizes
fits_there c p k l rows labels ic made el er eb =
    let sizes : sizes_of c.image.now ≡ l.sizes = sym (ic.setting.sizes k) ∙ sym (ap (λ (x : Layout). x.sizes) (el ∙ made.layout)) in
    subst (λ ss. Fits rows labels ss) sizes (subst (λ x. Fits x labels (sizes_of c.image.now)) (sym er) (subst (λ x. Fits c.image.now.rows x (sizes_of c.image.now)) (sym eb) ic.fits))

pub guards_there : (c : LiveCode) (p : Prepared) (k : ℕ) (l : Layout) → IsLive c → IsMade (setting_of c) k p → l ≡ p.layout → (a : ℕ) → is_guard l a ≡ true → InCopy p.copy a → word_in p.copy a ≡ 0
guards_there c p k l ic made el a g within = guards_are_zero c p k ic made a (subst (λ x. is_guard x a ≡ true) el g) within

-- only where its word is 0 can the hart stand at a guard
pub guard_there : (c : LiveCode) (p : Prepared) (l : Layout) (s : Shuffled) (n : ℕ) (h : Hart) (w : ℕ) → IsLive c → IsHere c p n s h → l ≡ p.layout → w ≡ word_in p.copy h.pc → is_guard l h.pc ≡ true → w ≡ 0
guard_there c p l s n h w ic here el ew g = ew ∙ guards_there c p h.layout l ic here.made el h.pc g here.there

-- a word that touches no memory, in place
pub begun_short : (c : LiveCode) (p : Prepared) (m : Held) (s : Shuffled) (n : ℕ) (h h' : Hart) (w : ℕ) (short : Short) → IsLive c → IsMapped c.image.now m → slice_get s.harts n ≡ Some h → IsHere c p n s h → can_run s n ≡ true → w ≡ word_in p.copy h.pc → IsShort h w short h' → Begins (setting_of c) n (whole_of short) s (with_harts s (slice_set s.harts n h') s.words)
begun_short c p m s n h h' w short ic im e here can ew is =
    let t : Tables = tables_of c.image.now in
    let guard = guard_there c p p.layout s n h w ic here refl ew in
    begun_by_word c p p.layout m s n h h' s.words t w (whole_of short) ic im e here can refl refl ew
    (is.did t p.layout (regions_of m) s.words guard) (is.hart t p.layout (regions_of m) s.words guard) (sym (is.words t p.layout (regions_of m) s.words guard))

pub if_none_then : {A : Type 0} (o : Option A) {P Q : Type 0} → IfNone o P → (P → Q) → IfNone o Q
if_none_then None p f = f p
if_none_then (Some x) p f = tt

-- the hart is as it was
pub kept_there : (s : Shuffled) (n : ℕ) (h h' : Hart) → slice_get s.harts n ≡ Some h → h' ≡ h → with_harts s (slice_set s.harts n h') s.words ≡ s
kept_there s n h h' e eh = ap (λ x. with_harts s (slice_set s.harts n x) s.words) eh ∙ ap (λ hs. with_harts s hs s.words) (set_same s.harts n h e)

got_or : {A : Type 0} (xs : List A) (n : ℕ) (x d : A) → slice_get xs n ≡ Some x → slice_index_or xs n d ≡ x
got_or [] n x d e = absurd (cc)
got_or (y ∷ xs) zero x d e = cc
got_or (y ∷ xs) (suc n) x d e = got_or xs n x d e

-- the hart that was read is the one of this number
read_is : (c : LiveCode) (p : Prepared) (s : Shuffled) (n : ℕ) (h : Hart) → (next : IsNext c p s n) → h ≡ slice_index_or s.harts n h → h ≡ next.hart
read_is c p s n h next e = e ∙ got_or s.harts n next.hart h next.is

pub read_here : (c : LiveCode) (p : Prepared) (s : Shuffled) (n : ℕ) (h : Hart) → IsNext c p s n → h ≡ slice_index_or s.harts n h → IsHere c p n s h
read_here c p s n h next e = subst (IsHere c p n s) (sym (read_is c p s n h next e)) next.here

pub read_there : (c : LiveCode) (p : Prepared) (s : Shuffled) (n : ℕ) (h : Hart) → IsNext c p s n → h ≡ slice_index_or s.harts n h → slice_get s.harts n ≡ Some h
read_there c p s n h next e = next.is ∙ ap Some (sym (read_is c p s n h next e))

made_number : (c : LiveCode) (p : Prepared) (k : ℕ) → IsMade (setting_of c) k p → p.copy.number ≡ k
made_number c p k made = ap (λ (x : CodeCopy). x.number) made.copy ∙ number_of_layout (sizes_of c.image.now) c.seed.now k

-- the word that the code asks for
pub asked_is : (c : LiveCode) (p : Prepared) (s : Shuffled) (n : ℕ) (h : Hart) → IsNext c p s n → h ≡ slice_index_or s.harts n h → fetched p.copy.number h.pc ∷ [] ≡ asked_by (slice_get s.harts n)
asked_is c p s n h next e =
    ap (λ k. fetched k h.pc ∷ []) (made_number c p h.layout (read_here c p s n h next e).made) ∙ sym (ap asked_by (read_there c p s n h next e))

pub done_by : (o : Setting) (n : ℕ) (s s' : Shuffled) (h : Hart) (x : Outcome Hart Owned) → slice_get s.harts n ≡ Some h → next_outcome o n s ≡ x → s' ≡ after o s n h x → s' ≡ shuffled_step o n s
done_by o n s s' h x e ex es = es ∙ sym (step_is o n s h e ∙ ap (after o s n h) ex)

-- the hart that is next is the current one
pub current_here : (c : LiveCode) (p : Prepared) (s : Shuffled) (n : ℕ) (h : Hart) → IsNext c p s n → slice_get s.harts n ≡ Some h → IsHere c p n s h
current_here c p s n h next e = let q : Some next.hart ≡ Some h = sym next.is ∙ e in let r : next.hart ≡ h = cc in subst (IsHere c p n s) r next.here

-- the pair of a hart by the code's layout
pub pair_is : (c : LiveCode) (p : Prepared) (h : Hart) → IsMade (setting_of c) h.layout p → pair_or_first (whose_of p.layout h.pc) ≡ pair_of (setting_of c) h
pair_is c p h made = ap (λ l. pair_or_first (whose_of l h.pc)) made.layout
