-- SPDX-License-Identifier: Apache-2.0
-- In a paced journal each hart that is behind is live and not on the newest layout.
use Rattle.std.proofs.Common.{◌≡◌, ◌≢◌, inl, inr, ℕ, zero, suc, ◌+◌, ◌==◌, ◌&&◌, Bool, true, false, not, Option, Some, None, List, [], ◌∷◌, ◌++◌, length, refl, sym, ap, ◌∙◌, subst, arith}
use Rattle.std.specs.Prelude.{if◌then◌else◌, slice_get, slice_set}
use Rattle.std.proofs.lemmas.Bool.Decides.{nat_tests}
use Rattle.sh_types.specs.declared.runs.Event.{Event}
use Rattle.sh_types.specs.declared.runs.Event.TheVariants.{Run, Migrate, Publish, Erase}
use Rattle.sh_types.specs.declared.runs.Hart.{Hart}
use Rattle.sh_types.specs.declared.runs.Stored.{Stored}
use Rattle.sh_machines.specs.Environment.{CallDid, Answers, Reads, Starts, ExitsHart, ExitsRun, LeaksWord, call_of}
use Rattle.sh_machines.specs.Event.{instructions, migrated, migrate, is_off, after_event, is_allowed, shuffled_from, IsLegalFrom, state_after, IsLegalIn, written}
use Rattle.sh_machines.specs.Fine.{IsSetting}
use Rattle.sh_machines.specs.Need.{Outcome, Goes, Puts, Calls, Quits, Traps, Leaks, stored_at, kept_from}
use Rattle.sh_machines.specs.Pace.{Pace, without, is_among, paced_on, followed, keeps_pace, all_keep, opening_pace, pace_after, IsPaced}
use Rattle.sh_machines.specs.Shuffled.{Setting, Owned, Shuffled, set_hart, hart_loses, harts_lose, reserves_on, after_call, hart_asks, after, moved_of, on_hart, shuffled_step, shuffled_start}
use Rattle.sh_machines.specs.Unmoved.{Thread, Unmoved, goes_still, is_alive, unmoved_from, unmoved_start}
use Rattle.sh_law.specs.Sound.{Stays, IsOn}
use Rattle.sh_law.proofs.Ciphers.{is_cipher}
use Rattle.sh_law.proofs.Lists.{and_first, and_second, not_true, eq_of, GetStands, get_stands, get_map, get_before, get_on, OptionOn}
use Rattle.sh_law.proofs.Pacing.{guest_is}
use Rattle.sh_law.proofs.Whole.{event_stands, start_stands}
use Rattle.sh_law.proofs.Wiping.{all_same}
use Rattle.pace_law.specs.Step.{InStep}
use Rattle.pace_law.proofs.Keeping.{in_step, is_next}
use Rattle.hart_runner.proofs.Numbers.{Rises, rises_without, among_without, gone_without, live_rises, among_live}

-- the hart is live, and on another layout than the newest
abbrev pub Off : ℕ → List Hart → ℕ → Type 0
Off newest hs m = is_off newest (slice_get hs m) ≡ true

off_some : (newest : ℕ) (x : Option Hart) → is_off newest x ≡ true → (h : Hart) × (x ≡ Some h)
off_some newest None e = absurd (cc)
off_some newest (Some h) e = (h, refl)

-- ---- an instruction of another hart

set_other : (hs : List Hart) (n m : ℕ) (x : Hart) → m ≢ n → slice_get (slice_set hs n x) m ≡ slice_get hs m
set_other [] n m x ne = refl
set_other (h ∷ hs) zero zero x ne = absurd (ne refl)
set_other (h ∷ hs) zero (suc m) x ne = refl
set_other (h ∷ hs) (suc n) zero x ne = refl
set_other (h ∷ hs) (suc n) (suc m) x ne = set_other hs n m x (λ e. ne (ap suc e))

off_set : (newest : ℕ) (hs : List Hart) (n m : ℕ) (x : Hart) → m ≢ n → Off newest hs m → Off newest (slice_set hs n x) m
off_set newest hs n m x ne f = ap (is_off newest) (set_other hs n m x ne) ∙ f

off_lose : (newest : ℕ) (hs : List Hart) (n m : ℕ) (s : Option Stored) → Off newest hs m → Off newest (harts_lose n s hs) m
off_lose newest hs n m None f = f
off_lose newest hs n m (Some s) f =
    let h = off_some newest (slice_get hs m) f in
    ap (is_off newest) (get_map (hart_loses n s) hs m h.0 h.1) ∙ same h.0 (h.0.number == n) ∙ sym (ap (is_off newest) h.1) ∙ f
  where
    same : (h : Hart) (b : Bool) → is_off newest (Some (if b then h else reserves_on h (kept_from s h.reserved))) ≡ is_off newest (Some h)
    same h true = refl
    same h false = refl

off_end : (newest : ℕ) (hs : List Hart) (m : ℕ) (x : Hart) → Off newest hs m → Off newest (hs ++ x ∷ []) m
off_end newest hs m x f =
    let h = off_some newest (slice_get hs m) f in
    ap (is_off newest) (get_before hs x m h.0 h.1) ∙ sym (ap (is_off newest) h.1) ∙ f

call_off : (o : Setting) (s : Shuffled) (newest n m : ℕ) (h : Hart) (c : CallDid) → m ≢ n → Off newest s.harts m → Off newest (after_call o s n h c).harts m
call_off o s newest n m h (Answers v more) ne f = off_set newest s.harts n m _ ne f
call_off o s newest n m h (Reads a bytes) ne f =
    off_lose newest (slice_set s.harts n (set_hart h 10 (length bytes))) n m (Some (stored_at a (length bytes))) (off_set newest s.harts n m (set_hart h 10 (length bytes)) ne f)
call_off o s newest n m h (Starts g a0 sp tp) ne f =
    off_end newest (slice_set s.harts n (set_hart h 10 (length s.harts))) m _ (off_set newest s.harts n m (set_hart h 10 (length s.harts)) ne f)
call_off o s newest n m h (ExitsHart code) ne f = off_set newest s.harts n m _ ne f
call_off o s newest n m h (ExitsRun code) ne f = f
call_off o s newest n m h LeaksWord ne f = f

out_off : (o : Setting) (s : Shuffled) (newest n m : ℕ) (h : Hart) (x : Outcome Hart Owned) → m ≢ n → Off newest s.harts m → Off newest (after o s n h x).harts m
out_off o s newest n m h (Goes h') ne f = off_set newest s.harts n m h' ne f
out_off o s newest n m h (Puts h' w c stored) ne f = off_lose newest (slice_set s.harts n h') n m stored (off_set newest s.harts n m h' ne f)
out_off o s newest n m h Calls ne f = call_off o s newest n m h (call_of o.image.regions o.image.rows (hart_asks s h)) ne f
out_off o s newest n m h Quits ne f = off_set newest s.harts n m _ ne f
out_off o s newest n m h (Traps kind v) ne f = f
out_off o s newest n m h Leaks ne f = f

step_off : (o : Setting) (s : Shuffled) (newest n m : ℕ) → m ≢ n → Off newest s.harts m → Off newest (shuffled_step o n s).harts m
unfolding shuffled_step
step_off o s newest n m ne f = by (slice_get s.harts n)
  where
    by : (x : Option Hart) → Off newest (on_hart o s n x).harts m
    by None = f
    by (Some h) = out_off o s newest n m h (moved_of o h s.words) ne f

run_off : (o : Setting) (k : ℕ) (s : Shuffled) (newest n m : ℕ) → m ≢ n → Off newest s.harts m → Off newest (instructions o n k s).harts m
run_off o zero s newest n m ne f = f
run_off o (suc k) s newest n m ne f = run_off o k (shuffled_step o n s) newest n m ne (step_off o s newest n m ne f)

-- ---- events

pub record AreBehind (newest : ℕ) (harts : List Hart) (behind : List ℕ) : Type 0 where
  pub off : (m : ℕ) → is_among m behind ≡ true → Off newest harts m
  pub rises : Rises behind

not_among : (m n : ℕ) (ks : List ℕ) → is_among m ks ≡ true → is_among n ks ≡ false → m ≢ n
not_among m n ks a b e = cc (sym a ∙ ap (λ x. is_among x ks) e ∙ b)

-- a live hart is on the one live layout, and so off the next
published_off : (newest k : ℕ) (x : Option Hart) → k ≡ newest + 1 → OptionOn newest false x → (h : Hart) × (x ≡ Some h) × (h.live ≡ true) → is_off k x ≡ true
published_off newest k x e on h = ap (is_off k) h.1 ∙ at h.0 h.2 (subst (OptionOn newest false) h.1 on)
  where
    other : (a : ℕ) → a ≡ newest → (a == k) ≡ false
    other a q = grind (arith, nat_tests, q, e)

    layout : (h : Hart) → IsOn newest false h.layout → h.layout ≡ newest
    layout h (inl q) = q
    layout h (inr q) = absurd (cc (q.0))

    at : (h : Hart) → h.live ≡ true → OptionOn newest false (Some h) → (h.live && not (h.layout == k)) ≡ true
    at h l on = ap (λ b. b && not (h.layout == k)) l ∙ ap not (other h.layout (layout h (on l)))

event_behind : (o : Setting) (fi : IsSetting o) (period : ℕ) (e : Event) (s : Shuffled) (u : Unmoved) (b : Pace) → Stays o s u → b.guest ≡ u → is_allowed o e s ≡ true → keeps_pace period e b ≡ true → AreBehind s.newest s.harts b.behind → AreBehind (after_event o e s).newest (after_event o e s).harts (paced_on o.image e b).behind
event_behind o fi period (Run n k) s u b g q c p a =
    record {
      off = λ m i.
          subst (λ x. Off x (instructions o n k s).harts m) (sym (all_same o n k s).newest) (run_off o k s s.newest n m (not_among m n b.behind i (not_true _ (and_first _ _ (and_second (is_alive (slice_get b.guest.threads n)) _ p)))) (a.off m i));
      rises = a.rises;
    }
event_behind o fi period (Migrate n) s u b g q c p a = at (slice_get s.harts n)
  where
    at : (x : Option Hart) → AreBehind (migrate o s n x).newest (migrate o s n x).harts (without n b.behind)
    at None = record { off = λ m i. a.off m (among_without m n b.behind i); rises = rises_without n b.behind a.rises }
    at (Some h) =
        record {
          off = λ m i. off_set s.newest s.harts n m (migrated o s.newest h) (λ e. gone_without n b.behind a.rises (subst (λ x. is_among x (without n b.behind) ≡ true) e i)) (a.off m (among_without m n b.behind i));
          rises = rises_without n b.behind a.rises;
        }
event_behind o fi period (Publish k) s u b g q c p a =
    let rest = and_second (goes_still s.end) _ c in
    let one : s.older ≡ false = not_true _ (and_first _ _ rest) in
    let next : k ≡ s.newest + 1 = eq_of _ _ (and_second (not s.older) _ rest) in
    record {
      off = λ m i.
          let alive : is_alive (slice_get u.threads m) ≡ true = subst (λ (x : Unmoved). is_alive (slice_get x.threads m) ≡ true) q (sym (among_live b.guest.threads m) ∙ i) in
          published_off s.newest k (slice_get s.harts m) next (subst (λ x. OptionOn s.newest x (slice_get s.harts m)) one (get_on s.newest s.older s.harts m g.on)) (lives (slice_get s.harts m) (slice_get u.threads m) (get_stands o s.harts u.threads m g.stands.harts) alive);
      rises = live_rises b.guest.threads 0;
    }
  where
    lives : (x : Option Hart) (y : Option Thread) → GetStands o x y → is_alive y ≡ true → (h : Hart) × (x ≡ Some h) × (h.live ≡ true)
    lives None None st l = absurd (cc)
    lives None (Some t) st l = absurd st
    lives (Some h) None st l = absurd st
    lives (Some h) (Some t) st l = (h, refl, st.live ∙ l)
event_behind o fi period (Erase k) s u b g q c p a = record { off = a.off; rises = a.rises }

next_is : (o : Setting) (e : Event) (s : Shuffled) (b : Pace) → s.newest ≡ b.newest → is_allowed o e s ≡ true → is_next e b
next_is o (Run n k) s b e c = tt
next_is o (Migrate n) s b e c = tt
next_is o (Publish k) s b e c = eq_of _ _ (and_second (not s.older) _ (and_second (goes_still s.end) _ c)) ∙ ap (λ n. n + 1) e
next_is o (Erase k) s b e c = tt

newest_on : (o : Setting) (e : Event) (s : Shuffled) (b : Pace) → s.newest ≡ b.newest → (after_event o e s).newest ≡ (paced_on o.image e b).newest
newest_on o (Run n k) s b e = (all_same o n k s).newest ∙ e
newest_on o (Migrate n) s b e = at (slice_get s.harts n)
  where
    at : (x : Option Hart) → (migrate o s n x).newest ≡ b.newest
    at None = e
    at (Some h) = e
newest_on o (Publish k) s b e = refl
newest_on o (Erase k) s b e = e

-- ---- whole journals

pub record Paces (period : ℕ) (s : Shuffled) (b : Pace) : Type 0 where
  pub newest : s.newest ≡ b.newest
  pub behind : AreBehind s.newest s.harts b.behind
  pub step : InStep period b

paces_from : (o : Setting) (fi : IsSetting o) (period : ℕ) (es : List Event) (s : Shuffled) (u : Unmoved) (b : Pace) → Stays o s u → b.guest ≡ u → IsLegalFrom o s es → all_keep o.image period es b ≡ true → Paces period s b → Paces period (shuffled_from o es s) (followed o.image es b)
paces_from o fi period [] s u b g q l k p = p
paces_from o fi period (e ∷ es) s u b g q l k p =
    paces_from o fi period es (after_event o e s) (unmoved_from o.image (written (e ∷ [])) u) (paced_on o.image e b) (event_stands is_cipher o fi e s u g l.0) (guest_is o.image (e ∷ []) b ∙ ap (unmoved_from o.image (written (e ∷ []))) q) l.1 (and_second _ _ k) (record {
      newest = newest_on o e s b p.newest;
      behind = event_behind o fi period e s u b g q l.0 (and_first _ _ k) p.behind;
      step = in_step o.image period e b p.step (next_is o e s b p.newest l.0) (and_first _ _ k);
    })

pub journal_paces : (o : Setting) (period : ℕ) (es : List Event) → IsSetting o → IsLegalIn o es → IsPaced o.image o.input period es → Paces period (state_after o es) (pace_after o.image o.input es)
unfolding IsLegalIn IsPaced state_after pace_after
journal_paces o period es fi l k =
    paces_from o fi period es (shuffled_start o) (unmoved_start o.image o.input) (opening_pace o.image o.input) (start_stands is_cipher o fi) refl l k (record {
      newest = refl;
      behind = record { off = λ m i. absurd (cc); rises = tt };
      step = record { some = omega arith; from = omega arith; up_to = omega arith };
    })
