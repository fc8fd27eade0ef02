-- SPDX-License-Identifier: Apache-2.0
-- In a paced journal that is legal the harts that are behind are live, and not on the newest layout.
use Rattle.std.proofs.Common.{◌≡◌, ◌≢◌, inl, inr, ℕ, zero, suc, ◌+◌, Bool, true, false, Option, Some, None, List, [], ◌∷◌, ◌++◌, replicate, length, refl, sym, ap, ◌∙◌, subst, arith}
use Rattle.std.specs.Prelude.{slice_get, slice_set, not, ◌==◌, ◌&&◌, ◌||◌, nat_lt, if◌then◌else◌}
use Rattle.std.proofs.lemmas.Bool.Decides.{nat_tests}
use Rattle.sh_types.specs.declared.runs.Event.{Event}
use Rattle.sh_types.specs.declared.runs.Event.TheVariants.{Run, Migrate, Publish, Erase}
use Rattle.sh_types.specs.declared.runs.Hart.{Hart}
use Rattle.sh_types.specs.declared.runs.Stored.{Stored}
use Rattle.sh_machines.specs.Environment.{CallDid, Answers, Reads, Starts, ExitsHart, ExitsRun, LeaksWord, call_of}
use Rattle.sh_machines.specs.Event.{instructions, can_run, can_all, migrated, migrate, is_off, all_on, after_event, is_allowed, state_after, IsLegalIn, written}
use Rattle.sh_machines.specs.Fine.{IsSetting}
use Rattle.sh_machines.specs.Need.{Outcome, Goes, Puts, Calls, Quits, Traps, Leaks, stored_at, kept_from}
use Rattle.sh_machines.specs.Next.{all_go, is_none, may_come}
use Rattle.sh_machines.specs.Pace.{Pace, live_from, without, is_among, paced_on, keeps_pace, pace_after, IsPaced}
use Rattle.sh_machines.specs.Shuffled.{Setting, Owned, Shuffled, set_hart, ended_hart, hart_loses, harts_lose, reserves_on, new_hart, after_call, hart_asks, after, moved_of, on_hart, shuffled_step}
use Rattle.sh_machines.specs.Unmoved.{Thread, Unmoved, is_alive, goes_still, can_go, unmoved_step, unmoved_run}
use Rattle.sh_law.specs.Keeps.{IsCipher}
use Rattle.sh_law.specs.Paced.{AreOn, StandsPaced}
use Rattle.sh_law.specs.Sound.{IsOn, Stays}
use Rattle.sh_law.proofs.Lists.{and_first, and_second, eq_of, not_true, GetStands, get_stands, get_off, get_map, get_before, OptionOn, get_on}
use Rattle.sh_law.proofs.Prefixes.{state_more, legal_before, legal_after, pace_more, paced_after, by_prefix}
use Rattle.sh_law.proofs.Pacing.{paced_stands, guest_stands}
use Rattle.sh_law.proofs.Stepping.{one_stands, runs_in_both}
use Rattle.sh_law.proofs.Whole.{law}
use Rattle.sh_law.proofs.Wiping.{all_same}

-- ---- other harts stay where they are

-- a hart that is live, on a layout
pub record IsThere (hs : List Hart) (m layout : ℕ) : Type 0 where
  pub hart : Hart
  pub is : slice_get hs m ≡ Some hart
  pub live : hart.live ≡ true
  pub on : hart.layout ≡ layout

there_set : (hs : List Hart) (n m layout : ℕ) (h : Hart) → m ≢ n → IsThere hs m layout → IsThere (slice_set hs n h) m layout
there_set hs n m layout h ne x = record { hart = x.hart; is = get_off hs n m h ne ∙ x.is; live = x.live; on = x.on }

there_lose : (hs : List Hart) (n m layout : ℕ) (s : Option Stored) → IsThere hs m layout → IsThere (harts_lose n s hs) m layout
there_lose hs n m layout None x = x
there_lose hs n m layout (Some s) x =
    record { hart = hart_loses n s x.hart; is = get_map (hart_loses n s) hs m x.hart x.is; live = (by (x.hart.number == n)).0 ∙ x.live; on = (by (x.hart.number == n)).1 ∙ x.on }
  where
    by : (b : Bool) → ((if b then x.hart else reserves_on x.hart (kept_from s x.hart.reserved)).live ≡ x.hart.live) × ((if b then x.hart else reserves_on x.hart (kept_from s x.hart.reserved)).layout ≡ x.hart.layout)
    by true = (refl, refl)
    by false = (refl, refl)

there_more : (hs : List Hart) (m layout : ℕ) (h : Hart) → IsThere hs m layout → IsThere (hs ++ h ∷ []) m layout
there_more hs m layout h x = record { hart = x.hart; is = get_before hs h m x.hart x.is; live = x.live; on = x.on }

there_call : (o : Setting) (s : Shuffled) (n m layout : ℕ) (h : Hart) (c : CallDid) → m ≢ n → IsThere s.harts m layout → IsThere (after_call o s n h c).harts m layout
there_call o s n m layout h (Answers v more) ne x = there_set s.harts n m layout (set_hart h 10 v) ne x
there_call o s n m layout h (Reads a bytes) ne x = there_lose (slice_set s.harts n (set_hart h 10 (length bytes))) n m layout (Some (stored_at a (length bytes))) (there_set s.harts n m layout (set_hart h 10 (length bytes)) ne x)
there_call o s n m layout h (Starts f a0 sp tp) ne x = there_more (slice_set s.harts n (set_hart h 10 (length s.harts))) m layout (new_hart o h.layout (length s.harts) f a0 sp tp) (there_set s.harts n m layout (set_hart h 10 (length s.harts)) ne x)
there_call o s n m layout h (ExitsHart code) ne x = there_set s.harts n m layout (ended_hart h code) ne x
there_call o s n m layout h (ExitsRun code) ne x = x
there_call o s n m layout h LeaksWord ne x = x

there_after : (o : Setting) (s : Shuffled) (n m layout : ℕ) (h : Hart) (out : Outcome Hart Owned) → m ≢ n → IsThere s.harts m layout → IsThere (after o s n h out).harts m layout
there_after o s n m layout h (Goes h') ne x = there_set s.harts n m layout h' ne x
there_after o s n m layout h (Puts h' w c stored) ne x = there_lose (slice_set s.harts n h') n m layout stored (there_set s.harts n m layout h' ne x)
there_after o s n m layout h Calls ne x = there_call o s n m layout h (call_of o.image.regions o.image.rows (hart_asks s h)) ne x
there_after o s n m layout h Quits ne x = there_set s.harts n m layout (ended_hart h _) ne x
there_after o s n m layout h (Traps k v) ne x = x
there_after o s n m layout h Leaks ne x = x

there_step : (o : Setting) (s : Shuffled) (n m layout : ℕ) → m ≢ n → IsThere s.harts m layout → IsThere (shuffled_step o n s).harts m layout
unfolding shuffled_step
there_step o s n m layout ne x = by (slice_get s.harts n)
  where
    by : (y : Option Hart) → IsThere (on_hart o s n y).harts m layout
    by None = x
    by (Some h) = there_after o s n m layout h (moved_of o h s.words) ne x

there_all : (o : Setting) (k n m layout : ℕ) (s : Shuffled) → m ≢ n → IsThere s.harts m layout → IsThere (instructions o n k s).harts m layout
there_all o zero n m layout s ne x = x
there_all o (suc k) n m layout s ne x = there_all o k n m layout (shuffled_step o n s) ne (there_step o s n m layout ne x)

-- ---- lists of numbers

-- no number stands twice
abbrev pub Apart : List ℕ → Type 0
Apart [] = Unit {0}
Apart (k ∷ ks) = (is_among k ks ≡ false) × Apart ks

-- what one of them is
abbrev pub IsIn : List Thread → ℕ → ℕ → Type 0
IsIn ts base n = (j : ℕ) × (t : Thread) × (n ≡ base + j) × (slice_get ts j ≡ Some t) × (t.live ≡ true)

pub among_live : (ts : List Thread) (base n : ℕ) → is_among n (live_from base ts) ≡ true → IsIn ts base n
among_live [] base n e = absurd (cc)
among_live (x ∷ ts) base n e = by x.live refl (among_live ts (base + 1) n) e
  where
    later : IsIn ts (base + 1) n → IsIn (x ∷ ts) base n
    later r = (suc r.0, r.1, more r.0 r.2, r.3, r.4)
      where
        more : (j : ℕ) → n ≡ base + 1 + j → n ≡ base + suc j
        more j q = omega (arith, q)

    by : (b : Bool) → x.live ≡ b → (is_among n (live_from (base + 1) ts) ≡ true → IsIn ts (base + 1) n) → is_among n (if b then base ∷ live_from (base + 1) ts else live_from (base + 1) ts) ≡ true → IsIn (x ∷ ts) base n
    by false l ih e = later (ih e)
    by true l ih e = at (base == n) refl e
      where
        at : (c : Bool) → (base == n) ≡ c → (if c then true else is_among n (live_from (base + 1) ts)) ≡ true → IsIn (x ∷ ts) base n
        at true q e = (0, x, here, refl, l)
          where
            here : n ≡ base + 0
            here = grind (arith, nat_tests)
        at false q e = later (ih e)

live_apart : (ts : List Thread) (base : ℕ) → Apart (live_from base ts)
live_apart [] base = tt
live_apart (x ∷ ts) base = by x.live (live_apart ts (base + 1))
  where
    fresh : (b : Bool) → is_among base (live_from (base + 1) ts) ≡ b → b ≡ false
    fresh true e = let r = among_live ts (base + 1) base e in absurd (omega (arith, r.2))
    fresh false e = refl

    by : (b : Bool) → Apart (live_from (base + 1) ts) → Apart (if b then base ∷ live_from (base + 1) ts else live_from (base + 1) ts)
    by true ih = (fresh (is_among base (live_from (base + 1) ts)) refl, ih)
    by false ih = ih

clash : (b : Bool) → b ≡ true → b ≡ false → ⊥
clash b x y = cc

-- what is left without one of them
left_among : (ks : List ℕ) (n m : ℕ) → is_among m (without n ks) ≡ true → is_among m ks ≡ true
left_among [] n m e = e
left_among (k ∷ ks) n m e = by (k == n) (k == m) (left_among ks n m) (push (k == n) e)
  where
    push : (b : Bool) → is_among m (if b then ks else k ∷ without n ks) ≡ true → (if b then is_among m ks else if k == m then true else is_among m (without n ks)) ≡ true
    push true e = e
    push false e = e

    by : (b c : Bool) → (is_among m (without n ks) ≡ true → is_among m ks ≡ true) → (if b then is_among m ks else if c then true else is_among m (without n ks)) ≡ true → (if c then true else is_among m ks) ≡ true
    by b true ih e = refl
    by true false ih e = e
    by false false ih e = ih e

apart_without : (ks : List ℕ) (n : ℕ) → Apart ks → Apart (without n ks)
apart_without [] n a = tt
apart_without (k ∷ ks) n a = by (k == n) (apart_without ks n a.1)
  where
    fresh : (b : Bool) → is_among k (without n ks) ≡ b → b ≡ false
    fresh true e = absurd (clash _ (left_among ks n k e) a.0)
    fresh false e = refl

    by : (b : Bool) → Apart (without n ks) → Apart (if b then ks else k ∷ without n ks)
    by true ih = a.1
    by false ih = (fresh (is_among k (without n ks)) refl, ih)

gone : (ks : List ℕ) (n : ℕ) → Apart ks → is_among n (without n ks) ≡ false
gone [] n a = refl
gone (k ∷ ks) n a = by (k == n) refl (gone ks n a.1)
  where
    by : (b : Bool) → (k == n) ≡ b → is_among n (without n ks) ≡ false → is_among n (if b then ks else k ∷ without n ks) ≡ false
    by true q ih = subst (λ y. is_among y ks ≡ false) (eq_of k n q) a.0
    by false q ih = ap (λ c. if c then true else is_among n (without n ks)) q ∙ ih

-- ---- the harts that are behind

pub record IsOff (hs : List Hart) (newest m : ℕ) : Type 0 where
  pub layout : ℕ
  pub there : IsThere hs m layout
  pub off : layout ≢ newest

pub record AreBehind (s : Shuffled) (b : Pace) : Type 0 where
  pub off : (m : ℕ) → is_among m b.behind ≡ true → IsOff s.harts s.newest m
  pub apart : Apart b.behind

not_next : (newest k l : ℕ) (older : Bool) → k ≡ newest + 1 → IsOn newest older l → l ≢ k
not_next newest k l older e (inl q) = λ r. absurd (omega (arith, e, q, r))
not_next newest k l older e (inr q) = λ r. absurd (omega (arith, e, q.1, r))

opens : (o : Setting) → AreBehind (state_after o []) (pace_after o.image o.input [])
unfolding state_after pace_after
opens o = record { off = λ m a. absurd (cc); apart = tt }

module _ (cipher : IsCipher) (o : Setting) (fi : IsSetting o) where
  event_behind : (period : ℕ) (e : Event) (s : Shuffled) (u : Unmoved) (b : Pace) → Stays o s u → b.guest ≡ u → is_allowed o e s ≡ true → keeps_pace period e b ≡ true → AreBehind s b → AreBehind (after_event o e s) (paced_on o.image e b)
  event_behind period (Run n k) s u b g q c p w =
      let same = all_same o n k s in
      record {
        off = λ m a.
            let x = w.off m a in
            let ne : m ≢ n = λ r. clash _ (subst (λ y. is_among y b.behind ≡ true) r a) (not_true _ (and_first _ _ (and_second (is_alive (slice_get b.guest.threads n)) _ p))) in
            record { layout = x.layout; there = there_all o k n m x.layout s ne x.there; off = λ r. x.off (r ∙ same.newest) };
        apart = w.apart;
      }
  event_behind period (Migrate n) s u b g q c p w = at (slice_get s.harts n) (and_second _ _ c)
    where
      at : (y : Option Hart) → is_off s.newest y ≡ true → AreBehind (migrate o s n y) (paced_on o.image (Migrate n) b)
      at None l = absurd (cc)
      at (Some h) l =
          record {
            off = λ m a.
                let x = w.off m (left_among b.behind n m a) in
                let ne : m ≢ n = λ r. clash _ (subst (λ y. is_among y (without n b.behind) ≡ true) r a) (gone b.behind n w.apart) in
                record { layout = x.layout; there = there_set s.harts n m x.layout (migrated o s.newest h) ne x.there; off = x.off };
            apart = apart_without b.behind n w.apart;
          }
  event_behind period (Publish k) s u b g q c p w =
      record {
        off = λ m a. found m (among_live u.threads 0 m (subst (λ (v : Unmoved). is_among m (live_from 0 v.threads) ≡ true) q a));
        apart = live_apart b.guest.threads 0;
      }
    where
      next : k ≡ s.newest + 1
      next = eq_of k (s.newest + 1) (and_second (not s.older) (k == s.newest + 1) (and_second (goes_still s.end) (not s.older && (k == s.newest + 1)) c))

      at : (m : ℕ) (t : Thread) (y : Option Hart) → slice_get s.harts m ≡ y → GetStands o y (Some t) → t.live ≡ true → OptionOn s.newest s.older y → IsOff s.harts k m
      at m t None e gs l on = absurd gs
      at m t (Some h) e gs l on = record { layout = h.layout; there = record { hart = h; is = e; live = gs.live ∙ l; on = refl }; off = not_next s.newest k h.layout s.older next (on (gs.live ∙ l)) }

      found : (m : ℕ) → IsIn u.threads 0 m → IsOff s.harts k m
      found m r =
          let z : m ≡ r.0 = omega (arith, r.2) in
          subst (IsOff s.harts k) (sym z) (at r.0 r.1 (slice_get s.harts r.0) refl (subst (GetStands o (slice_get s.harts r.0)) r.3 (get_stands o s.harts u.threads r.0 g.stands.harts)) r.4 (get_on s.newest s.older s.harts r.0 g.on))
  event_behind period (Erase k) s u b g q c p w = record { off = w.off; apart = w.apart }

  -- ---- whole journals

  one_more : (period : ℕ) (es : List Event) (e : Event) → IsLegalIn o (es ++ e ∷ []) → IsPaced o.image o.input period (es ++ e ∷ []) → AreBehind (state_after o es) (pace_after o.image o.input es) → AreBehind (state_after o (es ++ e ∷ [])) (pace_after o.image o.input (es ++ e ∷ []))
  one_more period es e l p w =
      let k = legal_before o es (e ∷ []) l in
      let r = event_behind period e (state_after o es) (unmoved_run o.image o.input (written es)) (pace_after o.image o.input es) (law cipher o es fi k) (guest_stands o es) (legal_after o es (e ∷ []) l).0 (and_first _ _ (paced_after o.image o.input period es (e ∷ []) p)) w in
      subst (λ s. AreBehind s (pace_after o.image o.input (es ++ e ∷ []))) (sym (state_more o es (e ∷ []))) (subst (AreBehind (after_event o e (state_after o es))) (sym (pace_more o.image o.input es (e ∷ []))) r)

  pub behind_stand : (period : ℕ) (es : List Event) → IsLegalIn o es → IsPaced o.image o.input period es → AreBehind (state_after o es) (pace_after o.image o.input es)
  behind_stand period es l p = by_prefix o period (λ fs. AreBehind (state_after o fs) (pace_after o.image o.input fs)) (opens o) (one_more period) es l p

  -- ---- what may come

  all_in_both : (k n : ℕ) (s : Shuffled) (u : Unmoved) → Stays o s u → can_all o n k s ≡ all_go o.image (replicate k n) u
  all_in_both zero n s u g = refl
  all_in_both (suc k) n s u g = by (can_run s n) refl (λ c. all_in_both k n _ _ (one_stands cipher o fi s u n g.stands g.ok g.owned g.on c))
    where
      same : can_run s n ≡ can_go u n
      same = runs_in_both o s u n g.stands

      by : (b : Bool) → can_run s n ≡ b → (can_run s n ≡ true → can_all o n k (shuffled_step o n s) ≡ all_go o.image (replicate k n) (unmoved_step o.image n u)) → (can_run s n && can_all o n k (shuffled_step o n s)) ≡ (can_go u n && all_go o.image (replicate k n) (unmoved_step o.image n u))
      by true c ih = ap (λ b. b && can_all o n k (shuffled_step o n s)) same ∙ ap (λ b. can_go u n && b) (ih c)
      by false c ih = ap (λ b. b && can_all o n k (shuffled_step o n s)) c ∙ sym (ap (λ b. b && all_go o.image (replicate k n) (unmoved_step o.image n u)) (sym same ∙ c))

all_on_if : (newest : ℕ) (hs : List Hart) → ((m : ℕ) (h : Hart) → slice_get hs m ≡ Some h → h.live ≡ true → h.layout ≡ newest) → all_on newest hs ≡ true
all_on_if newest [] f = refl
all_on_if newest (h ∷ hs) f = both h.live refl (all_on_if newest hs (λ m x e l. f (suc m) x e l))
  where
    both : (b : Bool) → h.live ≡ b → all_on newest hs ≡ true → ((not b || (h.layout == newest)) && all_on newest hs) ≡ true
    both false q ih = ih
    both true q ih = let e : (h.layout == newest) ≡ true = same h.layout (f 0 h refl q) in ap (λ b. b && all_on newest hs) e ∙ ih
      where
        same : (l : ℕ) → l ≡ newest → (l == newest) ≡ true
        same l e = grind (arith, nat_tests)

not_on : (newest : ℕ) (hs : List Hart) (m : ℕ) (h : Hart) → slice_get hs m ≡ Some h → h.live ≡ true → h.layout ≢ newest → all_on newest hs ≡ false
not_on newest [] m h e l ne = absurd (cc)
not_on newest (x ∷ hs) zero h e l ne =
    let q : x ≡ h = cc in
    let f : (not x.live || (x.layout == newest)) ≡ false = ap (λ (y : Hart). not y.live || (y.layout == newest)) q ∙ ap (λ b. not b || (h.layout == newest)) l ∙ other h.layout ne in
    ap (λ b. b && all_on newest hs) f
  where
    other : (l : ℕ) → l ≢ newest → (l == newest) ≡ false
    other l ne = grind (arith, nat_tests)
not_on newest (x ∷ hs) (suc m) h e l ne = ap (λ b. (not x.live || (x.layout == newest)) && b) (not_on newest hs m h e l ne) ∙ none (not x.live || (x.layout == newest))
  where
    none : (b : Bool) → (b && false) ≡ false
    none true = refl
    none false = refl

off_is : (newest n : ℕ) (behind : List ℕ) (hs : List Hart) → AreOn newest behind hs → ((m : ℕ) → is_among m behind ≡ true → IsOff hs newest m) → is_off newest (slice_get hs n) ≡ is_among n behind
off_is newest n behind hs on off = by (is_among n behind) refl (slice_get hs n) refl
  where
    is_true : (h : Hart) → h.live ≡ true → h.layout ≢ newest → is_off newest (Some h) ≡ true
    is_true h l ne = ap (λ b. b && not (h.layout == newest)) l ∙ ap not (other h.layout ne)
      where
        other : (l : ℕ) → l ≢ newest → (l == newest) ≡ false
        other l ne = grind (arith, nat_tests)

    is_false : (h : Hart) (b : Bool) → h.live ≡ b → slice_get hs n ≡ Some h → is_among n behind ≡ false → is_off newest (Some h) ≡ false
    is_false h false l e nb = ap (λ b. b && not (h.layout == newest)) l
    is_false h true l e nb = ap (λ b. b && not (h.layout == newest)) l ∙ ap not (same h.layout (on n h e l nb))
      where
        same : (l : ℕ) → l ≡ newest → (l == newest) ≡ true
        same l e = grind (arith, nat_tests)

    by : (b : Bool) → is_among n behind ≡ b → (y : Option Hart) → slice_get hs n ≡ y → is_off newest y ≡ b
    by true a y e = let x = off n a in subst (λ z. is_off newest z ≡ true) (sym x.there.is ∙ e) (is_true x.there.hart x.there.live (λ r. x.off (sym x.there.on ∙ r)))
    by false a None e = refl
    by false a (Some h) e = is_false h h.live refl e a

on_is : (newest : ℕ) (behind : List ℕ) (hs : List Hart) → AreOn newest behind hs → ((m : ℕ) → is_among m behind ≡ true → IsOff hs newest m) → all_on newest hs ≡ is_none behind
on_is newest [] hs on off = all_on_if newest hs (λ m h e l. on m h e l refl)
on_is newest (k ∷ ks) hs on off = let x = off k (ap (λ b. if b then true else is_among k ks) (same k)) in not_on newest hs k x.there.hart x.there.is x.there.live (λ r. x.off (sym x.there.on ∙ r))
  where
    same : (k : ℕ) → (k == k) ≡ true
    same k = grind (arith, nat_tests)

-- where the pace stands as the state, the same events come
comes : (cipher : IsCipher) (o : Setting) (fi : IsSetting o) (e : Event) (s : Shuffled) (u : Unmoved) (b : Pace) → Stays o s u → b.guest ≡ u → StandsPaced s b → AreBehind s b → is_allowed o e s ≡ may_come o.image e b
comes cipher o fi (Run n k) s u b g q st w = ap (λ x. nat_lt 0 k && x) (all_in_both cipher o fi k n s u g ∙ ap (all_go o.image (replicate k n)) (sym q))
comes cipher o fi (Migrate n) s u b g q st w =
    ap (λ e. goes_still e && is_off s.newest (slice_get s.harts n)) (g.stands.end ∙ ap (λ (v : Unmoved). v.end) (sym q))
    ∙ ap (λ x. goes_still b.guest.end && x) (off_is s.newest n b.behind s.harts st.on w.off)
comes cipher o fi (Publish k) s u b g q st w =
    ap (λ e. goes_still e && (not s.older && (k == s.newest + 1))) (g.stands.end ∙ ap (λ (v : Unmoved). v.end) (sym q))
    ∙ ap (λ x. goes_still b.guest.end && (not x && (k == s.newest + 1))) st.older
    ∙ ap (λ x. goes_still b.guest.end && (not b.older && (k == x + 1))) st.newest
comes cipher o fi (Erase k) s u b g q st w =
    ap (λ e. goes_still e && (s.older && ((k + 1 == s.newest) && all_on s.newest s.harts))) (g.stands.end ∙ ap (λ (v : Unmoved). v.end) (sym q))
    ∙ ap (λ x. goes_still b.guest.end && (s.older && ((k + 1 == s.newest) && x))) (on_is s.newest b.behind s.harts st.on w.off)
    ∙ ap (λ x. goes_still b.guest.end && (x && ((k + 1 == s.newest) && is_none b.behind))) st.older
    ∙ ap (λ x. goes_still b.guest.end && (b.older && ((k + 1 == x) && is_none b.behind))) st.newest

pub allowed_is : IsCipher → (o : Setting) (period : ℕ) (es : List Event) (e : Event) → IsSetting o → IsLegalIn o es → IsPaced o.image o.input period es → is_allowed o e (state_after o es) ≡ may_come o.image e (pace_after o.image o.input es)
allowed_is cipher o period es e fi l p =
    comes cipher o fi e (state_after o es) (unmoved_run o.image o.input (written es)) (pace_after o.image o.input es) (law cipher o es fi l) (guest_stands o es) (paced_stands cipher o fi period es l p) (behind_stand cipher o fi period es l p)
