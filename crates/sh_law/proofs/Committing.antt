-- SPDX-License-Identifier: Apache-2.0
-- The effects of a turn are what its instructions do.
use Rattle.std.proofs.Common.{◌≡◌, ℕ, zero, suc, ◌+◌, Bool, true, false, Option, Some, None, List, [], ◌∷◌, refl, sym, ap, ◌∙◌, subst, arith}
use Rattle.std.specs.Prelude.{map, slice_get, slice_set, ◌==◌, if◌then◌else◌}
use Rattle.std.proofs.Math.Path.{fun_ext}
use Rattle.std.proofs.lemmas.Bool.Decides.{nat_tests}
use Rattle.std.proofs.lemmas.List.{append-nil}
use Rattle.sh_types.specs.declared.layouts.Layout.{Layout}
use Rattle.sh_types.specs.declared.runs.End.{End}
use Rattle.sh_types.specs.declared.runs.Event.{Event}
use Rattle.sh_types.specs.declared.runs.Hart.{Hart}
use Rattle.sh_types.specs.declared.runs.Stored.{Stored}
use Rattle.sh_machines.specs.Event.{instructions, is_live, can_run, can_all, state_after, IsLegalIn, written}
use Rattle.sh_machines.specs.Fine.{IsSetting}
use Rattle.sh_machines.specs.Need.{Outcome, Goes, Puts, Calls, Quits, Traps, Leaks, answered, touched, set_at, kept_from}
use Rattle.sh_machines.specs.Notes.{Touched, Ahead, over, touch, touch_if, more_stores, next_needs, goes_ahead, ahead_from, set_off, ahead_of, effects_in, effects_of, notes_of, Hold, harts_lose_all, with_effects}
use Rattle.sh_machines.specs.Shuffled.{Setting, Owned, reserves_on, Shuffled, hart_loses, harts_lose, after, moved_of, on_hart, shuffled_step}
use Rattle.sh_machines.specs.StandsFor.{layout_number, layouts_of}
use Rattle.sh_machines.specs.Unmoved.{Thread, Content, thread_needs, Unmoved, goes_still, unmoved_step, unmoved_run}
use Rattle.sh_law.specs.Agrees.{Agrees}
use Rattle.sh_law.specs.Done.{AreDone}
use Rattle.sh_law.specs.Keeps.{IsCipher}
use Rattle.sh_law.specs.Sound.{Stays}
use Rattle.sh_law.proofs.Agreeing.{one_agrees}
use Rattle.sh_law.proofs.Lists.{and_first, and_second, GetStands, get_stands, get_at, get_map}
use Rattle.sh_law.proofs.Noting.{SeesOne, effects_same}
use Rattle.sh_law.proofs.Prefixes.{both_true}
use Rattle.sh_law.proofs.Stepping.{one_stands}
use Rattle.sh_law.proofs.Whole.{law}

-- ---- words

turned : (v w : ℕ) → (w == v) ≡ (v == w)
turned v w = grind (arith, nat_tests)

touch_at : (m : ℕ → Owned) (w : ℕ) (c : Owned) (xs : List Touched) (v : ℕ) → over (touch m w c xs) m v ≡ set_at (over xs m) w c v
touch_at m w c [] v = ap (λ b. if b then c else m v) (turned v w)
touch_at m w c (x ∷ xs) v = by (x.word == w) (x.word == v) (v == w) refl refl refl (touch_at m w c xs v)
  where
    push : (b : Bool) → over (if b then record { word = x.word; before = x.before; now = c } ∷ xs else x ∷ touch m w c xs) m v ≡ (if x.word == v then (if b then c else x.now) else (if b then over xs m v else over (touch m w c xs) m v))
    push true = refl
    push false = refl

    pick : (a b d : Bool) → x.word == w ≡ a → x.word == v ≡ b → v == w ≡ d → over (touch m w c xs) m v ≡ (if d then c else over xs m v) → (if b then (if a then c else x.now) else (if a then over xs m v else over (touch m w c xs) m v)) ≡ (if d then c else if b then x.now else over xs m v)
    pick true true true p q r ih = refl
    pick true true false p q r ih = absurd (grind (arith, nat_tests))
    pick true false true p q r ih = absurd (grind (arith, nat_tests))
    pick true false false p q r ih = refl
    pick false true true p q r ih = absurd (grind (arith, nat_tests))
    pick false true false p q r ih = refl
    pick false false true p q r ih = ih
    pick false false false p q r ih = ih

    by : (a b d : Bool) → x.word == w ≡ a → x.word == v ≡ b → v == w ≡ d → over (touch m w c xs) m v ≡ (if v == w then c else over xs m v) → over (if x.word == w then record { word = x.word; before = x.before; now = c } ∷ xs else x ∷ touch m w c xs) m v ≡ (if v == w then c else if x.word == v then x.now else over xs m v)
    by a b d p q r ih =
        push (x.word == w)
        ∙ ap (λ t. if x.word == v then (if t then c else x.now) else (if t then over xs m v else over (touch m w c xs) m v)) p
        ∙ ap (λ t. if t then (if a then c else x.now) else (if a then over xs m v else over (touch m w c xs) m v)) q
        ∙ pick a b d p q r (ih ∙ ap (λ t. if t then c else over xs m v) r)
        ∙ sym (ap (λ t. if t then c else if x.word == v then x.now else over xs m v) r ∙ ap (λ t. if d then c else if t then x.now else over xs m v) q)

over_touch : (m : ℕ → Owned) (w : ℕ) (c : Owned) (xs : List Touched) → over (touch m w c xs) m ≡ set_at (over xs m) w c
over_touch m w c xs = fun_ext (touch_at m w c xs)

set_there : (f : ℕ → Owned) (w v : ℕ) → set_at f w (f w) v ≡ f v
set_there f w v = by (v == w) refl
  where
    by : (b : Bool) → (v == w) ≡ b → (if b then f w else f v) ≡ f v
    by true e = let q : w ≡ v = grind (arith, nat_tests) in ap f q
    by false e = refl

over_if : (m : ℕ → Owned) (t : Option ℕ) (xs : List Touched) → over (touch_if m t xs) m ≡ over xs m
over_if m None xs = refl
over_if m (Some w) xs = over_touch m w (over xs m w) xs ∙ fun_ext (set_there (over xs m) w)

-- ---- harts

own_kept : (n : ℕ) (s : Stored) (h : Hart) → h.number ≡ n → hart_loses n s h ≡ h
own_kept n s h e = let q : (h.number == n) ≡ true = grind (arith, nat_tests) in ap (λ b. if b then h else reserves_on h (kept_from s h.reserved)) q

map_set : {A : Type 0} (f : A → A) (xs : List A) (k : ℕ) (y : A) → f y ≡ y → slice_set (map f xs) k y ≡ map f (slice_set xs k y)
map_set f [] k y e = refl
map_set f (x ∷ xs) zero y e = ap (λ z. z ∷ map f xs) (sym e)
map_set f (x ∷ xs) (suc k) y e = ap (λ zs. f x ∷ zs) (map_set f xs k y e)

set_twice : {A : Type 0} (xs : List A) (k : ℕ) (x y : A) → slice_set (slice_set xs k x) k y ≡ slice_set xs k y
set_twice [] k x y = refl
set_twice (z ∷ xs) zero x y = refl
set_twice (z ∷ xs) (suc k) x y = ap (λ zs. z ∷ zs) (set_twice xs k x y)

set_back : {A : Type 0} (xs : List A) (k : ℕ) (x : A) → slice_get xs k ≡ Some x → slice_set xs k x ≡ xs
set_back [] k x e = refl
set_back (z ∷ xs) zero x e = let q : x ≡ z = cc in ap (λ y. y ∷ xs) q
set_back (z ∷ xs) (suc k) x e = ap (λ zs. z ∷ zs) (set_back xs k x e)

set_all : (n : ℕ) (ss : List Stored) (hs : List Hart) (h : Hart) → h.number ≡ n → slice_set (harts_lose_all n ss hs) n h ≡ harts_lose_all n ss (slice_set hs n h)
set_all n [] hs h e = refl
set_all n (s ∷ ss) hs h e = set_all n ss (harts_lose n (Some s) hs) h e ∙ ap (harts_lose_all n ss) (map_set (hart_loses n s) hs n h (own_kept n s h e))

-- the hart itself loses nothing
get_all : (n : ℕ) (ss : List Stored) (hs : List Hart) (h : Hart) → h.number ≡ n → slice_get hs n ≡ Some h → slice_get (harts_lose_all n ss hs) n ≡ Some h
get_all n [] hs h e q = q
get_all n (s ∷ ss) hs h e q = get_all n ss (harts_lose n (Some s) hs) h e (get_map (hart_loses n s) hs n h q ∙ ap (λ (x : Hart). Some x) (own_kept n s h e))

lose_more : (n : ℕ) (ss : List Stored) (s : Option Stored) (hs : List Hart) → harts_lose n s (harts_lose_all n ss hs) ≡ harts_lose_all n (more_stores ss s) hs
lose_more n ss None hs = refl
lose_more n [] (Some s) hs = refl
lose_more n (x ∷ ss) (Some s) hs = lose_more n ss (Some s) (harts_lose n (Some x) hs)

-- ---- one more instruction

one_more : (o : Setting) (n k : ℕ) (s : Shuffled) → instructions o n (k + 1) s ≡ shuffled_step o n (instructions o n k s)
one_more o n zero s = refl
one_more o n (suc k) s = let q : suc k + 1 ≡ suc (k + 1) = omega arith in ap (λ j. instructions o n j s) q ∙ one_more o n k (shuffled_step o n s)

can_more : (o : Setting) (n k : ℕ) (s : Shuffled) → can_all o n k s ≡ true → can_run (instructions o n k s) n ≡ true → can_all o n (k + 1) s ≡ true
can_more o n zero s c r = both_true _ _ r refl
can_more o n (suc k) s c r =
    let q : suc k + 1 ≡ suc (k + 1) = omega arith in
    ap (λ j. can_all o n j s) q ∙ both_true _ _ (and_first _ _ c) (can_more o n k (shuffled_step o n s) (and_second (can_run s n) _ c) r)

-- the hart keeps its number and lives
abbrev OutSame : Hart → Outcome Hart Owned → Type 0
OutSame h (Goes h') = (h'.number ≡ h.number) × (h'.live ≡ h.live)
OutSame h (Puts h' w c stored) = (h'.number ≡ h.number) × (h'.live ≡ h.live)
OutSame h Calls = Unit {0}
OutSame h Quits = Unit {0}
OutSame h (Traps k v) = Unit {0}
OutSame h Leaks = Unit {0}

both_same : (o : Setting) (on : ℕ → Layout) (h : Hart) (t : Thread) (x : Outcome Hart Owned) (y : Outcome Thread Content) → h.number ≡ t.number → h.live ≡ t.live → Agrees o on h t x y → OutSame h x
both_same o on h t (Goes h') (Goes t') n l a = (a.stands.number ∙ a.number ∙ sym n, a.stands.live ∙ a.live ∙ sym l)
both_same o on h t (Goes h') (Puts t' w c b) n l a = absurd a
both_same o on h t (Goes h') Calls n l a = absurd a
both_same o on h t (Goes h') Quits n l a = absurd a
both_same o on h t (Goes h') (Traps k v) n l a = absurd a
both_same o on h t (Goes h') Leaks n l a = absurd a
both_same o on h t (Puts h' x d b) (Goes t') n l a = absurd a
both_same o on h t (Puts h' x d b) (Puts t' w c b') n l a = (a.both.stands.number ∙ a.both.number ∙ sym n, a.both.stands.live ∙ a.both.live ∙ sym l)
both_same o on h t (Puts h' x d b) Calls n l a = absurd a
both_same o on h t (Puts h' x d b) Quits n l a = absurd a
both_same o on h t (Puts h' x d b) (Traps k v) n l a = absurd a
both_same o on h t (Puts h' x d b) Leaks n l a = absurd a
both_same o on h t Calls y n l a = tt
both_same o on h t Quits y n l a = tt
both_same o on h t (Traps k v) y n l a = tt
both_same o on h t Leaks y n l a = tt

-- ---- a turn over a state

module _ (cipher : IsCipher) (o : Setting) (fi : IsSetting o) (s : Shuffled) (n : ℕ) (first : Hart) (there : slice_get s.harts n ≡ Some first) (still : s.end ≡ None) where
  -- the turn so far is what its instructions do to the state
  record IsSoFar (a : Ahead) : Type 0 where
    can : can_all o n a.count s ≡ true
    state : instructions o n a.count s ≡ with_effects n (effects_in a) s
    number : a.hart.number ≡ n
    live : a.hart.live ≡ true
    guest : Unmoved
    stays : Stays o (instructions o n a.count s) guest

  found : (a : Ahead) → a.hart.number ≡ n → slice_get (with_effects n (effects_in a) s).harts n ≡ Some a.hart
  unfolding with_effects
  found a e = get_all n a.stores (slice_set s.harts n a.hart) a.hart e (get_at s.harts n first a.hart there)

  runs : (a : Ahead) → a.hart.number ≡ n → a.hart.live ≡ true → can_run (with_effects n (effects_in a) s) n ≡ true
  unfolding with_effects
  runs a e l = both_true _ _ (ap goes_still still) (ap is_live (found a e) ∙ l)

  moved_is : (a : Ahead) → moved_of o a.hart (with_effects n (effects_in a) s).words ≡ answered (next_needs o a.hart) (over a.touched s.words)
  unfolding with_effects
  moved_is a = refl

  -- what an instruction changes of a state
  abbrev made : List Hart → (ℕ → Owned) → List ℕ → ℕ → Option End → Shuffled
  made hs m out c e = record { newest = s.newest; older = s.older; wiped = s.wiped; harts = hs; words = m; unread = s.unread; output = out; count = c; end = e }

  alike : (hs hs' : List Hart) (m m' : ℕ → Owned) (out out' : List ℕ) (c c' : ℕ) (e e' : Option End) → hs ≡ hs' → m ≡ m' → out ≡ out' → c ≡ c' → e ≡ e' → made hs m out c e ≡ made hs' m' out' c' e'
  alike hs hs' m m' out out' c c' e e' p q r x y =
      ap (λ z. made z m out c e) p ∙ ap (λ z. made hs' z out c e) q ∙ ap (λ z. made hs' m' z c e) r ∙ ap (λ z. made hs' m' out' z e) x ∙ ap (λ z. made hs' m' out' c' z) y

  harts_are : (a : Ahead) (h : Hart) → h.number ≡ n → slice_set (harts_lose_all n a.stores (slice_set s.harts n a.hart)) n h ≡ harts_lose_all n a.stores (slice_set s.harts n h)
  harts_are a h e = set_all n a.stores (slice_set s.harts n a.hart) h e ∙ ap (harts_lose_all n a.stores) (set_twice s.harts n a.hart h)

  goes_is : (a : Ahead) (t : Option ℕ) (h : Hart) → h.number ≡ n → after o (with_effects n (effects_in a) s) n a.hart (Goes h) ≡ with_effects n (effects_in (record { hart = h; count = a.count + 1; touched = touch_if s.words t a.touched; stores = a.stores })) s
  unfolding with_effects
  goes_is a t h e = alike _ _ _ _ _ _ _ _ _ _ (harts_are a h e) (sym (over_if s.words t a.touched)) (append-nil s.output) (omega arith) (sym still)

  puts_is : (a : Ahead) (t : Option ℕ) (h : Hart) (w : ℕ) (c : Owned) (stored : Option Stored) → h.number ≡ n → after o (with_effects n (effects_in a) s) n a.hart (Puts h w c stored) ≡ with_effects n (effects_in (record { hart = h; count = a.count + 1; touched = touch s.words w c (touch_if s.words t a.touched); stores = more_stores a.stores stored })) s
  unfolding with_effects
  puts_is a t h w c stored e =
      alike _ _ _ _ _ _ _ _ _ _ (ap (harts_lose n stored) (harts_are a h e) ∙ lose_more n a.stores stored (slice_set s.harts n h)) (sym (over_touch s.words w c (touch_if s.words t a.touched) ∙ ap (λ f. set_at f w c) (over_if s.words t a.touched))) (append-nil s.output) (omega arith) (sym still)

  step_on : (x : Shuffled) (h : Hart) → slice_get x.harts n ≡ Some h → shuffled_step o n x ≡ after o x n h (moved_of o h x.words)
  unfolding shuffled_step
  step_on x h e = ap (on_hart o x n) e

  step_is : (a : Ahead) → IsSoFar a → instructions o n (a.count + 1) s ≡ after o (with_effects n (effects_in a) s) n a.hart (answered (next_needs o a.hart) (over a.touched s.words))
  step_is a so =
      one_more o n a.count s
      ∙ ap (shuffled_step o n) so.state
      ∙ step_on (with_effects n (effects_in a) s) a.hart (found a so.number)
      ∙ ap (after o (with_effects n (effects_in a) s) n a.hart) (moved_is a)

  out_same : (a : Ahead) → IsSoFar a → OutSame a.hart (answered (next_needs o a.hart) (over a.touched s.words))
  out_same a so = by (slice_get so.guest.threads n) refl (subst (λ x. GetStands o x (slice_get so.guest.threads n)) (found a so.number) (get_stands o sa.harts so.guest.threads n g.stands.harts))
    where
      sa : Shuffled
      sa = with_effects n (effects_in a) s

      g : Stays o sa so.guest
      g = subst (λ x. Stays o x so.guest) so.state so.stays

      by : (y : Option Thread) → slice_get so.guest.threads n ≡ y → GetStands o (Some a.hart) y → OutSame a.hart (answered (next_needs o a.hart) (over a.touched s.words))
      by None e gs = absurd gs
      by (Some t) e gs =
          let ok = g.ok n t e in
          let is : layouts_of o sa.harts t.number ≡ o.layout_at a.hart.layout = ap (layouts_of o sa.harts) ok.number ∙ ap (λ x. o.layout_at (layout_number x)) (found a so.number) in
          let agrees = one_agrees cipher o fi (layouts_of o sa.harts) a.hart t sa.words so.guest.contents is g.stands.words gs (gs.runs so.live) ok.many (ok.sound (sym gs.live ∙ so.live)) in
          subst (OutSame a.hart) (moved_is a) (both_same o (layouts_of o sa.harts) a.hart t (moved_of o a.hart sa.words) (answered (thread_needs o.image t) so.guest.contents) gs.number gs.live agrees)

  -- after one more
  more : (a : Ahead) (so : IsSoFar a) (b : Ahead) → b.count ≡ a.count + 1 → instructions o n (a.count + 1) s ≡ with_effects n (effects_in b) s → b.hart.number ≡ a.hart.number → b.hart.live ≡ a.hart.live → IsSoFar b
  more a so b c e number live =
      let run : can_run (instructions o n a.count s) n ≡ true = ap (λ x. can_run x n) so.state ∙ runs a so.number so.live in
      record {
        can = ap (λ j. can_all o n j s) c ∙ can_more o n a.count s so.can run;
        state = ap (λ j. instructions o n j s) c ∙ e;
        number = number ∙ so.number;
        live = live ∙ so.live;
        guest = unmoved_step o.image n so.guest;
        stays = subst (λ x. Stays o x (unmoved_step o.image n so.guest)) (sym (ap (λ j. instructions o n j s) c ∙ one_more o n a.count s)) (one_stands cipher o fi (instructions o n a.count s) so.guest n so.stays.stands so.stays.ok so.stays.owned so.stays.on run);
      }

  on_out : (k : ℕ) (a : Ahead) (so : IsSoFar a) (out : Outcome Hart Owned) → answered (next_needs o a.hart) (over a.touched s.words) ≡ out → OutSame a.hart out → ((b : Ahead) → IsSoFar b → IsSoFar (ahead_from o s.words k b)) → IsSoFar (goes_ahead s.words out a (touch_if s.words (touched (next_needs o a.hart)) a.touched) (λ b. ahead_from o s.words k b))
  on_out k a so (Goes h) e same f =
      f _ (more a so _ refl (step_is a so ∙ ap (after o (with_effects n (effects_in a) s) n a.hart) e ∙ goes_is a (touched (next_needs o a.hart)) h (same.0 ∙ so.number)) same.0 same.1)
  on_out k a so (Puts h w c stored) e same f =
      f _ (more a so _ refl (step_is a so ∙ ap (after o (with_effects n (effects_in a) s) n a.hart) e ∙ puts_is a (touched (next_needs o a.hart)) h w c stored (same.0 ∙ so.number)) same.0 same.1)
  on_out k a so Calls e same f = so
  on_out k a so Quits e same f = so
  on_out k a so (Traps kind value) e same f = so
  on_out k a so Leaks e same f = so

  so_far : (k : ℕ) (a : Ahead) → IsSoFar a → IsSoFar (ahead_from o s.words k a)
  so_far zero a so = so
  so_far (suc k) a so = on_out k a so (answered (next_needs o a.hart) (over a.touched s.words)) refl (out_same a so) (so_far k)

  start : (u : Unmoved) → Stays o s u → first.live ≡ true → IsSoFar (set_off first)
  unfolding with_effects
  start u g l =
      record {
        can = refl;
        state = alike _ _ _ _ _ _ _ _ _ _ (sym (set_back s.harts n first there)) refl refl (omega arith) refl;
        number = by (slice_get u.threads n) refl (subst (λ x. GetStands o x (slice_get u.threads n)) there (get_stands o s.harts u.threads n g.stands.harts));
        live = l;
        guest = u;
        stays = g;
      }
    where
      by : (y : Option Thread) → slice_get u.threads n ≡ y → GetStands o (Some first) y → first.number ≡ n
      by None e gs = absurd gs
      by (Some t) e gs = gs.number ∙ (g.ok n t e).number

-- ---- the law

pub effects_done : IsCipher → (o : Setting) (es : List Event) (n k : ℕ) (h : Hart) → IsSetting o → IsLegalIn o es → can_run (state_after o es) n ≡ true → slice_get (state_after o es).harts n ≡ Some h → AreDone o n (state_after o es) (effects_of o k h (state_after o es).words)
unfolding effects_of ahead_of
effects_done cipher o es n k h fi l c e =
    let s : Shuffled = state_after o es in
    let still : s.end ≡ None = by s.end (and_first _ _ c) in
    let live : h.live ≡ true = sym (ap is_live e) ∙ and_second (goes_still s.end) _ c in
    let r = so_far cipher o fi s n h e still k (set_off h) (start cipher o fi s n h e still (unmoved_run o.image o.input (written es)) (law cipher o es fi l) live) in
    record { can = r.can; state = r.state }
  where
    by : (x : Option End) → goes_still x ≡ true → x ≡ None
    by None e = refl
    by (Some y) e = absurd (cc)

-- in any state where the noted words are the same
pub carried : IsCipher → SeesOne → (o : Setting) (es : List Event) (n k : ℕ) (h : Hart) (m : ℕ → Owned) → IsSetting o → IsLegalIn o es → can_run (state_after o es) n ≡ true → slice_get (state_after o es).harts n ≡ Some h → Hold (state_after o es).words (notes_of o k h m) → AreDone o n (state_after o es) (effects_of o k h m)
carried cipher sees o es n k h m fi l c e q = subst (AreDone o n (state_after o es)) (effects_same sees o k h m (state_after o es).words q) (effects_done cipher o es n (effects_of o k h m).count h fi l c e)
