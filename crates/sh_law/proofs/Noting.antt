-- SPDX-License-Identifier: Apache-2.0
-- Instructions that are run ahead come out the same wherever the hart and the words that they touch are the same.
use Rattle.std.proofs.Common.{◌≡◌, ℕ, zero, suc, ◌+◌, ◌<◌, ◌≤◌, Bool, true, false, Option, Some, None, List, [], ◌∷◌, refl, sym, ap, ◌∙◌, subst, arith}
use Rattle.std.specs.Prelude.{map, ◌==◌, ◌||◌, if◌then◌else◌}
use Rattle.std.proofs.lemmas.Bool.Decides.{nat_tests}
use Rattle.sh_types.specs.declared.runs.Hart.{Hart}
use Rattle.sh_machines.specs.Need.{Outcome, Goes, Puts, Calls, Quits, Traps, Leaks, Need, answered, touched}
use Rattle.sh_machines.specs.Notes.{Note, with_words, Touched, noted, Ahead, over, touch, touch_if, more_stores, next_needs, is_stop, goes_ahead, ahead_from, set_off, ahead_of, notes_in, effects_in, notes_of, effects_of, Hold, is_noted, AreOnce}
use Rattle.sh_machines.specs.Shuffled.{Setting, Owned, moved_of}

-- ---- a word that is touched

-- what is noted stays noted
touch_keeps : (m m' : ℕ → Owned) (w : ℕ) (c : Owned) (xs : List Touched) → Hold m' (map noted (touch m w c xs)) → Hold m' (map noted xs)
touch_keeps m m' w c [] h = tt
touch_keeps m m' w c (x ∷ xs) h = by (x.word == w) h (touch_keeps m m' w c xs)
  where
    by : (b : Bool) → Hold m' (map noted (if b then record { word = x.word; before = x.before; now = c } ∷ xs else x ∷ touch m w c xs)) → (Hold m' (map noted (touch m w c xs)) → Hold m' (map noted xs)) → Hold m' (map noted (x ∷ xs))
    by true h ih = h
    by false h ih = (h.0, ih h.1)

over_same : (m m' : ℕ → Owned) (w : ℕ) (c : Owned) (xs : List Touched) → Hold m' (map noted (touch m w c xs)) → over xs m' w ≡ over xs m w
over_same m m' w c [] h = h.0
over_same m m' w c (x ∷ xs) h = by (x.word == w) h (over_same m m' w c xs)
  where
    by : (b : Bool) → Hold m' (map noted (if b then record { word = x.word; before = x.before; now = c } ∷ xs else x ∷ touch m w c xs)) → (Hold m' (map noted (touch m w c xs)) → over xs m' w ≡ over xs m w) → (if b then x.now else over xs m' w) ≡ (if b then x.now else over xs m w)
    by true h ih = refl
    by false h ih = ih h.1

touch_same : (m m' : ℕ → Owned) (w : ℕ) (c : Owned) (xs : List Touched) → Hold m' (map noted (touch m w c xs)) → touch m' w c xs ≡ touch m w c xs
touch_same m m' w c [] h = ap (λ (b : Owned). record { word = w; before = b; now = c } ∷ []) h.0
touch_same m m' w c (x ∷ xs) h = by (x.word == w) h (touch_same m m' w c xs)
  where
    by : (b : Bool) → Hold m' (map noted (if b then record { word = x.word; before = x.before; now = c } ∷ xs else x ∷ touch m w c xs)) → (Hold m' (map noted (touch m w c xs)) → touch m' w c xs ≡ touch m w c xs) → (if b then record { word = x.word; before = x.before; now = c } ∷ xs else x ∷ touch m' w c xs) ≡ (if b then record { word = x.word; before = x.before; now = c } ∷ xs else x ∷ touch m w c xs)
    by true h ih = refl
    by false h ih = ap (λ ys. x ∷ ys) (ih h.1)

if_keeps : (m m' : ℕ → Owned) (t : Option ℕ) (xs : List Touched) → Hold m' (map noted (touch_if m t xs)) → Hold m' (map noted xs)
if_keeps m m' None xs h = h
if_keeps m m' (Some w) xs h = touch_keeps m m' w (over xs m w) xs h

if_over : (m m' : ℕ → Owned) (t : Option ℕ) (xs : List Touched) → Hold m' (map noted (touch_if m t xs)) → (w : ℕ) → t ≡ Some w → over xs m' w ≡ over xs m w
if_over m m' None xs h w e = absurd (cc)
if_over m m' (Some v) xs h w e = let q : v ≡ w = cc in subst (λ x. over xs m' x ≡ over xs m x) q (over_same m m' v (over xs m v) xs h)

if_same : (m m' : ℕ → Owned) (t : Option ℕ) (xs : List Touched) → Hold m' (map noted (touch_if m t xs)) → touch_if m' t xs ≡ touch_if m t xs
if_same m m' None xs h = refl
if_same m m' (Some w) xs h = ap (λ c. touch m' w c xs) (over_same m m' w (over xs m w) xs h) ∙ touch_same m m' w (over xs m w) xs h

-- ---- the notes of a turn grow

step_keeps : (m m' : ℕ → Owned) (out : Outcome Hart Owned) (a : Ahead) (xs : List Touched) (on : Ahead → Ahead) → (Hold m' (map noted xs) → Hold m' (notes_in a)) → ((b : Ahead) → Hold m' (notes_in (on b)) → Hold m' (notes_in b)) → Hold m' (notes_in (goes_ahead m out a xs on)) → Hold m' (notes_in a)
step_keeps m m' (Goes h) a xs on f g n = f (g _ n)
step_keeps m m' (Puts h w c stored) a xs on f g n = f (touch_keeps m m' w c xs (g _ n))
step_keeps m m' Calls a xs on f g n = n
step_keeps m m' Quits a xs on f g n = n
step_keeps m m' (Traps kind value) a xs on f g n = n
step_keeps m m' Leaks a xs on f g n = n

pub notes_keep : (o : Setting) (m m' : ℕ → Owned) (k : ℕ) (a : Ahead) → Hold m' (notes_in (ahead_from o m k a)) → Hold m' (notes_in a)
notes_keep o m m' zero a n = n
notes_keep o m m' (suc k) a n =
    step_keeps m m' (answered (next_needs o a.hart) (over a.touched m)) a (touch_if m (touched (next_needs o a.hart)) a.touched) (λ b. ahead_from o m k b) (if_keeps m m' (touched (next_needs o a.hart)) a.touched) (notes_keep o m m' k) n

-- ---- each word is noted once, as it stands before the turn

touch_holds : (m : ℕ → Owned) (w : ℕ) (c : Owned) (xs : List Touched) → Hold m (map noted xs) → Hold m (map noted (touch m w c xs))
touch_holds m w c [] h = (refl, tt)
touch_holds m w c (x ∷ xs) h = by (x.word == w) (touch_holds m w c xs h.1)
  where
    by : (b : Bool) → Hold m (map noted (touch m w c xs)) → Hold m (map noted (if b then record { word = x.word; before = x.before; now = c } ∷ xs else x ∷ touch m w c xs))
    by true ih = h
    by false ih = (h.0, ih)

touch_others : (m : ℕ → Owned) (w : ℕ) (c : Owned) (xs : List Touched) (v : ℕ) → (w == v) ≡ false → is_noted v (map noted (touch m w c xs)) ≡ is_noted v (map noted xs)
touch_others m w c [] v e = ap (λ b. b || false) e
touch_others m w c (x ∷ xs) v e = by (x.word == w) (touch_others m w c xs v e)
  where
    by : (b : Bool) → is_noted v (map noted (touch m w c xs)) ≡ is_noted v (map noted xs) → is_noted v (map noted (if b then record { word = x.word; before = x.before; now = c } ∷ xs else x ∷ touch m w c xs)) ≡ ((x.word == v) || is_noted v (map noted xs))
    by true ih = refl
    by false ih = ap (λ b. (x.word == v) || b) ih

touch_once : (m : ℕ → Owned) (w : ℕ) (c : Owned) (xs : List Touched) → AreOnce (map noted xs) → AreOnce (map noted (touch m w c xs))
touch_once m w c [] h = (refl, tt)
touch_once m w c (x ∷ xs) h = by (x.word == w) refl (touch_once m w c xs h.1)
  where
    by : (b : Bool) → (x.word == w) ≡ b → AreOnce (map noted (touch m w c xs)) → AreOnce (map noted (if b then record { word = x.word; before = x.before; now = c } ∷ xs else x ∷ touch m w c xs))
    by true e ih = h
    by false e ih = (touch_others m w c xs x.word (turned x.word w e) ∙ h.0, ih)
      where
        turned : (v w : ℕ) → (v == w) ≡ false → (w == v) ≡ false
        turned v w e = grind (arith, nat_tests)

-- the notes are so
pub record AreNotes (m : ℕ → Owned) (xs : List Note) : Type 0 where
  pub here : Hold m xs
  pub once : AreOnce xs

touch_notes : (m : ℕ → Owned) (w : ℕ) (c : Owned) (xs : List Touched) → AreNotes m (map noted xs) → AreNotes m (map noted (touch m w c xs))
touch_notes m w c xs n = record { here = touch_holds m w c xs n.here; once = touch_once m w c xs n.once }

if_notes : (m : ℕ → Owned) (t : Option ℕ) (xs : List Touched) → AreNotes m (map noted xs) → AreNotes m (map noted (touch_if m t xs))
if_notes m None xs n = n
if_notes m (Some w) xs n = touch_notes m w (over xs m w) xs n

step_notes : (m : ℕ → Owned) (out : Outcome Hart Owned) (a : Ahead) (xs : List Touched) (on : Ahead → Ahead) → AreNotes m (notes_in a) → AreNotes m (map noted xs) → ((b : Ahead) → AreNotes m (notes_in b) → AreNotes m (notes_in (on b))) → AreNotes m (notes_in (goes_ahead m out a xs on))
step_notes m (Goes h) a xs on n p f = f _ p
step_notes m (Puts h w c stored) a xs on n p f = f _ (touch_notes m w c xs p)
step_notes m Calls a xs on n p f = n
step_notes m Quits a xs on n p f = n
step_notes m (Traps kind value) a xs on n p f = n
step_notes m Leaks a xs on n p f = n

from_notes : (o : Setting) (m : ℕ → Owned) (k : ℕ) (a : Ahead) → AreNotes m (notes_in a) → AreNotes m (notes_in (ahead_from o m k a))
from_notes o m zero a n = n
from_notes o m (suc k) a n =
    step_notes m (answered (next_needs o a.hart) (over a.touched m)) a (touch_if m (touched (next_needs o a.hart)) a.touched) (λ b. ahead_from o m k b) n (if_notes m (touched (next_needs o a.hart)) a.touched n) (from_notes o m k)

pub turn_notes : (o : Setting) (k : ℕ) (h : Hart) (m : ℕ → Owned) → AreNotes m (notes_of o k h m)
unfolding notes_of ahead_of
turn_notes o k h m = from_notes o m k (set_off h) (record { here = tt; once = tt })

-- ---- how far a turn comes

-- it comes so far, and is the turn of just so many instructions
pub record Comes (o : Setting) (m : ℕ → Owned) (k : ℕ) (a end : Ahead) : Type 0 where
  pub count : ℕ
  pub few : count ≤ k
  pub is : end.count ≡ a.count + count
  pub same : ahead_from o m count a ≡ end

comes_step : (o : Setting) (m : ℕ → Owned) (k : ℕ) (a : Ahead) (out : Outcome Hart Owned) → answered (next_needs o a.hart) (over a.touched m) ≡ out → ((b : Ahead) → Comes o m k b (ahead_from o m k b)) → Comes o m (suc k) a (goes_ahead m out a (touch_if m (touched (next_needs o a.hart)) a.touched) (λ b. ahead_from o m k b))
comes_step o m k a (Goes h) e f =
    let xs = touch_if m (touched (next_needs o a.hart)) a.touched in
    let r = f (record { hart = h; count = a.count + 1; touched = xs; stores = a.stores }) in
    record { count = suc r.count; few = omega (arith, r.few); is = omega (arith, r.is); same = ap (λ x. goes_ahead m x a xs (λ b. ahead_from o m r.count b)) e ∙ r.same }
comes_step o m k a (Puts h w c stored) e f =
    let xs = touch_if m (touched (next_needs o a.hart)) a.touched in
    let r = f (record { hart = h; count = a.count + 1; touched = touch m w c xs; stores = more_stores a.stores stored }) in
    record { count = suc r.count; few = omega (arith, r.few); is = omega (arith, r.is); same = ap (λ x. goes_ahead m x a xs (λ b. ahead_from o m r.count b)) e ∙ r.same }
comes_step o m k a Calls e f = record { count = 0; few = omega arith; is = omega arith; same = refl }
comes_step o m k a Quits e f = record { count = 0; few = omega arith; is = omega arith; same = refl }
comes_step o m k a (Traps kind value) e f = record { count = 0; few = omega arith; is = omega arith; same = refl }
comes_step o m k a Leaks e f = record { count = 0; few = omega arith; is = omega arith; same = refl }

pub comes : (o : Setting) (m : ℕ → Owned) (k : ℕ) (a : Ahead) → Comes o m k a (ahead_from o m k a)
comes o m zero a = record { count = 0; few = omega arith; is = omega arith; same = refl }
comes o m (suc k) a = comes_step o m k a (answered (next_needs o a.hart) (over a.touched m)) refl (comes o m k)

-- ---- where a turn stops

abbrev Stopped : Setting → (ℕ → Owned) → Ahead → Type 0
Stopped o m e = is_stop (answered (next_needs o e.hart) (over e.touched m)) ≡ true

stop_step : (o : Setting) (m : ℕ → Owned) (k : ℕ) (a : Ahead) (xs : List Touched) (out : Outcome Hart Owned) → answered (next_needs o a.hart) (over a.touched m) ≡ out → ((b : Ahead) → (ahead_from o m k b).count < b.count + k → Stopped o m (ahead_from o m k b)) → (goes_ahead m out a xs (λ b. ahead_from o m k b)).count < a.count + suc k → Stopped o m (goes_ahead m out a xs (λ b. ahead_from o m k b))
stop_step o m k a xs (Goes h) e f l = f _ (omega (arith, l))
stop_step o m k a xs (Puts h w c stored) e f l = f _ (omega (arith, l))
stop_step o m k a xs Calls e f l = ap is_stop e
stop_step o m k a xs Quits e f l = ap is_stop e
stop_step o m k a xs (Traps kind value) e f l = ap is_stop e
stop_step o m k a xs Leaks e f l = ap is_stop e

stops : (o : Setting) (m : ℕ → Owned) (k : ℕ) (a : Ahead) → (ahead_from o m k a).count < a.count + k → Stopped o m (ahead_from o m k a)
stops o m zero a l = absurd (omega (arith, l))
stops o m (suc k) a l = stop_step o m k a (touch_if m (touched (next_needs o a.hart)) a.touched) (answered (next_needs o a.hart) (over a.touched m)) refl (stops o m k) l

pub turn_stops : (o : Setting) (k : ℕ) (h : Hart) (m : ℕ → Owned) → (effects_of o k h m).count < k → is_stop (moved_of o (effects_of o k h m).hart (with_words (effects_of o k h m).words m)) ≡ true
unfolding effects_of ahead_of
turn_stops o k h m l = stops o m k (set_off h) (omega (arith, l))

-- ---- the same turn

step_same : (m m' : ℕ → Owned) (c : ℕ) (a : Ahead) (xs xs' : List Touched) (out out' : Outcome Hart Owned) (on on' : Ahead → Ahead)
    → ((b : Ahead) → (on b).count ≡ b.count + c → Hold m' (notes_in (on b)) → on' b ≡ on b)
    → ((b : Ahead) → Hold m' (notes_in (on b)) → Hold m' (notes_in b))
    → (Hold m' (map noted xs) → (out' ≡ out) × (xs' ≡ xs))
    → (goes_ahead m out a xs on).count ≡ a.count + suc c
    → Hold m' (notes_in (goes_ahead m out a xs on))
    → goes_ahead m' out' a xs' on' ≡ goes_ahead m out a xs on
step_same m m' c a xs xs' (Goes h) out' on on' f g s n q =
    let b : Ahead = record { hart = h; count = a.count + 1; touched = xs; stores = a.stores } in
    let e = s (g b q) in
    ap (λ x. goes_ahead m' x a xs' on') e.0 ∙ ap (λ (ys : List Touched). on' (record { hart = h; count = a.count + 1; touched = ys; stores = a.stores })) e.1 ∙ f b (omega (arith, n)) q
step_same m m' c a xs xs' (Puts h w d stored) out' on on' f g s n q =
    let b : Ahead = record { hart = h; count = a.count + 1; touched = touch m w d xs; stores = more_stores a.stores stored } in
    let k = g b q in
    let e = s (touch_keeps m m' w d xs k) in
    ap (λ x. goes_ahead m' x a xs' on') e.0
    ∙ ap (λ (ys : List Touched). on' (record { hart = h; count = a.count + 1; touched = touch m' w d ys; stores = more_stores a.stores stored })) e.1
    ∙ ap (λ (ys : List Touched). on' (record { hart = h; count = a.count + 1; touched = ys; stores = more_stores a.stores stored })) (touch_same m m' w d xs k)
    ∙ f b (omega (arith, n)) q
step_same m m' c a xs xs' Calls out' on on' f g s n q = absurd (omega (arith, n))
step_same m m' c a xs xs' Quits out' on on' f g s n q = absurd (omega (arith, n))
step_same m m' c a xs xs' (Traps kind value) out' on on' f g s n q = absurd (omega (arith, n))
step_same m m' c a xs xs' Leaks out' on on' f g s n q = absurd (omega (arith, n))

-- what is said of one instruction: it sees the one word that it touches
abbrev pub SeesOne : Type 0
SeesOne = (need : Need Hart Owned) (m n : ℕ → Owned) → ((w : ℕ) → touched need ≡ Some w → m w ≡ n w) → answered need m ≡ answered need n

from_same : SeesOne → (o : Setting) (m m' : ℕ → Owned) (c : ℕ) (a : Ahead) → (ahead_from o m c a).count ≡ a.count + c → Hold m' (notes_in (ahead_from o m c a)) → ahead_from o m' c a ≡ ahead_from o m c a
from_same sees o m m' zero a n q = refl
from_same sees o m m' (suc c) a n q =
    let need : Need Hart Owned = next_needs o a.hart in
    step_same m m' c a (touch_if m (touched need) a.touched) (touch_if m' (touched need) a.touched) (answered need (over a.touched m)) (answered need (over a.touched m')) (λ b. ahead_from o m c b) (λ b. ahead_from o m' c b) (from_same sees o m m' c) (notes_keep o m m' c)
    (λ h. (sees need (over a.touched m') (over a.touched m) (if_over m m' (touched need) a.touched h), if_same m m' (touched need) a.touched h))
    n q

-- ---- the law

pub turn_comes : (o : Setting) (k : ℕ) (h : Hart) (m : ℕ → Owned) → Comes o m k (set_off h) (ahead_of o k h m)
unfolding ahead_of
turn_comes o k h m = comes o m k (set_off h)

ahead_is : (o : Setting) (k : ℕ) (h : Hart) (m : ℕ → Owned) → ahead_of o k h m ≡ ahead_from o m k (set_off h)
unfolding ahead_of
ahead_is o k h m = refl

-- a turn is that of its count
pub turn_of_count : (o : Setting) (k : ℕ) (h : Hart) (m : ℕ → Owned) → ahead_of o (ahead_of o k h m).count h m ≡ ahead_of o k h m
turn_of_count o k h m = let r = turn_comes o k h m in let e : (ahead_of o k h m).count ≡ r.count = omega (arith, r.is) in ap (λ j. ahead_of o j h m) e ∙ ahead_is o r.count h m ∙ r.same

pub turn_few : (o : Setting) (k : ℕ) (h : Hart) (m : ℕ → Owned) → (ahead_of o k h m).count ≤ k
turn_few o k h m = let r = turn_comes o k h m in omega (arith, r.is, r.few)

pub turn_same : SeesOne → (o : Setting) (k : ℕ) (h : Hart) (m m' : ℕ → Owned) → Hold m' (notes_in (ahead_of o k h m)) → ahead_of o (ahead_of o k h m).count h m' ≡ ahead_of o k h m
turn_same sees o k h m m' q =
    let r = turn_comes o k h m in
    let e : (ahead_of o k h m).count ≡ r.count = omega (arith, r.is) in
    let n : (ahead_from o m r.count (set_off h)).count ≡ 0 + r.count = ap (λ (a : Ahead). a.count) r.same ∙ r.is in
    ap (λ j. ahead_of o j h m') e ∙ ahead_is o r.count h m' ∙ from_same sees o m m' r.count (set_off h) n (subst (λ a. Hold m' (notes_in a)) (sym r.same) q) ∙ r.same

pub notes_same : SeesOne → (o : Setting) (k : ℕ) (h : Hart) (m m' : ℕ → Owned) → Hold m' (notes_of o k h m) → notes_of o (effects_of o k h m).count h m' ≡ notes_of o k h m
unfolding notes_of effects_of
notes_same sees o k h m m' q = ap notes_in (turn_same sees o k h m m' q)

pub effects_same : SeesOne → (o : Setting) (k : ℕ) (h : Hart) (m m' : ℕ → Owned) → Hold m' (notes_of o k h m) → effects_of o (effects_of o k h m).count h m' ≡ effects_of o k h m
unfolding notes_of effects_of
effects_same sees o k h m m' q = ap effects_in (turn_same sees o k h m m' q)

pub notes_count : (o : Setting) (k : ℕ) (h : Hart) (m : ℕ → Owned) → notes_of o (effects_of o k h m).count h m ≡ notes_of o k h m
unfolding notes_of effects_of
notes_count o k h m = ap notes_in (turn_of_count o k h m)

pub effects_count : (o : Setting) (k : ℕ) (h : Hart) (m : ℕ → Owned) → effects_of o (effects_of o k h m).count h m ≡ effects_of o k h m
unfolding effects_of
effects_count o k h m = ap effects_in (turn_of_count o k h m)

pub count_few : (o : Setting) (k : ℕ) (h : Hart) (m : ℕ → Owned) → (effects_of o k h m).count ≤ k
unfolding effects_of
count_few o k h m = turn_few o k h m
