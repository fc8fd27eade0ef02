-- SPDX-License-Identifier: Apache-2.0
-- Lists of events that are one list after another.
use Rattle.std.proofs.Common.{◌≡◌, ℕ, Bool, true, List, [], ◌∷◌, ◌++◌, refl, sym, subst, arith, append_assoc}
use Rattle.std.proofs.lemmas.List.{append-nil}
use Rattle.std.specs.Prelude.{◌&&◌}
use Rattle.sh_types.specs.declared.code.Image.{Image}
use Rattle.sh_types.specs.declared.runs.Event.{Event}
use Rattle.sh_machines.specs.Event.{after_event, shuffled_from, IsLegalFrom, state_after, IsLegalIn}
use Rattle.sh_machines.specs.Pace.{Pace, paced_on, followed, keeps_pace, all_keep, opening_pace, pace_after, IsPaced}
use Rattle.sh_machines.specs.Shuffled.{Setting, Shuffled, shuffled_start}
use Rattle.sh_law.proofs.Lists.{and_first, and_second}

pub both_true : (a b : Bool) → a ≡ true → b ≡ true → (a && b) ≡ true
both_true a b e f = grind arith

-- ---- of the shuffled machine

pub shuffled_append : (o : Setting) (es fs : List Event) (s : Shuffled) → shuffled_from o (es ++ fs) s ≡ shuffled_from o fs (shuffled_from o es s)
shuffled_append o [] fs s = refl
shuffled_append o (e ∷ es) fs s = shuffled_append o es fs (after_event o e s)

pub legal_append : (o : Setting) (es fs : List Event) (s : Shuffled) → IsLegalFrom o s es → IsLegalFrom o (shuffled_from o es s) fs → IsLegalFrom o s (es ++ fs)
legal_append o [] fs s k l = l
legal_append o (e ∷ es) fs s k l = (k.0, legal_append o es fs (after_event o e s) k.1 l)

pub legal_first : (o : Setting) (es fs : List Event) (s : Shuffled) → IsLegalFrom o s (es ++ fs) → IsLegalFrom o s es
legal_first o [] fs s l = tt
legal_first o (e ∷ es) fs s l = (l.0, legal_first o es fs (after_event o e s) l.1)

pub legal_rest : (o : Setting) (es fs : List Event) (s : Shuffled) → IsLegalFrom o s (es ++ fs) → IsLegalFrom o (shuffled_from o es s) fs
legal_rest o [] fs s l = l
legal_rest o (e ∷ es) fs s l = legal_rest o es fs (after_event o e s) l.1

pub state_more : (o : Setting) (es fs : List Event) → state_after o (es ++ fs) ≡ shuffled_from o fs (state_after o es)
unfolding state_after
state_more o es fs = shuffled_append o es fs (shuffled_start o)

pub legal_more : (o : Setting) (es fs : List Event) → IsLegalIn o es → IsLegalFrom o (state_after o es) fs → IsLegalIn o (es ++ fs)
unfolding state_after IsLegalIn
legal_more o es fs k l = legal_append o es fs (shuffled_start o) k l

pub legal_before : (o : Setting) (es fs : List Event) → IsLegalIn o (es ++ fs) → IsLegalIn o es
unfolding IsLegalIn
legal_before o es fs l = legal_first o es fs (shuffled_start o) l

pub legal_after : (o : Setting) (es fs : List Event) → IsLegalIn o (es ++ fs) → IsLegalFrom o (state_after o es) fs
unfolding state_after IsLegalIn
legal_after o es fs l = legal_rest o es fs (shuffled_start o) l

-- ---- of the pace

pub followed_append : (i : Image) (es fs : List Event) (b : Pace) → followed i (es ++ fs) b ≡ followed i fs (followed i es b)
followed_append i [] fs b = refl
followed_append i (e ∷ es) fs b = followed_append i es fs (paced_on i e b)

pub keep_append : (i : Image) (p : ℕ) (es fs : List Event) (b : Pace) → all_keep i p es b ≡ true → all_keep i p fs (followed i es b) ≡ true → all_keep i p (es ++ fs) b ≡ true
keep_append i p [] fs b k l = l
keep_append i p (e ∷ es) fs b k l = both_true _ _ (and_first _ _ k) (keep_append i p es fs (paced_on i e b) (and_second (keeps_pace p e b) _ k) l)

pub keep_first : (i : Image) (p : ℕ) (es fs : List Event) (b : Pace) → all_keep i p (es ++ fs) b ≡ true → all_keep i p es b ≡ true
keep_first i p [] fs b k = refl
keep_first i p (e ∷ es) fs b k = both_true _ _ (and_first _ _ k) (keep_first i p es fs (paced_on i e b) (and_second (keeps_pace p e b) _ k))

pub keep_rest : (i : Image) (p : ℕ) (es fs : List Event) (b : Pace) → all_keep i p (es ++ fs) b ≡ true → all_keep i p fs (followed i es b) ≡ true
keep_rest i p [] fs b k = k
keep_rest i p (e ∷ es) fs b k = keep_rest i p es fs (paced_on i e b) (and_second (keeps_pace p e b) _ k)

pub pace_more : (i : Image) (input : List ℕ) (es fs : List Event) → pace_after i input (es ++ fs) ≡ followed i fs (pace_after i input es)
unfolding pace_after
pace_more i input es fs = followed_append i es fs (opening_pace i input)

pub paced_more : (i : Image) (input : List ℕ) (p : ℕ) (es fs : List Event) → IsPaced i input p es → all_keep i p fs (pace_after i input es) ≡ true → IsPaced i input p (es ++ fs)
unfolding pace_after IsPaced
paced_more i input p es fs k l = keep_append i p es fs (opening_pace i input) k l

pub paced_before : (i : Image) (input : List ℕ) (p : ℕ) (es fs : List Event) → IsPaced i input p (es ++ fs) → IsPaced i input p es
unfolding IsPaced
paced_before i input p es fs k = keep_first i p es fs (opening_pace i input) k

pub paced_after : (i : Image) (input : List ℕ) (p : ℕ) (es fs : List Event) → IsPaced i input p (es ++ fs) → all_keep i p fs (pace_after i input es) ≡ true
unfolding pace_after IsPaced
paced_after i input p es fs k = keep_rest i p es fs (opening_pace i input) k

-- ---- along a journal

-- what holds at first, and of a journal with one event more, holds of each legal, paced journal
pub by_prefix : (o : Setting) (period : ℕ) (P : List Event → Type 0) → P [] → ((es : List Event) (e : Event) → IsLegalIn o (es ++ e ∷ []) → IsPaced o.image o.input period (es ++ e ∷ []) → P es → P (es ++ e ∷ [])) → (es : List Event) → IsLegalIn o es → IsPaced o.image o.input period es → P es
by_prefix o period P first more es l p = rest es [] l p first
  where
    rest : (fs es : List Event) → IsLegalIn o (es ++ fs) → IsPaced o.image o.input period (es ++ fs) → P es → P (es ++ fs)
    rest [] es l p w = subst P (sym (append-nil es)) w
    rest (e ∷ fs) es l p w =
        let q : (es ++ e ∷ []) ++ fs ≡ es ++ e ∷ fs = append_assoc es (e ∷ []) fs in
        let l' = subst (IsLegalIn o) (sym q) l in
        let p' = subst (IsPaced o.image o.input period) (sym q) p in
        subst P q (rest fs (es ++ e ∷ []) l' p' (more es e (legal_before o (es ++ e ∷ []) fs l') (paced_before o.image o.input period (es ++ e ∷ []) fs p') w))
