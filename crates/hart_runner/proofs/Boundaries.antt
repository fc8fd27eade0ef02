-- SPDX-License-Identifier: Apache-2.0
-- How what is still to come of a boundary shrinks, and that the journal keeps pace.
use Rattle.std.proofs.Common.{◌≡◌, ℕ, ◌+◌, ◌-◌, ◌*◌, ◌==◌, ◌&&◌, ◌≤◌, ◌<◌, true, false, Some, None, List, [], ◌∷◌, ◌++◌, length, refl, sym, ap, ◌∙◌, subst, arith, append-nil}
use Rattle.std.specs.Prelude.{if◌then◌else◌}
use Rattle.std.proofs.lemmas.Bool.Decides.{nat_tests}
use Rattle.sh_types.specs.declared.code.Image.{Image}
use Rattle.sh_types.specs.declared.runs.Event.{Event}
use Rattle.sh_types.specs.declared.runs.Event.TheVariants.{Migrate, Publish, Erase}
use Rattle.sh_machines.specs.Pace.{Pace, live_from, without, paced_on, all_keep, opening_pace, pace_after, IsPaced}
use Rattle.sh_machines.specs.Serial.{migrations, cleared_away, publication, boundary, is_due, ready}
use Rattle.sh_machines.specs.Unmoved.{goes_still}
use Rattle.pace_law.specs.Step.{InStep}
use Rattle.sh_law.proofs.Prefixes.{keep_append}
use Rattle.pace_law.proofs.Serials.{with_behind, without_first, all_move, moves_keep, cleared_follows, cleared_keeps, due_now}
use Rattle.shuf_machine.specs.Past.{Past}
use Rattle.hart_runner.specs.Standing.{image_in, pace_of, with_events, Still, IsInPace, IsAtPublication, first_of}
use Rattle.hart_runner.proofs.Stills.{still_first, still_on, still_last, pace_then, pace_next}

-- ---- keeping pace

pub paced_then : (i : Image) (input : List ℕ) (p : ℕ) (j es : List Event) → IsPaced i input p j → all_keep i p es (pace_after i input j) ≡ true → IsPaced i input p (j ++ es)
unfolding pace_after IsPaced
paced_then i input p j es k l = keep_append i p j es (opening_pace i input) k l

pub in_pace_then : (p q : Past) (es : List Event) (c : IsInPace p) → all_keep (image_in p) c.period es (pace_of p) ≡ true → q ≡ with_events p es → IsInPace q
in_pace_then p q es c k e =
    subst IsInPace (sym e) (record { period = c.period; some = c.some; paced = paced_then (image_in p) p.origin.input c.period p.journal es c.paced k })

-- ---- migrations

none_of_first : (bs : List ℕ) → None ≡ first_of bs → bs ≡ []
none_of_first [] e = refl
none_of_first (b ∷ bs) e = absurd (cc)

split_first : (bs : List ℕ) (h : ℕ) → first_of bs ≡ Some h → (hs : List ℕ) × (bs ≡ h ∷ hs)
split_first [] h e = absurd (cc)
split_first (b ∷ bs) h e = let q : b ≡ h = cc in (bs, ap (λ x. x ∷ bs) q)

pub record Moving (p : Past) (es : List Event) (q : Past) : Type 0 where
  pub still : Still p es q (migrations (pace_of q).behind)
  pub goes : goes_still (pace_of q).guest.end ≡ true
  pub pace : IsInPace q

pub moving_first : (p : Past) → goes_still (pace_of p).guest.end ≡ true → IsInPace p → Moving p (migrations (pace_of p).behind) p
moving_first p g c = record { still = still_first p (migrations (pace_of p).behind); goes = g; pace = c }

pub record Moved (p : Past) (es : List Event) (q q' : Past) : Type 0 where
  pub moving : Moving p es q'
  pub fewer : length (pace_of q').behind < length (pace_of q).behind

pub moving_on : (p q q' : Past) (es : List Event) (h : ℕ) → Moving p es q → first_of (pace_of q).behind ≡ Some h → q' ≡ with_events q (Migrate h ∷ []) → Moved p es q q'
moving_on p q q' es h v f m =
    let sp = split_first (pace_of q).behind h f in
    let next : pace_of q' ≡ paced_on (image_in q) (Migrate h) (pace_of q) = pace_next q q' (Migrate h) m in
    let n : (pace_of q').behind ≡ sp.0 = ap (λ (x : Pace). x.behind) next ∙ ap (without h) sp.1 ∙ without_first h sp.0 in
    let t : Still p es q (Migrate h ∷ [] ++ migrations sp.0) = subst (λ b. Still p es q (migrations b)) sp.1 v.still in
    record {
      moving = record {
        still = subst (λ b. Still p es q' (migrations b)) (sym n) (still_on p q q' es (Migrate h ∷ []) (migrations sp.0) t m);
        goes = ap (λ (x : Pace). goes_still x.guest.end) next ∙ v.goes;
        pace = in_pace_then q q' (Migrate h ∷ []) v.pace refl m;
      };
      fewer = omega (arith, ap length n, ap length sp.1);
    }

pub moved_all : (p q : Past) (es : List Event) → Moving p es q → None ≡ first_of (pace_of q).behind → q ≡ with_events p es
moved_all p q es v e = still_last p q es (subst (λ b. Still p es q (migrations b)) (none_of_first (pace_of q).behind e) v.still)

-- nobody is behind any more
pub record Emptied (p q : Past) : Type 0 where
  pub pace : pace_of q ≡ with_behind (pace_of p) []
  pub keeps : IsInPace q

pub emptied : (p q : Past) → IsInPace p → q ≡ with_events p (migrations (pace_of p).behind) → Emptied p q
emptied p q c e =
    record {
      pace = pace_then p q (migrations (pace_of p).behind) e ∙ all_move (image_in p) (pace_of p).behind (pace_of p) refl;
      keeps = in_pace_then p q (migrations (pace_of p).behind) c (moves_keep (image_in p) c.period (pace_of p).behind (pace_of p)) e;
    }

-- the erasure is still to come
pub erase_left : (p q r : Past) (es : List Event) → Still p es q (migrations (pace_of q).behind ++ Erase ((pace_of q).newest - 1) ∷ []) → Emptied q r → r ≡ with_events q (migrations (pace_of q).behind) → Still p es r (Erase ((pace_of r).newest - 1) ∷ [])
erase_left p q r es s m e =
    subst (λ (x : Pace). Still p es r (Erase (x.newest - 1) ∷ [])) (sym m.pace) (still_on p q r es (migrations (pace_of q).behind) (Erase ((pace_of q).newest - 1) ∷ []) s e)

-- ---- the older layout goes

pub clearing : (p : Past) → (pace_of p).older ≡ true → Still p (cleared_away (pace_of p)) p (migrations (pace_of p).behind ++ Erase ((pace_of p).newest - 1) ∷ [])
clearing p e = subst (λ x. Still p (cleared_away (pace_of p)) p x) is (still_first p (cleared_away (pace_of p)))
  where
    is : cleared_away (pace_of p) ≡ migrations (pace_of p).behind ++ Erase ((pace_of p).newest - 1) ∷ []
    is = ap (λ t. if t then migrations (pace_of p).behind ++ Erase ((pace_of p).newest - 1) ∷ [] else []) e

pub none_older : (p : Past) → (pace_of p).older ≡ false → p ≡ with_events p (cleared_away (pace_of p))
none_older p e =
    let z : cleared_away (pace_of p) ≡ [] = ap (λ t. if t then migrations (pace_of p).behind ++ Erase ((pace_of p).newest - 1) ∷ [] else []) e in
    ap (λ (j : List Event). record { image = p.image; origin = p.origin; journal = j }) (sym (append-nil p.journal) ∙ ap (λ x. p.journal ++ x) (sym z))

-- what is left when it is gone
pub record Cleared (period : ℕ) (p q : Past) : Type 0 where
  pub older : (pace_of q).older ≡ false
  pub newest : (pace_of q).newest ≡ (pace_of p).newest
  pub guest : (pace_of q).guest ≡ (pace_of p).guest
  pub at : IsAtPublication q

pub cleared : (p q : Past) (period : ℕ) → 1 ≤ period → IsPaced (image_in p) p.origin.input period p.journal → InStep period (pace_of p) → is_due period (pace_of p) ≡ true → q ≡ with_events p (cleared_away (pace_of p)) → Cleared period p q
cleared p q period l k s d e =
    let f = pace_then p q (cleared_away (pace_of p)) e ∙ cleared_follows (image_in p) (pace_of p) in
    let pace : IsInPace p = record { period = period; some = l; paced = k } in
    let newest : (pace_of q).newest ≡ (pace_of p).newest = ap (λ (x : Pace). x.newest) f in
    let due : (pace_of p).count ≡ period * (pace_of p).newest = due_now period (pace_of p) l s d in
    let keeps : IsPaced (image_in p) p.origin.input period (p.journal ++ cleared_away (pace_of p)) = paced_then (image_in p) p.origin.input period p.journal (cleared_away (pace_of p)) k (cleared_keeps (image_in p) period (pace_of p)) in
    let there : IsPaced (image_in q) q.origin.input period q.journal = subst (λ (x : Past). IsPaced (image_in x) x.origin.input period x.journal) (sym e) keeps in
    record {
      older = ap (λ (x : Pace). x.older) f;
      newest = newest;
      guest = ap (λ (x : Pace). x.guest) f;
      at = record { pace = record { period = period; some = l; paced = there }; count = ap (λ (x : Pace). x.count) f ∙ due ∙ ap (λ n. period * n) (sym newest) };
    }

-- ---- the next layout comes

-- the events of a publication from here on
abbrev pub publication_of : Past → List Event
publication_of p = publication ((pace_of p).newest + 1) (live_from 0 (pace_of p).guest.threads)

pub record Published (p q : Past) : Type 0 where
  pub still : Still p (publication_of p) q (migrations (pace_of q).behind ++ Erase ((pace_of q).newest - 1) ∷ [])
  pub older : (pace_of q).older ≡ true
  pub goes : goes_still (pace_of q).guest.end ≡ goes_still (pace_of p).guest.end
  pub pace : IsInPace q

pub published : (p q : Past) → IsAtPublication p → q ≡ with_events p (Publish ((pace_of p).newest + 1) ∷ []) → Published p q
published p q a m =
    let n : ℕ = (pace_of p).newest in
    let f : pace_of q ≡ paced_on (image_in p) (Publish (n + 1)) (pace_of p) = pace_next p q (Publish (n + 1)) m in
    let rest : List Event = migrations (live_from 0 (pace_of p).guest.threads) ++ Erase (n + 1 - 1) ∷ [] in
    let s : Still p (publication_of p) p (Publish (n + 1) ∷ [] ++ rest) = still_first p (publication_of p) in
    let d : n + 1 - 1 ≡ n = omega arith in
    let t : ((pace_of p).count == a.pace.period * (n + 1 - 1)) ≡ true = at (pace_of p).count (a.pace.period * (n + 1 - 1)) (a.count ∙ ap (λ x. a.pace.period * x) (sym d)) in
    record {
      still = subst (λ (x : Pace). Still p (publication_of p) q (migrations x.behind ++ Erase (x.newest - 1) ∷ [])) (sym f) (still_on p p q (publication_of p) (Publish (n + 1) ∷ []) rest s m);
      older = ap (λ (x : Pace). x.older) f;
      goes = ap (λ (x : Pace). goes_still x.guest.end) f;
      pace = in_pace_then p q (Publish (n + 1) ∷ []) a.pace (ap (λ b. b && true) t) m;
    }
  where
    at : (x y : ℕ) → x ≡ y → (x == y) ≡ true
    at x y e = grind (arith, nat_tests)

-- ---- making ready

pub readying : (p : Past) (period : ℕ) → is_due period (pace_of p) ≡ true → Still p (ready period (pace_of p)) p (cleared_away (pace_of p) ++ publication_of p)
readying p period e = subst (λ x. Still p (ready period (pace_of p)) p x) (ap (λ t. if t then boundary (pace_of p) else migrations (pace_of p).behind) e) (still_first p (ready period (pace_of p)))

-- the first half is done
pub half_ready : (p q : Past) (period : ℕ) → is_due period (pace_of p) ≡ true → q ≡ with_events p (cleared_away (pace_of p)) → Still p (ready period (pace_of p)) q (publication_of q ++ [])
half_ready p q period d e =
    let f = pace_then p q (cleared_away (pace_of p)) e ∙ cleared_follows (image_in p) (pace_of p) in
    let same : publication_of q ≡ publication_of p = ap (λ (x : Pace). publication (x.newest + 1) (live_from 0 x.guest.threads)) f in
    let s = still_on p p q (ready period (pace_of p)) (cleared_away (pace_of p)) (publication_of p) (readying p period d) e in
    subst (λ x. Still p (ready period (pace_of p)) q x) (sym (append-nil (publication_of q) ∙ same)) s

pub only_behind : (p : Past) (period : ℕ) → is_due period (pace_of p) ≡ false → migrations (pace_of p).behind ≡ ready period (pace_of p)
only_behind p period e = sym (ap (λ t. if t then boundary (pace_of p) else migrations (pace_of p).behind) e)
