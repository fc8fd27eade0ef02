-- SPDX-License-Identifier: Apache-2.0
-- How what is still to come of a list of events shrinks.
use Rattle.std.proofs.Common.{◌≡◌, List, [], ◌∷◌, ◌++◌, Result, Ok, Err, OnOk, OnErr, refl, sym, ap, ◌∙◌, subst, append_assoc, append-nil}
use Rattle.sh_types.specs.declared.code.Image.{Image}
use Rattle.sh_types.specs.declared.runs.Event.{Event}
use Rattle.sh_machines.specs.Pace.{paced_on, followed}
use Rattle.sh_law.proofs.Prefixes.{pace_more}
use Rattle.shuf_machine.specs.declared.answers.Origin.{Origin}
use Rattle.shuf_machine.specs.Past.{Past}
use Rattle.hart_runner.specs.Standing.{image_in, pace_of, with_events, Still, IsPart}

pub still_first : (p : Past) (es : List Event) → Still p es p es
still_first p es = record { image = refl; origin = refl; is = refl }

pub still_on : (p q q' : Past) (es xs fs : List Event) → Still p es q (xs ++ fs) → q' ≡ with_events q xs → Still p es q' fs
still_on p q q' es xs fs s e = subst (λ r. Still p es r fs) (sym e) (record { image = s.image; origin = s.origin; is = append_assoc q.journal xs fs ∙ s.is })

pub still_last : (p q : Past) (es : List Event) → Still p es q [] → q ≡ with_events p es
still_last p q es s =
    let j : q.journal ≡ p.journal ++ es = sym (append-nil q.journal) ∙ s.is in
    ap (λ (i : Image). record { image = i; origin = q.origin; journal = q.journal }) s.image
    ∙ ap (λ (o : Origin). record { image = p.image; origin = o; journal = q.journal }) s.origin
    ∙ ap (λ l. record { image = p.image; origin = p.origin; journal = l }) j

pub part_same : (p q q' : Past) (es fs : List Event) → Still p es q fs → q' ≡ q → IsPart es p q'
part_same p q q' es fs s e = record { rest = fs; still = subst (λ r. Still p es r fs) (sym e) s }

pub part_within : (p q q' : Past) (es xs fs : List Event) → Still p es q (xs ++ fs) → IsPart xs q q' → IsPart es p q'
part_within p q q' es xs fs s t =
    record {
      rest = t.rest ++ fs;
      still = record {
        image = t.still.image ∙ s.image;
        origin = t.still.origin ∙ s.origin;
        is = sym (append_assoc q'.journal t.rest fs) ∙ ap (λ l. l ++ fs) t.still.is ∙ append_assoc q.journal xs fs ∙ s.is;
      };
    }

-- ---- where a journal stands

pub pace_then : (q q' : Past) (es : List Event) → q' ≡ with_events q es → pace_of q' ≡ followed (image_in q) es (pace_of q)
pace_then q q' es h = ap pace_of h ∙ pace_more (image_in q) q.origin.input q.journal es

pub pace_next : (q q' : Past) (e : Event) → q' ≡ with_events q (e ∷ []) → pace_of q' ≡ paced_on (image_in q) e (pace_of q)
pace_next q q' e h = ap pace_of h ∙ pace_more (image_in q) q.origin.input q.journal (e ∷ [])

-- ---- results

pub on_err : {A E : Type 0} {P : Type 0} (r : Result A E) → P → OnErr r P
on_err (Ok a) p = tt
on_err (Err e) p = p

pub err_then : {A E : Type 0} {P Q : Type 0} (r : Result A E) → (P → Q) → OnErr r P → OnErr r Q
err_then (Ok a) f p = tt
err_then (Err e) f p = f p

pub ok_then : {A E : Type 0} {P Q : Type 0} (r : Result A E) → (P → Q) → OnOk r P → OnOk r Q
ok_then (Ok a) f p = f p
ok_then (Err e) f p = tt
