-- SPDX-License-Identifier: Apache-2.0
-- The count of instructions goes with the events, and the cells that are kept with the layouts.
use Rattle.std.proofs.Common.{◌≡◌, ℕ, ◌+◌, ◌^◌, ◌≤◌, ◌<◌, get_or, List, [], ◌∷◌, ◌++◌, sym, ap, ◌∙◌, arith, le_trans, length, drop, replicate}
use Rattle.std.proofs.lemmas.List.{at_drop_more, length-append, length-replicate}
use Rattle.sh_types.specs.declared.runs.Event.{Event}
use Rattle.sh_types.specs.declared.runs.Event.TheVariants.{Run, Migrate, Publish, Erase}
use Rattle.sh_machines.specs.Event.{written}
use Rattle.sh_types.specs.Recent.{last_64}
use Rattle.layout_maker.specs.Cell.{cell_of, recent_of}
use Rattle.layout_maker.proofs.Cells.{recent_more}
use Rattle.period_report.specs.Text.{counted, count_after}

counted_up : (count : ℕ) (e : Event) → count ≤ counted count e
counted_up count (Run h n) = omega arith
counted_up count (Migrate h) = omega arith
counted_up count (Publish k) = omega arith
counted_up count (Erase k) = omega arith

count_up : (count : ℕ) (es : List Event) → count ≤ count_after count es
count_up count [] = omega arith
count_up count (e ∷ es) = le_trans (counted_up count e) (count_up (counted count e) es)

pub counted_small : (es : List Event) (i count total : ℕ) (d : Event) → i < length es → count_after count (drop i es) ≡ total → total < 2 ^ 64 → counted count (get_or es i d) < 2 ^ 64
counted_small es i count total d h e t =
    let m : count_after count (drop i es) ≡ count_after (counted count (get_or es i d)) (drop (i + 1) es) = at_drop_more (count_after count) es i d h in
    omega (arith, e, t, m, count_up (counted count (get_or es i d)) (drop (i + 1) es))

count_on : (count : ℕ) (es : List Event) → count_after count es ≡ count + length (written es)
count_on count [] = omega arith
count_on count (Run h n ∷ es) =
    let a : length (replicate n h ++ written es) ≡ length (replicate n h) + length (written es) = length-append (replicate n h) (written es) in
    let b : length (replicate n h) ≡ n = length-replicate n h in
    omega (arith, a, b, count_on (count + n) es)
count_on count (Migrate h ∷ es) = count_on count es
count_on count (Publish k ∷ es) = count_on count es
count_on count (Erase k ∷ es) = count_on count es

-- the events' instructions are those that are written
pub count_written : (es : List Event) → count_after 0 es ≡ length (written es)
count_written es = omega (arith, count_on 0 es)

pub kept_next : (seed recent now : List ℕ) (newest k cell : ℕ) → recent ≡ recent_of seed (newest + 1) → k ≡ newest + 1 → cell ≡ cell_of seed k → now ≡ last_64 (recent ++ cell ∷ []) → now ≡ recent_of seed (k + 1)
kept_next seed recent now newest k cell er ek ec en =
    en ∙ ap (λ r. last_64 (r ++ cell ∷ [])) (er ∙ ap (recent_of seed) (sym ek)) ∙ ap (λ c. last_64 (recent_of seed k ++ c ∷ [])) ec ∙ sym (recent_more seed k (omega arith))
