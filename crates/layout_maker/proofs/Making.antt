-- SPDX-License-Identifier: Apache-2.0
-- The parts of a layout put together.
use Rattle.std.proofs.Common.{◌≡◌, ℕ, ◌+◌, ◌-◌, ◌*◌, ◌<◌, List, [], ◌∷◌, ◌++◌, subst, sym, ap, ◌∙◌, arith, length}
use Rattle.rand_chacha.specs.ChaCha.{ChaCha}
use Rattle.sh_types.specs.declared.layouts.Layout.{Layout}
use Rattle.sh_types.specs.Place.{cell_start}
use Rattle.layout_maker.specs.Draws.{draws_of, skip, generator_of, from_draw}
use Rattle.layout_maker.specs.Cell.{cell_by, cell_of, recent_of}
use Rattle.layout_maker.specs.Layout.{layout_of, keys_by, placed_by}
use Rattle.sh_types.specs.Place.{WellPlaced}
use Rattle.sh_types.specs.Recent.{last_64}
use Rattle.sh_types.specs.Sized.{IsSized}
use Rattle.layout_maker.proofs.Placed.{layout_placed, layout_cell, layout_sizes}
use Rattle.layout_maker.proofs.Cells.{recent_more}
use Rattle.layout_maker.proofs.Drawing.{skip_more, draws_from}

make : ℕ → ℕ → List ℕ → List ℕ → List ℕ → Layout
make k c ps ss ks = record { number = k; cell = c; places = ps; sizes = ss; keys = ks }

pub layout_is : (sizes seed : List ℕ) (k w c start : ℕ) (recent places copied keys : List ℕ) (g h i : ChaCha) → recent ≡ recent_of seed k → 0 < length sizes → g ≡ generator_of seed k → w ≡ draws_of g 0 → h ≡ skip 1 g → c ≡ cell_by w recent → start ≡ cell_start c → places ≡ placed_by (draws_of h) sizes start → i ≡ skip (2 * length sizes - 1) h → copied ≡ sizes → keys ≡ keys_by (draws_of i) → record { number = k; cell = c; places = places; sizes = copied; keys = keys } ≡ layout_of sizes seed k
unfolding make layout_of cell_of
layout_is sizes seed k w c start recent places copied keys g h i er some eg ew eh ec es ep ei ecs ek =
    let d : draws_of h ≡ from_draw 1 (draws_of (generator_of seed k)) = ap draws_of (eh ∙ ap (skip 1) eg) ∙ draws_from 1 (generator_of seed k) in
    let n : 1 + (2 * length sizes - 1) ≡ 2 * length sizes = omega arith in
    let j : i ≡ skip (2 * length sizes) (generator_of seed k) = ei ∙ ap (skip (2 * length sizes - 1)) (eh ∙ ap (skip 1) eg) ∙ skip_more (2 * length sizes - 1) 1 (generator_of seed k) ∙ ap (λ n. skip n (generator_of seed k)) n in
    let ks : keys ≡ keys_by (from_draw (2 * length sizes) (draws_of (generator_of seed k))) = ek ∙ ap (λ i. keys_by (draws_of i)) j ∙ ap keys_by (draws_from (2 * length sizes) (generator_of seed k)) in
    let cell : c ≡ cell_by (draws_of (generator_of seed k) 0) (recent_of seed k) = ec ∙ ap (λ w. cell_by w recent) (ew ∙ ap (λ g. draws_of g 0) eg) ∙ ap (cell_by (draws_of (generator_of seed k) 0)) er in
    let ps : places ≡ placed_by (from_draw 1 (draws_of (generator_of seed k))) sizes (cell_start (cell_by (draws_of (generator_of seed k) 0) (recent_of seed k))) = ep ∙ ap (λ d. placed_by d sizes start) d ∙ ap (placed_by (from_draw 1 (draws_of (generator_of seed k))) sizes) (es ∙ ap cell_start cell) in
    ap (λ c. make k c places copied keys) cell
    ∙ ap (λ ps. make k (cell_by (draws_of (generator_of seed k) 0) (recent_of seed k)) ps copied keys) ps
    ∙ ap (λ ss. make k (cell_by (draws_of (generator_of seed k) 0) (recent_of seed k)) (placed_by (from_draw 1 (draws_of (generator_of seed k))) sizes (cell_start (cell_by (draws_of (generator_of seed k) 0) (recent_of seed k)))) ss keys) ecs
    ∙ ap (make k (cell_by (draws_of (generator_of seed k) 0) (recent_of seed k)) (placed_by (from_draw 1 (draws_of (generator_of seed k))) sizes (cell_start (cell_by (draws_of (generator_of seed k) 0) (recent_of seed k)))) sizes) ks

pub made_placed : (l : Layout) (sizes seed : List ℕ) (k : ℕ) → l ≡ layout_of sizes seed k → IsSized sizes → WellPlaced l
made_placed l sizes seed k e z = subst WellPlaced (sym e) (layout_placed sizes seed k z)

pub made_recent : (l : Layout) (sizes seed recent : List ℕ) (k : ℕ) → l ≡ layout_of sizes seed k → recent ≡ recent_of seed k → 0 < k → recent_of seed (k + 1) ≡ last_64 (recent ++ l.cell ∷ [])
made_recent l sizes seed recent k e er some =
    recent_more seed k some ∙ ap (λ r. last_64 (r ++ cell_of seed k ∷ [])) (sym er) ∙ ap (λ c. last_64 (recent ++ c ∷ [])) (sym (layout_cell sizes seed k) ∙ ap (λ (l : Layout). l.cell) (sym e))

pub made_sizes : (l : Layout) (sizes seed : List ℕ) (k : ℕ) → l ≡ layout_of sizes seed k → l.sizes ≡ sizes
made_sizes l sizes seed k e = ap (λ (l : Layout). l.sizes) e ∙ layout_sizes sizes seed k
