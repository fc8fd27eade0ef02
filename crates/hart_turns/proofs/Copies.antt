-- SPDX-License-Identifier: Apache-2.0
-- The words of a copy.
use Rattle.std.proofs.Common.{◌≡◌, ℕ, ◌+◌, ◌-◌, ◌*◌, ◌/◌, ◌<◌, true, Option, Some, None, List, ap, ◌∙◌, subst, refl, sym, arith}
use Rattle.std.specs.Prelude.{slice_index}
use Rattle.std.proofs.lemmas.Bool.Decides.{nat_tests}
use Rattle.sh_types.specs.declared.code.Image.{Image}
use Rattle.sh_types.specs.declared.code.Pair.{Pair}
use Rattle.sh_types.specs.declared.layouts.CodeCopy.{CodeCopy}
use Rattle.sh_types.specs.declared.layouts.Layout.{Layout}
use Rattle.sh_machines.specs.Copy.{copied, copy_of}
use Rattle.sh_types.specs.Fetch.{InCopy, word_in}
use Rattle.sh_types.specs.Place.{cell_start, whose_of}
use Rattle.sh_machines.specs.Shuffled.{ends_there, is_guard}
use Rattle.sh_machines.proofs.Copied.{copied_at, cell_length, guard_is}
use Rattle.layout_maker.specs.Layout.{layout_of}
use Rattle.hart_turns.specs.declared.state.LiveCode.{LiveCode}
use Rattle.hart_turns.specs.declared.state.Prepared.{Prepared}
use Rattle.hart_turns.specs.Meant.{IsLive, IsMade, setting_of}

pub number_of_layout : (sizes seed : List ℕ) (k : ℕ) → (layout_of sizes seed k).number ≡ k
unfolding layout_of
number_of_layout sizes seed k = refl

copied_in : (i : Image) (l : Layout) (a : ℕ) → InCopy (copy_of i l) a → word_in (copy_of i l) a ≡ copied i l a
copied_in i l a ic =
    let k : (a - cell_start l.cell) / 4 < 262144 = omega (arith, ic.below, cell_length i l) in
    let back : cell_start l.cell + 4 * ((a - cell_start l.cell) / 4) ≡ a = omega (arith, ic.from, ic.whole) in
    copied_at i l ((a - cell_start l.cell) / 4) k ∙ ap (copied i l) back

pub copy_is : (c : LiveCode) (p : Prepared) (k : ℕ) → IsLive c → IsMade (setting_of c) k p → p.copy ≡ copy_of c.image.now p.layout
copy_is c p k ic made = made.copy ∙ ap (copy_of c.image.now) (sym made.layout)

-- the copy has the image's words
pub words_are : (c : LiveCode) (p : Prepared) (a : ℕ) → p.copy ≡ copy_of c.image.now p.layout → InCopy p.copy a → word_in p.copy a ≡ copied c.image.now p.layout a
words_are c p a e within =
    ap (λ (k : CodeCopy). word_in k a) e ∙ copied_in c.image.now p.layout a (subst (λ (k : CodeCopy). InCopy k a) e within)

guard_copied : (i : Image) (l : Layout) (a : ℕ) → is_guard l a ≡ true → copied i l a ≡ 0
unfolding is_guard
guard_copied i l a g = by (whose_of l a) refl g
  where
    by : (x : Option Pair) → whose_of l a ≡ x → ends_there l.sizes x ≡ true → copied i l a ≡ 0
    by None e t = absurd (cc)
    by (Some p) e t = let q : p.off ≡ slice_index l.sizes p.func = grind (arith, nat_tests) in guard_is i l a p e q

-- a layout with its copy has 0 at a guard
pub guards_are_zero : (c : LiveCode) (p : Prepared) (k : ℕ) → IsLive c → IsMade (setting_of c) k p → (a : ℕ) → is_guard p.layout a ≡ true → InCopy p.copy a → word_in p.copy a ≡ 0
guards_are_zero c p k ic made a g within =
    words_are c p a (copy_is c p k ic made) within ∙ guard_copied c.image.now p.layout a g
