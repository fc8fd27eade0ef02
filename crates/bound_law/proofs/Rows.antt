-- SPDX-License-Identifier: Apache-2.0
-- Rows are functions whose start a record takes.
use Rattle.std.proofs.Common.{◌≡◌, ◌≢◌, ℕ, zero, suc, ◌+◌, ◌<◌, Bool, true, false, Some, None, List, [], ◌∷◌, length, refl, sym, ◌∙◌, subst, arith}
use Rattle.std.specs.Prelude.{◌&&◌, ◌||◌, slice_get, if◌then◌else◌}
use Rattle.std.specs.List.{list_any}
use Rattle.sh_types.specs.declared.code.Function.{Function}
use Rattle.sh_types.specs.declared.code.Rule.TheVariants.{EntryUsed, PointerInside}
use Rattle.sh_types.specs.declared.relocs.Reloc.{Reloc}
use Rattle.sh_machines.specs.Class.{named_by}
use Rattle.image_rules.specs.Binding.{is_data_pointer, is_pointer, is_pointer_to, rows_from, rows_of}
use Rattle.image_rules.specs.Refusals.{offset_in, record_refusal, refusal_or, splits_word}

get_low : {A : Type 0} (xs : List A) (k : ℕ) (x : A) → slice_get xs k ≡ Some x → k < length xs
get_low [] k x e = absurd (cc)
get_low (y ∷ ys) zero x e = omega arith
get_low (y ∷ ys) (suc k) x e = let l = get_low ys k x e in omega (arith, l)

record Row (j : ℕ) (fs : List Function) (relocs : List Reloc) (g : ℕ) : Type 0 where
  at : ℕ
  function : Function
  number : g ≡ j + at
  there : slice_get fs at ≡ Some function
  taken : list_any (is_pointer_to is_pointer function.home) relocs ≡ true

rows_in : (j : ℕ) (fs : List Function) (relocs : List Reloc) (k g : ℕ) → slice_get (rows_from j fs relocs) k ≡ Some g → Row j fs relocs g
rows_in j [] relocs k g e = absurd (cc)
rows_in j (f ∷ fs) relocs k g e = by (list_any (is_pointer_to is_pointer f.home) relocs) refl k e (λ k e. rows_in (suc j) fs relocs k g e)
  where
    later : Row (suc j) fs relocs g → Row j (f ∷ fs) relocs g
    later x = record { at = suc x.at; function = x.function; number = omega (arith, x.number); there = x.there; taken = x.taken }

    by : (t : Bool) → list_any (is_pointer_to is_pointer f.home) relocs ≡ t → (k : ℕ) → slice_get (if t then j ∷ rows_from (suc j) fs relocs else rows_from (suc j) fs relocs) k ≡ Some g → ((k : ℕ) → slice_get (rows_from (suc j) fs relocs) k ≡ Some g → Row (suc j) fs relocs g) → Row j (f ∷ fs) relocs g
    by true et zero e rest =
        let q : j ≡ g = cc in
        record { at = 0; function = f; number = omega (arith, q); there = refl; taken = et }
    by true et (suc k) e rest = later (rest k e)
    by false et k e rest = later (rest k e)

-- where no record takes the start of a function
no_start : (f : Function) (relocs : List Reloc) → record_refusal true f relocs ≡ None → list_any (is_pointer_to is_pointer f.home) relocs ≡ true → ⊥
no_start f [] n t = absurd (cc)
no_start f (r ∷ rs) n t = by (is_data_pointer r && splits_word f (named_by r)) (is_pointer_to is_pointer f.home r) n t (λ n t. no_start f rs n t)
  where
    by : (a b : Bool) → refusal_or (if a then Some (offset_in f (named_by r), PointerInside) else if true && b then Some (0, EntryUsed) else None) (record_refusal true f rs) ≡ None → (b || list_any (is_pointer_to is_pointer f.home) rs) ≡ true → (record_refusal true f rs ≡ None → list_any (is_pointer_to is_pointer f.home) rs ≡ true → ⊥) → ⊥
    by true b n t rest = absurd (cc)
    by false true n t rest = absurd (cc)
    by false false n t rest = rest n t

pub row_low : (functions : List Function) (relocs : List Reloc) (k g : ℕ) → slice_get (rows_of functions relocs) k ≡ Some g → g < length functions
unfolding rows_of
row_low functions relocs k g e =
    let row : Row 0 functions relocs g = rows_in 0 functions relocs k g e in
    let l = get_low functions row.at row.function row.there in
    omega (arith, l, row.number)

pub row_other : (functions : List Function) (relocs : List Reloc) (entry k g : ℕ) (f : Function) → slice_get functions entry ≡ Some f → record_refusal true f relocs ≡ None → slice_get (rows_of functions relocs) k ≡ Some g → g ≢ entry
unfolding rows_of
row_other functions relocs entry k g f is none e same =
    let row : Row 0 functions relocs g = rows_in 0 functions relocs k g e in
    let at : row.at ≡ g = omega (arith, row.number) in
    let h : slice_get functions entry ≡ Some row.function = subst (λ n. slice_get functions n ≡ Some row.function) (at ∙ same) row.there in
    let s : Some row.function ≡ Some f = sym h ∙ is in
    let q : row.function ≡ f = cc in
    no_start f relocs none (subst (λ (x : Function). list_any (is_pointer_to is_pointer x.home) relocs ≡ true) q row.taken)
