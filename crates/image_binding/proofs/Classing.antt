-- SPDX-License-Identifier: Apache-2.0
-- The classes of one function more.
use Rattle.std.proofs.Common.{◌≡◌, ℕ, zero, suc, ◌+◌, ◌<◌, ◌≤◌, List, [], ◌∷◌, ◌++◌, length, drop, append_assoc, refl, sym, ap, ◌∙◌, arith, add-one}
use Rattle.std.specs.Prelude.{IfOk, Result, Ok, Err, get_or, slice_index_or}
use Rattle.sh_types.specs.declared.code.Function.{Function}
use Rattle.sh_types.specs.declared.code.Pair.{Pair}
use Rattle.sh_types.specs.declared.relocs.Reloc.{Reloc}
use Rattle.sh_types.specs.declared.runs.NoMemory.{NoMemory}
use Rattle.fn_sites.specs.Index.{Tells}
use Rattle.image_binding.specs.declared.binding.Binding.{Binding}
use Rattle.image_binding.specs.Binds.{IsBinding, source}
use Rattle.sh_types.specs.declared.code.Site.{Site}
use Rattle.image_rules.specs.Bound.{classes_of, sites_from}
use Rattle.sh_machines.specs.Class.{Source}

get_or_any : {A : Type 0} (xs : List A) (i : ℕ) (d e : A) → i < length xs → get_or xs i d ≡ get_or xs i e
get_or_any [] i d e l = absurd (omega (arith, l))
get_or_any (x ∷ xs) zero d e l = refl
get_or_any (x ∷ xs) (suc i) d e l = get_or_any xs i d e (omega (arith, l))

step : (source : ℕ → Source) (j i : ℕ) (fs : List Function) → i < length fs → sites_from source j (drop i fs) ≡ classes_of (source j) ∷ sites_from source (suc j) (drop (suc i) fs)
step source j i [] l = absurd (omega (arith, l))
step source j zero (f ∷ fs) l = refl
step source j (suc i) (f ∷ fs) l = step source j i fs (omega (arith, l))

pub sites_next : (source : ℕ → Source) (i : ℕ) (fs : List Function) → i < length fs → sites_from source i (drop i fs) ≡ classes_of (source i) ∷ sites_from source (i + 1) (drop (i + 1) fs)
sites_next source i fs l = step source i i fs l ∙ ap (λ k. classes_of (source i) ∷ sites_from source k (drop k fs)) (sym (add-one i))

none_left : (i : ℕ) (fs : List Function) → length fs ≤ i → drop i fs ≡ []
none_left i [] l = nothing i
  where
    nothing : (i : ℕ) → drop i (let none : List Function = [] in none) ≡ []
    nothing zero = refl
    nothing (suc i) = refl
none_left zero (f ∷ fs) l = absurd (omega (arith, l))
none_left (suc i) (f ∷ fs) l = none_left i fs (omega (arith, l))

pub sites_none : (source : ℕ → Source) (i : ℕ) (fs : List Function) → length fs ≤ i → sites_from source i (drop i fs) ≡ []
sites_none source i fs l = ap (sites_from source i) (none_left i fs l)

-- what is said for all records and labels that an index tells is said for those that it was made of
pub function_classes : (x : Binding) (words : List (List ℕ)) (entry func : ℕ) (ws element : List ℕ) (result : Result (List Site) NoMemory) → IsBinding x → func < length words → ws ≡ element → element ≡ get_or words func element → IfOk result (λ found. (relocs : List Reloc) (labels : List Pair) → Tells x.index relocs labels → found ≡ classes_of (record { func = func; functions = x.functions; words = ws; relocs = relocs; labels = labels; entry = entry })) → IfOk result (λ found. found ≡ classes_of (source x words entry func))
function_classes x words entry func ws element (Ok found) h l e is all =
    let own : ws ≡ slice_index_or words func [] = e ∙ is ∙ get_or_any words func element [] l in
    all x.relocs x.labels h.tells ∙ ap (λ (vs : List ℕ). classes_of (record { func = func; functions = x.functions; words = vs; relocs = x.relocs; labels = x.labels; entry = entry })) own
function_classes x words entry func ws element (Err fault) h l e is all = tt

pub one_more_function : (source : ℕ → Source) (i : ℕ) (fs : List Function) (sites : List (List Site)) (found : List Site) (all : List (List Site)) → i < length fs → found ≡ classes_of (source i) → sites ++ sites_from source i (drop i fs) ≡ all → (sites ++ found ∷ []) ++ sites_from source (i + 1) (drop (i + 1) fs) ≡ all
one_more_function source i fs sites found all l e h =
    append_assoc sites (found ∷ []) _ ∙ ap (λ f. sites ++ f ∷ sites_from source (i + 1) (drop (i + 1) fs)) e ∙ ap (λ ss. sites ++ ss) (sym (sites_next source i fs l)) ∙ h
