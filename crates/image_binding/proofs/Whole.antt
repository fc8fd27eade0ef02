-- SPDX-License-Identifier: Apache-2.0
-- The image from its parts.
use Rattle.std.proofs.Common.{◌≡◌, ℕ, suc, List, [], ◌∷◌, refl, sym, ap, subst, ◌∙◌}
use Rattle.std.specs.Prelude.{map, slice_index_or, unwrap_or}
use Rattle.sh_types.specs.declared.code.Function.{Function}
use Rattle.sh_types.specs.declared.code.Image.{Image}
use Rattle.sh_types.specs.declared.code.Pair.{Pair}
use Rattle.sh_types.specs.declared.code.Region.{Region}
use Rattle.sh_types.specs.declared.code.Site.{Site}
use Rattle.sh_types.specs.declared.relocs.Reloc.{Reloc}
use Rattle.elf_rules.specs.Coded.{IsCoded}
use Rattle.fn_sites.specs.Index.{Tells}
use Rattle.image_binding.specs.declared.binding.Binding.{Binding}
use Rattle.image_binding.specs.Binds.{AreCoded, IsBindingOf, made_of, source}
use Rattle.image_binding.proofs.Bounds.{coded_functions}
use Rattle.elf_rules.specs.Bindable.{entry_number, file_functions, loaded_image}
use Rattle.elf_rules.specs.Elf.{entry_of, sections_of, symbols_of}
use Rattle.elf_rules.specs.Relocs.{relocs_of}
use Rattle.elf_rules.specs.Splitting.{functions_of}
use Rattle.image_rules.specs.Binding.{labels_of, rows_of}
use Rattle.image_rules.specs.Bound.{bound_image, bound_parts, bound_regions, bound_words, classes_of, sites_from, tokens_of, with_sites}
use Rattle.sh_machines.specs.Class.{Source, source_of}
use Rattle.sh_types.specs.Image.{number_of, starts_of}

pub functions_are : (b : List ℕ) (fs : List Function) → fs ≡ functions_of (symbols_of b) (sections_of b) (entry_of b) → fs ≡ file_functions b
unfolding file_functions
functions_are b fs e = e

pub entry_is : (b : List ℕ) (fs : List Function) (start entry : ℕ) → fs ≡ file_functions b → start ≡ entry_of b → entry ≡ unwrap_or (number_of (starts_of fs) start) 0 → entry ≡ entry_number b
entry_is b fs start entry f s e =
    e ∙ ap (λ gs. unwrap_or (number_of (starts_of gs) start) 0) f ∙ ap (λ a. unwrap_or (number_of (starts_of (file_functions b)) a) 0) s

-- the parts of the image of a file
pub record AreParts (b : List ℕ) (fs : List Function) (entry : ℕ) (words : List (List ℕ)) (sites : List (List Site)) (rows : List ℕ) (labels : List Pair) (regions : List Region) : Type 0 where
  pub functions : fs ≡ file_functions b
  pub number : entry ≡ entry_number b
  pub bound : words ≡ map (bound_words b (file_functions b) (relocs_of b)) (file_functions b)
  pub classes : sites ≡ sites_from (source_of (bound_parts b (file_functions b) (relocs_of b)) (relocs_of b)) 0 (file_functions b)
  pub taken : rows ≡ rows_of (file_functions b) (relocs_of b)
  pub named : labels ≡ labels_of (file_functions b) (relocs_of b)
  pub memory : regions ≡ bound_regions b (tokens_of (file_functions b) (labels_of (file_functions b) (relocs_of b)) (relocs_of b))

bound_is : (b : List ℕ) → bound_image b ≡ made_of (file_functions b) (entry_number b) (map (bound_words b (file_functions b) (relocs_of b)) (file_functions b)) (sites_from (source_of (bound_parts b (file_functions b) (relocs_of b)) (relocs_of b)) 0 (file_functions b)) (rows_of (file_functions b) (relocs_of b)) (labels_of (file_functions b) (relocs_of b)) (bound_regions b (tokens_of (file_functions b) (labels_of (file_functions b) (relocs_of b)) (relocs_of b)))
unfolding bound_image with_sites bound_parts loaded_image
bound_is b = refl

pub image_is : (b : List ℕ) (fs : List Function) (entry : ℕ) (words : List (List ℕ)) (sites : List (List Site)) (rows : List ℕ) (labels : List Pair) (regions : List Region) → AreParts b fs entry words sites rows labels regions → made_of fs entry words sites rows labels regions ≡ bound_image b
image_is b fs entry words sites rows labels regions p =
    rw (p.functions, p.number, p.bound, p.classes, p.taken, p.named, p.memory) (sym (bound_is b))

pub labels_are : (b : List ℕ) (x : Binding) → IsBindingOf b x → x.labels ≡ labels_of (file_functions b) (relocs_of b)
labels_are b x h = h.binds.labels ∙ ap (λ fs. labels_of fs x.relocs) h.functions ∙ ap (labels_of (file_functions b)) h.relocs

-- the index of what binds the image of a file finds the labels of the image
pub index_is : (b : List ℕ) (x : Binding) → IsBindingOf b x → Tells x.index (relocs_of b) (bound_image b).labels
index_is b x h =
    let labels = labels_are b x h ∙ sym (ap (λ (i : Image). i.labels) (bound_is b)) in
    subst (λ (rs : List Reloc). Tells x.index rs (bound_image b).labels) h.relocs
    (subst (λ (ls : List Pair). Tells x.index x.relocs ls) labels h.binds.tells)

-- ---- classes

abbrev source_by : List Function → List Reloc → List Pair → List (List ℕ) → ℕ → ℕ → Source
source_by fs rs ls ws entry f = record { func = f; functions = fs; words = slice_index_or ws f []; relocs = rs; labels = ls; entry = entry }

parts_source : (b : List ℕ) (f : ℕ) → source_by (file_functions b) (relocs_of b) (labels_of (file_functions b) (relocs_of b)) (map (bound_words b (file_functions b) (relocs_of b)) (file_functions b)) (entry_number b) f ≡ source_of (bound_parts b (file_functions b) (relocs_of b)) (relocs_of b) f
unfolding bound_parts loaded_image
parts_source b f = refl

same_sites : (s t : ℕ → Source) → ((f : ℕ) → s f ≡ t f) → (j : ℕ) (fs : List Function) → sites_from s j fs ≡ sites_from t j fs
same_sites s t same j [] = refl
same_sites s t same j (f ∷ fs) = ap (λ x. classes_of x ∷ sites_from s (suc j) fs) (same j) ∙ ap (λ ss. classes_of (t j) ∷ ss) (same_sites s t same (suc j) fs)

pub sites_are : (b : List ℕ) (x : Binding) (words : List (List ℕ)) (entry : ℕ) → IsBindingOf b x → words ≡ map (bound_words b (file_functions b) (relocs_of b)) (file_functions b) → entry ≡ entry_number b → sites_from (source x words entry) 0 x.functions ≡ sites_from (source_of (bound_parts b (file_functions b) (relocs_of b)) (relocs_of b)) 0 (file_functions b)
sites_are b x words entry h w e =
    let labels = labels_are b x h in
    ap (λ fs. sites_from (source_by fs x.relocs x.labels words entry) 0 fs) h.functions
    ∙ ap (λ rs. sites_from (source_by (file_functions b) rs x.labels words entry) 0 (file_functions b)) h.relocs
    ∙ ap (λ ls. sites_from (source_by (file_functions b) (relocs_of b) ls words entry) 0 (file_functions b)) labels
    ∙ ap (λ ws. sites_from (source_by (file_functions b) (relocs_of b) (labels_of (file_functions b) (relocs_of b)) ws entry) 0 (file_functions b)) w
    ∙ ap (λ n. sites_from (source_by (file_functions b) (relocs_of b) (labels_of (file_functions b) (relocs_of b)) (map (bound_words b (file_functions b) (relocs_of b)) (file_functions b)) n) 0 (file_functions b)) e
    ∙ same_sites _ _ (parts_source b) 0 (file_functions b)

-- ---- functions

pub coded_file : (b : List ℕ) (fs : List Function) → fs ≡ functions_of (symbols_of b) (sections_of b) (entry_of b) → IsCoded (bound_image b) → AreCoded fs
coded_file b fs e coded = rw (functions_are b fs e) (coded_functions b coded)

pub coded_binding : (b : List ℕ) (x : Binding) → IsBindingOf b x → IsCoded (bound_image b) → AreCoded x.functions
coded_binding b x h coded = rw h.functions (coded_functions b coded)

pub rows_are : (b : List ℕ) (fs : List Function) (rs : List Reloc) (rows : List ℕ) → fs ≡ file_functions b → rs ≡ relocs_of b → rows ≡ rows_of fs rs → rows ≡ rows_of (file_functions b) (relocs_of b)
rows_are b fs rs rows f r e = e ∙ ap (λ gs. rows_of gs rs) f ∙ ap (rows_of (file_functions b)) r
