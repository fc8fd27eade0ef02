-- SPDX-License-Identifier: Apache-2.0
-- The regions of a file with tokens in any order.
use Rattle.std.proofs.Common.{◌≡◌, ℕ, ◌+◌, List, [], ◌∷◌, ◌++◌, refl, ap, ◌∙◌}
use Rattle.std.specs.Prelude.{find, map}
use Rattle.sh_types.specs.declared.code.Region.{Region}
use Rattle.elf_rules.specs.declared.elf.Head.{Head}
use Rattle.elf_rules.specs.declared.elf.Segment.{Segment}
use Rattle.elf_rules.specs.Bindable.{codes_in_order, data_regions, file_functions, filled_in_order, rising_by}
use Rattle.elf_rules.specs.Relocs.{relocs_of}
use Rattle.image_rules.specs.declared.tokens.Token.{Token}
use Rattle.image_rules.specs.Binding.{labels_of}
use Rattle.image_rules.specs.Bound.{bound_region, bound_regions, byte_by, bytes_by, takes_byte, tokens_of}
use Rattle.sh_types.specs.Image.{first_stack}
use Rattle.image_binding.specs.declared.binding.Binding.{Binding}
use Rattle.image_binding.specs.Binds.{IsBindingOf}
use Rattle.image_binding.proofs.Whole.{labels_are}

abbrev FindSame : List Token → List Token → Type 0
FindSame ts us = (address : ℕ) → find (takes_byte address) ts ≡ find (takes_byte address) us

same_bytes : (ts us : List Token) → FindSame ts us → (address : ℕ) (xs : List ℕ) → bytes_by ts address xs ≡ bytes_by us address xs
same_bytes ts us same address [] = refl
same_bytes ts us same address (x ∷ xs) =
    ap (λ o. byte_by address o x ∷ bytes_by ts (address + 1) xs) (same address) ∙ ap (λ ys. byte_by address (find (takes_byte address) us) x ∷ ys) (same_bytes ts us same (address + 1) xs)

same_region : (ts us : List Token) → FindSame ts us → (r : Region) → bound_region ts r ≡ bound_region us r
unfolding bound_region
same_region ts us same r = ap (λ (bs : List ℕ). record r { bytes = bs }) (same_bytes ts us same r.start r.bytes)

same_regions : (ts us : List Token) → FindSame ts us → (rs : List Region) → map (bound_region ts) rs ≡ map (bound_region us) rs
same_regions ts us same [] = refl
same_regions ts us same (r ∷ rs) = ap (λ q. q ∷ map (bound_region ts) rs) (same_region ts us same r) ∙ ap (λ qs. bound_region us r ∷ qs) (same_regions ts us same rs)

abbrev place_of : Token → ℕ
place_of t = t.place

pub regions_are : (b : List ℕ) (x : Binding) (codes : List Head) (segments : List Segment) (ts : List Token) (regions : List Region) → FindSame (rising_by place_of (tokens_of (file_functions b) (labels_of (file_functions b) (relocs_of b)) (relocs_of b))) (tokens_of (file_functions b) (labels_of (file_functions b) (relocs_of b)) (relocs_of b)) → IsBindingOf b x → codes ≡ codes_in_order b → segments ≡ filled_in_order b → ts ≡ rising_by place_of (tokens_of x.functions x.labels x.relocs) → regions ≡ map (bound_region ts) (data_regions b codes segments) ++ first_stack ∷ [] → regions ≡ bound_regions b (tokens_of (file_functions b) (labels_of (file_functions b) (relocs_of b)) (relocs_of b))
unfolding bound_regions
regions_are b x codes segments ts regions same h c s t e =
    let all = tokens_of (file_functions b) (labels_of (file_functions b) (relocs_of b)) (relocs_of b) in
    let labels = labels_are b x h in
    let tokens : tokens_of x.functions x.labels x.relocs ≡ all = ap (λ fs. tokens_of fs x.labels x.relocs) h.functions ∙ ap (λ ls. tokens_of (file_functions b) ls x.relocs) labels ∙ ap (tokens_of (file_functions b) (labels_of (file_functions b) (relocs_of b))) h.relocs in
    let order : ts ≡ rising_by place_of all = t ∙ ap (rising_by place_of) tokens in
    e ∙ ap (λ us. map (bound_region us) (data_regions b codes segments) ++ first_stack ∷ []) order
    ∙ ap (λ rs. rs ++ first_stack ∷ []) (same_regions (rising_by place_of all) all same (data_regions b codes segments))
    ∙ ap (λ hs. map (bound_region all) (data_regions b hs segments) ++ first_stack ∷ []) c
    ∙ ap (λ gs. map (bound_region all) (data_regions b (codes_in_order b) gs) ++ first_stack ∷ []) s
