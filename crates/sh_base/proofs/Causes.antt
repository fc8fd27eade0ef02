-- SPDX-License-Identifier: Apache-2.0
-- What a call that failed adds to the list of faults.
use Rattle.std.proofs.Common.{◌≡◌, ℕ, ◌+◌, ◌-◌, List, [], ◌∷◌, ◌++◌, length, refl, sym, ◌∙◌, ap, arith, length-append, replicate}
use Rattle.std.specs.Prelude.{Bool, true, Err, cond, count_by}
use Rattle.std.specs.Cmp.Lexicographic.{nat_list_eq_equiv}
use Rattle.std.proofs.lemmas.List.Sums.{sum_by-append}
use Rattle.sh_base.specs.declared.files.FileWord.{FileWord}
use Rattle.sh_base.specs.declared.files.FileWord.TheVariants.{Load, Store}
use Rattle.sh_base.specs.declared.files.FileCall.{FileCall}
use Rattle.sh_base.specs.declared.files.FileFault.TheVariants.{Failed}
use Rattle.sh_base.specs.Faults.{same_word, is_call, fault_count, HasFileCause}

word_self : (word : FileWord) → same_word word word ≡ true
word_self Load = refl
word_self Store = refl

call_self : (name : List ℕ) (word : FileWord) → is_call name word (record { name = name; word = word }) ≡ true
call_self name word = rw (nat_list_eq_equiv.refl name) (word_self word)

count_push : (p : FileCall → Bool) (calls : List FileCall) (call : FileCall) → p call ≡ true → count_by p (calls ++ call ∷ []) ≡ count_by p calls + 1
count_push p calls call is = sum_by-append (λ x. cond (p x) 1 0) calls (call ∷ []) ∙ ap (λ (b : Bool). count_by p calls + (0 + cond b 1 0)) is ∙ omega arith

pub failed_cause : {T : Type 0} (name kept : List ℕ) (word : FileWord) (before mid now : List FileCall)
    → kept ≡ name → mid ≡ before → now ≡ mid ++ (record { name = kept; word = word }) ∷ [] → HasFileCause {T = T} name word before now (Err Failed)
failed_cause name kept word before mid now same_name same_list pushed =
    let call : FileCall = record { name = name; word = word } in
    let is : now ≡ before ++ call ∷ [] = pushed ∙ (λ i. same_list i ++ (record { name = same_name i; word = word }) ∷ []) in
    let one : length now - length before ≡ 1 = omega (arith, ap length is, length-append before (call ∷ [])) in
    record {
      adds = is ∙ ap (λ (n : ℕ). before ++ replicate n call) (sym one);
      failed = λ _. omega (arith, ap (fault_count name word) is, count_push (is_call name word) before call (call_self name word));
    }
