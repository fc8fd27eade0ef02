-- SPDX-License-Identifier: Apache-2.0
-- Words of instructions that are added one behind the other.
use Rattle.std.proofs.Common.{◌≡◌, ℕ, List, [], ◌∷◌, ◌++◌, refl, sym, ap, subst, ◌∙◌, append_assoc}
use Rattle.std.specs.Prelude.{ℤ, Result, Ok, Err, IsOkUnless, map}
use Rattle.asm_text.specs.declared.statements.Statement.{Statement}
use Rattle.std.proofs.lemmas.List.{append-nil}
use Rattle.rv_table.specs.declared.instructions.Instr.{Instr}
use Rattle.rv_table.specs.Instruction.{word_of, IsSigned}
use Rattle.rv_asm.specs.declared.writing.Unwritten.{Unwritten}
use Rattle.rv_asm.specs.declared.writing.Unwritten.TheVariants.{NoMemory, Range}
use Rattle.rv_asm.specs.Fitting.{Fits}
use Rattle.rv_asm.specs.Words.{AreInstrs, instrs_of, plain_words}
use Rattle.rv_asm.specs.Writing.{Writes, WritesWords}

pub two_written : {U : Type 0} (old mid new : List ℕ) (r : Result U Unwritten) (first second : Instr) → (mid ≡ old ++ map word_of (first ∷ [])) × AreInstrs (first ∷ [])
    → Writes mid new r (second ∷ []) → Writes old new r (first ∷ second ∷ [])
two_written old mid new (Ok _) first second f w =
    (w.0 ∙ ap (λ (l : List ℕ). l ++ word_of second ∷ []) f.0 ∙ append_assoc old (word_of first ∷ []) (word_of second ∷ []), (f.1.0, (w.1.0, tt)))
two_written old mid new (Err NoMemory) first second f w = tt
two_written old mid new (Err Range) first second f w = λ h. w (h.1.0, tt)

pub second_out : {U : Type 0} (old new : List ℕ) (e : Unwritten) (r : Result U Unwritten) (first second : Instr) → r ≡ Err e → Writes old new r (first ∷ []) → Writes old new r (first ∷ second ∷ [])
second_out old new NoMemory (Ok _) first second e w = cc
second_out old new Range (Ok _) first second e w = cc
second_out old new e (Err NoMemory) first second s w = tt
second_out old new e (Err Range) first second s w = λ h. w (h.0, tt)

pub none_written : (old : List ℕ) → old ≡ old ++ map word_of []
none_written old = sym (append-nil old)

pub behind_plain : {U : Type 0} (old mid new : List ℕ) (r : Result U Unwritten) (distance : ℤ) (s : Statement) (instrs : List Instr) → mid ≡ old ++ plain_words s → instrs ≡ instrs_of distance s
    → Writes mid new r instrs → WritesWords old new r distance s
behind_plain old mid new (Ok _) distance s instrs m e w = (
  w.0 ∙ ap (λ (l : List ℕ). l ++ map word_of instrs) m ∙ append_assoc old (plain_words s) (map word_of instrs) ∙ ap (λ (is : List Instr). old ++ (plain_words s ++ map word_of is)) e,
  subst (λ (is : List Instr). AreInstrs is) e w.1,
)
behind_plain old mid new (Err NoMemory) distance s instrs m e w = tt
behind_plain old mid new (Err Range) distance s instrs m e w = λ h. w (subst (λ (is : List Instr). AreInstrs is) (sym e) h)

-- instructions that are all in their ranges are written, unless memory is refused
pub only_memory : {U : Type 0} (old new : List ℕ) (r : Result U Unwritten) (distance same : ℤ) (s : Statement) → distance ≡ same → WritesWords old new r distance s → Fits same s → IsOkUnless r NoMemory
only_memory old new (Ok _) distance same s e w fits = tt
only_memory old new (Err NoMemory) distance same s e w fits = refl
only_memory old new (Err Range) distance same s e w fits = absurd (w (subst (λ (d : ℤ). AreInstrs (instrs_of d s)) (sym e) fits.instrs))

pub is_signed : (distance same : ℤ) (s : Statement) → distance ≡ same → Fits same s → IsSigned 31 distance
is_signed distance same s e fits = subst (IsSigned 31) (sym e) fits.signed
