-- SPDX-License-Identifier: Apache-2.0
-- What the answer to a source says of its object.
use Rattle.std.proofs.Common.{◌≡◌, ℕ, List, refl, subst, ap, sym, ◌∙◌}
use Rattle.std.specs.Prelude.{Option, Some, None, Ok, Err}
use Rattle.asm_text.specs.declared.faults.AsmFault.{AsmFault}
use Rattle.asm_text.specs.declared.faults.AsmFault.TheVariants as refusal
use Rattle.asm_text.specs.declared.faults.LineFault.{LineFault}
use Rattle.asm_text.specs.declared.statements.Item.{Item}
use Rattle.asm_text.specs.Source.{source_of}
use Rattle.sh_types.specs.declared.objects.Object.{Object}
use Rattle.rv_asm.specs.Checking.{Checks}
use Rattle.rv_asm.specs.Object.{object_from, object_of, Assembles}
use Rattle.rv_asm.specs.Passes.{fault_of}

no_fault : (items all : List Item) (found : Option LineFault) → Checks (Ok items) found all → (found ≡ None) × (items ≡ all)
no_fault items all None h = (refl, h)
no_fault items all (Some f) h = absurd h

same_answer : (object whole : Object) (found : Option LineFault) → found ≡ None → object ≡ whole → Assembles (Ok object) found whole
same_answer object whole found n e = subst (λ (f : Option LineFault). Assembles (Ok object) f whole) (sym n) e

pub whole : (text : List ℕ) (items : List Item) (object : Object) → Checks (Ok items) (fault_of text) (source_of text).items → object ≡ object_from items → Assembles (Ok object) (fault_of text) (object_of text)
whole text items object h e =
    let both = no_fault items (source_of text).items (fault_of text) h in
    same_answer object (object_of text) (fault_of text) both.0 (e ∙ ap object_from both.1)

pub refused : (text : List ℕ) (fault : AsmFault) → Checks (Err fault) (fault_of text) (source_of text).items → Assembles (Err fault) (fault_of text) (object_of text)
refused text refusal.NoMemory h = tt
refused text (refusal.Line line rule) h = h
