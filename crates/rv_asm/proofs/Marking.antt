-- SPDX-License-Identifier: Apache-2.0
-- The same marks by the same numbers.
use Rattle.std.proofs.Common.{◌≡◌, ℕ, ◌+◌, true, false, List, [], ◌∷◌, refl, ap, ◌∙◌}
use Rattle.std.specs.Prelude.{Option}
use Rattle.asm_text.specs.declared.statements.Statement.{Statement}
use Rattle.asm_text.specs.declared.statements.Statement.TheVariants as statement
use Rattle.asm_text.specs.declared.statements.Item.{Item}
use Rattle.asm_places.specs.declared.places.Place.{Place}
use Rattle.asm_places.specs.Symbols.{counted}
use Rattle.asm_places.proofs.Counting.{counted_same}
use Rattle.rv_asm.specs.Marks.{mark, number_or, label_or, reference_kind, marks_at, inner_in}

one_same : (f g : ℕ → List ℕ → Option ℕ) (first : ℕ) → ((s : ℕ) (q : List ℕ) → f s q ≡ g s q) → (next : ℕ) (p : Place) (s : Statement) → marks_at f first next p s ≡ marks_at g first next p s
unfolding marks_at
one_same f g first h next p (statement.Branch op rs1 rs2 label) = ap (λ (o : Option ℕ). mark true p.text 16 (number_or o) ∷ []) (h p.functions label)
one_same f g first h next p (statement.Jump rd target) =
    ap (λ (o : Option ℕ). mark true p.text 17 (label_or o (f 0 target)) ∷ []) (h p.functions target) ∙ ap (λ (o : Option ℕ). mark true p.text 17 (label_or (g p.functions target) o) ∷ []) (h 0 target)
one_same f g first h next p (statement.Call name) = ap (λ (o : Option ℕ). mark true p.text 19 (number_or o) ∷ []) (h 0 name)
one_same f g first h next p (statement.Tail name) = ap (λ (o : Option ℕ). mark true p.text 19 (number_or o) ∷ []) (h 0 name)
one_same f g first h next p (statement.Address rd name) = ap (λ (o : Option ℕ). mark true p.text 23 (number_or o) ∷ mark true (p.text + 4) 24 (first + next) ∷ []) (h 0 name)
one_same f g first h next p (statement.Reference width name) = ap (λ (o : Option ℕ). mark false p.«data» (reference_kind width) (number_or o) ∷ []) (h 0 name)
one_same f g first h next p _ = refl

pub marks_same : (f g : ℕ → List ℕ → Option ℕ) (first : ℕ) (place : Place) (items : List Item) → ((s : ℕ) (q : List ℕ) → f s q ≡ g s q) → counted (marks_at f first) inner_in 0 place items ≡ counted (marks_at g first) inner_in 0 place items
marks_same f g first place items h = counted_same (marks_at f first) (marks_at g first) inner_in 0 place items (one_same f g first h)
