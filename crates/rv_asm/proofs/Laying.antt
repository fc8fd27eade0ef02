-- SPDX-License-Identifier: Apache-2.0
-- The data and the text by two maps of targets that have the same are the same.
use Rattle.std.proofs.Common.{◌≡◌, ℕ, List, refl, ap}
use Rattle.std.specs.Prelude.{Option}
use Rattle.asm_text.specs.declared.statements.Statement.{Statement}
use Rattle.asm_text.specs.declared.statements.Statement.TheVariants as statement
use Rattle.asm_text.specs.declared.statements.Item.{Item}
use Rattle.asm_places.specs.declared.places.Place.{Place}
use Rattle.asm_places.specs.declared.targets.Target.{Target}
use Rattle.asm_places.specs.Laying.{laid}
use Rattle.asm_places.specs.Targets.{distance_to}
use Rattle.asm_places.proofs.Laying.{laid_same}
use Rattle.asm_places.proofs.Targeting.{of_same}
use Rattle.rv_asm.specs.Words.{words_of}
use Rattle.rv_asm.specs.Data.{data_bytes, text_words, low_bytes, address_or}

bytes_same : (f g : ℕ → List ℕ → Option Target) (size : ℕ) → ((s : ℕ) (q : List ℕ) → f s q ≡ g s q) → (place : Place) (s : Statement) → data_bytes f size place s ≡ data_bytes g size place s
unfolding data_bytes
bytes_same f g size h place (statement.Reference width name) = ap (λ (o : Option Target). low_bytes width (address_or size o)) (h 0 name)
bytes_same f g size h place _ = refl

pub data_same : (f g : ℕ → List ℕ → Option Target) (size : ℕ) (place : Place) (items : List Item) → ((s : ℕ) (q : List ℕ) → f s q ≡ g s q) → laid (data_bytes f size) place items ≡ laid (data_bytes g size) place items
data_same f g size place items h = laid_same (data_bytes f size) (data_bytes g size) place items (bytes_same f g size h)

words_same : (f g : ℕ → List ℕ → Option Target) (size : ℕ) → ((s : ℕ) (q : List ℕ) → f s q ≡ g s q) → (place : Place) (s : Statement) → text_words f size place s ≡ text_words g size place s
unfolding text_words
words_same f g size h place s = ap (λ (o : Option Target). words_of (distance_to size place o) s) (of_same f g h place.functions s)

pub text_same : (f g : ℕ → List ℕ → Option Target) (size : ℕ) (place : Place) (items : List Item) → ((s : ℕ) (q : List ℕ) → f s q ≡ g s q) → laid (text_words f size) place items ≡ laid (text_words g size) place items
text_same f g size place items h = laid_same (text_words f size) (text_words g size) place items (words_same f g size h)
