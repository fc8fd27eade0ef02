-- SPDX-License-Identifier: Apache-2.0
-- What a load of a file gave, by its name.
use Rattle.std.specs.Prelude.{ℕ, List, refl}
use Rattle.std.specs.Coded.{Coded, code_by, coded×, coded_ℕ, coded_list, coded_option}
use Rattle.std.specs.declared.option.Option.{Option}

-- the bytes, or none where the load failed
pub record FileAnswer : Type 0 where
  pub name : List ℕ
  pub bytes : Option (List ℕ)

abbrev pub answers_coded : Coded (List FileAnswer)
answers_coded =
    coded_list (code_by (List ℕ × Option (List ℕ)) (coded× (coded_list coded_ℕ) (coded_option (coded_list coded_ℕ)))
    (λ a. (a.name, a.bytes)) (λ p. record { name = p.0; bytes = p.1 }) (λ _. refl))

abbrev pub pieces_coded : Coded (List (List ℕ))
pieces_coded = coded_list (coded_list coded_ℕ)
