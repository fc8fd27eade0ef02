-- SPDX-License-Identifier: Apache-2.0
-- The numbers that stand for code in a guest's data: a token for each function, and one for each label, a word inside a
-- function that data names. This project's own.
use Rattle.std.specs.Prelude.{◌≡◌, ◌⊎◌, ℕ, ℤ, suc, ◌+◌, ◌*◌, ◌/◌, ◌<◌, ◌==◌, ◌&&◌, ◌||◌, Bool, false, Option, Some, None, List, [], ◌∷◌, length, slice_get, slice_index, if◌then◌else◌}
use Rattle.sh_types.specs.declared.code.Pair.{Pair}
use Rattle.rv_table.specs.Operands.{plus_imm}
use Rattle.sh_types.specs.Place.{pair, IsPair}

-- the token of a function
abbrev pub token_of : ℕ → ℕ
token_of f = 0x70000000 + 16 * f

-- the function whose token the number is, among those whose address is taken
abbrev pub row_named : List ℕ → ℕ → Option ℕ
row_named [] v = None
row_named (f ∷ fs) v = if token_of f == v then Some f else row_named fs v

-- the token of a label, by its number in the list
abbrev pub label_token : ℕ → ℕ
label_token j = 0x74000000 + 16 * j

-- the label of a function whose token the number is, of labels that are numbered from j
abbrev pub label_named : ℕ → List Pair → (func v : ℕ) → Option Pair
label_named j [] f v = None
label_named j (q ∷ qs) f v = if (q.func == f) && (label_token j == v) then Some q else label_named (suc j) qs f v

-- the function has a label
abbrev pub has_label : List Pair → ℕ → Bool
has_label [] f = false
has_label (q ∷ qs) f = (q.func == f) || has_label qs f

-- the number that an indirect call or jump goes by: a register and an immediate, with bit 0 cleared (RISC-V Unprivileged
-- ISA, RV32I, "Unconditional Jumps")
abbrev pub jump_number : ℕ → ℤ → ℕ
jump_number a imm = 2 * (plus_imm a imm / 2)

-- the start of the function, if any
abbrev pub start_of : Option ℕ → Option Pair
start_of None = None
start_of (Some f) = Some (pair f 0)

-- where an indirect call goes by a number: to the start of a function whose address is taken, or nowhere
abbrev pub call_way : List ℕ → ℕ → Option Pair
call_way rows v = start_of (row_named rows v)

-- where an indirect jump of a function goes: to a label of that function, where it has any
abbrev pub tail_way : List ℕ → List Pair → (func v : ℕ) → Option Pair
tail_way rows labels f v = if has_label labels f then label_named 0 labels f v else call_way rows v

-- Rows and labels are in order: rows by rising function, each once, and labels by rising function and in it by rising
-- offset, each once; a label is a word inside its function, behind the first. The functions have these sizes.
pub record AreInOrder (sizes rows : List ℕ) (labels : List Pair) : Type 0 where
  pub rows_rise : (i j : ℕ) → i < j → j < length rows → slice_index rows i < slice_index rows j
  pub labels_rise : (i j : ℕ) (p q : Pair) → i < j → slice_get labels i ≡ Some p → slice_get labels j ≡ Some q → (p.func < q.func) ⊎ ((p.func ≡ q.func) × (p.off < q.off))
  pub pairs : (j : ℕ) (p : Pair) → slice_get labels j ≡ Some p → IsPair sizes p
  pub inside : (j : ℕ) (p : Pair) → slice_get labels j ≡ Some p → (0 < p.off) × (p.off < slice_index sizes p.func)
