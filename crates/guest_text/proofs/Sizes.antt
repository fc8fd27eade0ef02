-- SPDX-License-Identifier: Apache-2.0
-- The source of a guest is short.
use Rattle.std.proofs.Common.{◌≡◌, ◌∙◌, ℕ, zero, suc, ◌+◌, ◌*◌, ◌^◌, ◌<◌, ◌≤◌, List, [], ◌++◌, length, refl, sym, ap, arith, add-one}
use Rattle.std.specs.Prelude.{codes, decimal}
use Rattle.std.proofs.lemmas.Fmt.{length-decimal-le}
use Rattle.std.proofs.lemmas.List.{length-append}
use Rattle.guest_text.specs.Guest.{each, start_text, work_begin, divisor_line, work_end, work_text, function_text, mix_text, table_text, row_line, room_text, data_text, guest_text}
use Rattle.guest_text.proofs.Each.{each_none, each_more}

-- ---- the parts that are the same

start_size : length start_text ≤ 1000
unfolding start_text
start_size = omega arith

begin_size : length work_begin ≤ 1000
unfolding work_begin
begin_size = omega arith

end_size : length work_end ≤ 1000
unfolding work_end
end_size = omega arith

mix_size : length mix_text ≤ 1000
unfolding mix_text
mix_size = omega arith

table_size : length table_text ≤ 1000
unfolding table_text
table_size = omega arith

room_size : length room_text ≤ 1000
unfolding room_text
room_size = omega arith

-- ---- those with a number of at most four digits

digits : (n : ℕ) → n ≤ 1000 → length (decimal n) ≤ 4
digits n le = length-decimal-le 4 n (omega arith) (omega (arith, le)) (omega arith)

divisor_size : (n : ℕ) → n ≤ 1000 → length (divisor_line n) ≤ 200
unfolding divisor_line
divisor_size n le =
    omega (arith, digits n le, length-append (codes "li t2, ") (decimal n ++ codes "\n"), length-append (decimal n) (codes "\n"))

row_size : (n : ℕ) → n ≤ 1000 → length (row_line n) ≤ 200
unfolding row_line
row_size n le =
    omega (arith, digits n le, length-append (codes ".quad g") (decimal n ++ codes "\n"), length-append (decimal n) (codes "\n"))

abbrev middle : List ℕ
middle = codes "\naddi sp, sp, -16\nsd ra, 8(sp)\nslli t0, a0, 5\nsub a0, t0, a0\nli t0, "

abbrev last : List ℕ
last = codes "\nadd a0, a0, t0\ncall mix\nld ra, 8(sp)\naddi sp, sp, 16\nret\n.endfunc\n"

function_size : (n : ℕ) → n ≤ 1000 → length (function_text n) ≤ 200
unfolding function_text
function_size n le =
    omega (
      arith,
      digits n le,
      length-append (codes ".func g") (decimal n ++ middle ++ decimal n ++ last),
      length-append (decimal n) (middle ++ decimal n ++ last),
      length-append middle (decimal n ++ last),
      length-append (decimal n) last,
    )

each_size : (f : ℕ → List ℕ) → ((i : ℕ) → i ≤ 1000 → length (f i) ≤ 200) → (n : ℕ) → n ≤ 1000 → length (each f n) ≤ 200 * n
each_size f short zero le = omega (arith, ap length (each_none [] f))
each_size f short (suc n) le =
    let more : each f (suc n) ≡ each f n ++ f n = sym (ap (each f) (add-one n)) ∙ each_more [] f n in
    omega (arith, ap length more, length-append (each f n) (f n), short n (omega (arith, le)), each_size f short n (omega (arith, le)))

-- ---- the whole

work_size : (n : ℕ) → n ≤ 1000 → length (work_text n) ≤ 2200
unfolding work_text
work_size n le =
    omega (arith, begin_size, end_size, divisor_size n le, length-append (work_begin ++ divisor_line n) work_end, length-append work_begin (divisor_line n))

data_size : (n : ℕ) → n ≤ 1000 → length (data_text n) ≤ 202000
unfolding data_text
data_size n le =
    omega (arith, le, table_size, room_size, each_size row_line row_size n le, length-append (table_text ++ each row_line n) room_text, length-append table_text (each row_line n))

pub guest_size : (n : ℕ) → n ≤ 1000 → length (guest_text n) ≤ 1000000
unfolding guest_text
guest_size n le =
    let functions = each function_text n in
    omega (
      arith,
      le,
      start_size,
      work_size n le,
      each_size function_text function_size n le,
      mix_size,
      data_size n le,
      length-append start_text (work_text n),
      length-append (start_text ++ work_text n) functions,
      length-append (start_text ++ work_text n ++ functions) mix_text,
      length-append (start_text ++ work_text n ++ functions ++ mix_text) (data_text n),
    )
