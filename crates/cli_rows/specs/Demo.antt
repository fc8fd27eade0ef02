-- SPDX-License-Identifier: Apache-2.0
-- What a run of a generated guest comes to: one line on it. This project's own.
use Rattle.std.specs.Prelude.{ℕ, zero, suc, ◌+◌, ◌*◌, ◌%◌, List, [], ◌∷◌, ◌++◌, codes, decimal, length, None, Some}
use Rattle.hex.specs.Hex.{encode_lower}
use Rattle.sha2.specs.Sha256.{sha256}
use Rattle.sh_machines.specs.Event.{written}
use Rattle.shuf_machine.specs.Past.{Past, guest_of, state_of}
use Rattle.period_report.specs.Text.{text}
use Rattle.guest_dues.specs.declared.due.Due.{Due}
use Rattle.guest_dues.specs.Run.{ended_due}

-- a byte of the input, by its place
abbrev pub input_byte : ℕ → ℕ
input_byte j = (7 * j + 13) % 256

-- the first n bytes
unfoldable pub first_bytes : ℕ → List ℕ
first_bytes zero = []
first_bytes (suc n) = first_bytes n ++ input_byte n ∷ []

-- the input of a generated guest
abbrev pub demo_input : List ℕ
demo_input = first_bytes 16384

-- the line on a run: the guest's number, its functions, how many instructions there were, the number of the newest
-- layout, and the digest of the output in lower-case hexadecimal digits (FIPS 180-4, SHA-256)
unfoldable pub demo_line : (number functions count newest : ℕ) → (digest : List ℕ) → List ℕ
demo_line number functions count newest digest =
    text (codes "demo " ∷ decimal number ∷ codes " functions " ∷ decimal functions ∷ codes " instructions " ∷ decimal count ∷ codes " layouts " ∷ decimal newest
    ∷ codes " output " ∷ encode_lower digest ∷ codes "\n" ∷ [])

-- the line on what a machine has done
abbrev pub line_on : ℕ → Past → List ℕ
line_on number m = demo_line number (length m.image.functions) (length (written m.journal)) (state_of m).newest (sha256 (guest_of m).output)

-- a run that was made: the line alone, to out
abbrev pub demo_ran : ℕ → Past → Due
demo_ran number m = ended_due (line_on number m) None (guest_of m).end (Some m)
