-- SPDX-License-Identifier: Apache-2.0
-- What can be read at an address of the bound image of a file: what the file has there, with tokens in place of addresses
-- of code. This project's own.
use Rattle.std.specs.Prelude.{ℕ, Option, Some, None, List, find}
use Rattle.elf_rules.specs.Bindable.{file_functions}
use Rattle.elf_rules.specs.Relocs.{relocs_of}
use Rattle.image_rules.specs.declared.tokens.Token.{Token}
use Rattle.image_rules.specs.Binding.{labels_of}
use Rattle.image_rules.specs.Bound.{byte_by, takes_byte, tokens_of}
use Rattle.load_law.specs.Readable.{Readable, readable_at}

-- the tokens that the records of a file put into its data
abbrev pub data_tokens : List ℕ → List Token
data_tokens b = tokens_of (file_functions b) (labels_of (file_functions b) (relocs_of b)) (relocs_of b)

-- what can be read at an address, with the byte of the token that takes it, if one does; whether it can be written stays
abbrev pub with_token : ℕ → Option Token → Option Readable → Option Readable
with_token address token None = None
with_token address token (Some r) = Some (record r { value = byte_by address token r.value })

-- what the file has at an address, with the byte of the first token that takes it
unfoldable pub bound_readable_at : List ℕ → ℕ → Option Readable
bound_readable_at b address = with_token address (find (takes_byte address) (data_tokens b)) (readable_at b address)
