-- SPDX-License-Identifier: Apache-2.0
-- What may be due: a line, nothing, or more.
use Rattle.std.specs.Prelude.{ℕ, List, Some, None}
use Rattle.guest_dues.specs.declared.due.Due.{Due}
use Rattle.cli_rows.specs.Lines.{help_text, usage_line, unreadable_line, too_long_line}

-- a refusal: its line alone
abbrev pub line_due : ℕ → List ℕ → Due
line_due status line = record { store = None; out = None; report = Some line; status = status; end = None; machine = None }

-- this text to out
abbrev pub text_due : List ℕ → Due
text_due text = record { store = None; out = Some text; report = None; status = 0; end = None; machine = None }

-- these bytes are stored under the name
abbrev pub store_due : (name bytes : List ℕ) → Due
store_due name bytes = record { store = Some (record { name = name; bytes = bytes }); out = None; report = None; status = 0; end = None; machine = None }

abbrev pub help_due : Due
help_due = text_due help_text

abbrev pub usage_due : Due
usage_due = line_due 10 usage_line

abbrev pub unreadable_due : List ℕ → Due
unreadable_due name = line_due 11 (unreadable_line name)

abbrev pub too_long_due : List ℕ → ℕ → Due
too_long_due name limit = line_due 11 (too_long_line name limit)
