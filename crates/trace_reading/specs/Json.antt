-- The value of JSON that some bytes are.
use Rattle.std.specs.Prelude.{ℕ, if◌then◌else◌, List, Option, None}
use Rattle.std.specs.Str.{is_utf8}
use Rattle.serde_json.specs.Data.{Data}
use Rattle.serde_json.specs.Read.{read}

-- Blanks, escapes and the order of members are free, and of a repeated member the last counts. Bytes that are no text are none.
abbrev pub read_json : List ℕ → Option Data
read_json bytes = if is_utf8 bytes then read bytes else None
