-- The names of keys, values and processes, and their numbers.
use Rattle.std.specs.Prelude.{ℕ, if◌then◌else◌, List, [], ◌∷◌, ◌++◌, Option, decimal, option_and_then}
use Rattle.std.specs.List.{list_any, position_or_len}
use Rattle.std.specs.Option.{option_map, option_or}
use Rattle.std.specs.Str.{bytes_eq}
use Rattle.serde_json.specs.Data.{Data}
use Rattle.serde_json.specs.Find.{as_str, as_number, as_u64}

-- the name that a value of JSON is: a text, or the digits of a whole number
abbrev pub name_of : Data → Option (List ℕ)
name_of d = option_or (as_str d) (option_map decimal (option_and_then as_u64 (as_number d)))

-- the number that the name has among these, or gets behind them: its place
abbrev pub number_of : List ℕ → List (List ℕ) → ℕ
number_of name names = position_or_len (bytes_eq name) names

abbrev pub names_with : List ℕ → List (List ℕ) → List (List ℕ)
names_with name names = if list_any (bytes_eq name) names then names else names ++ name ∷ []
