-- The rules on names: a name is posted by one line, and awaited only behind that line.
use Rattle.std.specs.Prelude.{ℕ, if◌then◌else◌, List, [], ◌∷◌, ◌++◌, Option, None, Some}
use Rattle.std.specs.List.{list_any}
use Rattle.std.specs.Str.{bytes_eq}
use Rattle.script_data.specs.declared.line.Verb.{Verb}
use Rattle.script_data.specs.declared.line.Verb.TheVariants as verbs
use Rattle.session_script.specs.declared.cause.ScriptCause.{ScriptCause}
use Rattle.session_script.specs.declared.cause.ScriptCause.TheVariants.{PostedTwice, NameNotPosted}

-- the names that were posted once a line of the verb has been read
abbrev pub posted_after : List (List ℕ) → Verb → List (List ℕ)
posted_after names (verbs.Post name) = names ++ name ∷ []
posted_after names _ = names

-- why a line of the verb cannot stand behind the names so far
abbrev pub name_objection : List (List ℕ) → Verb → Option ScriptCause
name_objection names (verbs.Post name) = if list_any (bytes_eq name) names then Some PostedTwice else None
name_objection names (verbs.Await name) = if list_any (bytes_eq name) names then None else Some NameNotPosted
name_objection names _ = None
