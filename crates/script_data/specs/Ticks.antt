-- By how many ticks lines let the base clock go on.
use Rattle.std.specs.Prelude.{ℕ, ◌+◌, List, [], ◌∷◌}
use Rattle.script_data.specs.declared.line.Line.{Line}
use Rattle.script_data.specs.declared.line.Verb.{Verb}
use Rattle.script_data.specs.declared.line.Verb.TheVariants.{Tick}

abbrev pub tick_of : Verb → ℕ
tick_of (Tick by) = by
tick_of _ = 0

unfoldable pub ticks_of : List Line → ℕ
ticks_of [] = 0
ticks_of (line ∷ lines) = tick_of line.verb + ticks_of lines
