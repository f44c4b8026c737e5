-- Lines that are added to a script that is being made.
use Rattle.std.specs.Prelude.{◌≡◌, ◌+◌, List, ◌++◌, length}
use Rattle.script_data.specs.declared.line.Line.{Line}
use Rattle.replay_driver.specs.Storm.{Action, lines_from}

-- the actions were added as lines, numbered on from those before
abbrev pub Adds : List Line → List Line → List Action → Type 0
Adds old new actions = new ≡ old ++ lines_from (length old + 1) actions
