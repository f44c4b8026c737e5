-- What it is that a line of a script is granted, and the words that the premises are told in.
use Rattle.std.specs.Prelude.{◌≡◌, ℕ, ◌+◌, ◌<◌, ◌≤◌, ◌^◌, ◌⊎◌, List, ◌∷◌, ◌++◌, Some}
use Rattle.stamp_base.specs.declared.stores.Store.{Store}
use Rattle.stamp_base.specs.declared.stores.Store.TheVariants.{Master}
use Rattle.stamp_base.specs.SetupNumbers.{AreInRange}
use Rattle.port_io.specs.declared.weather.Fate.{Fate}
use Rattle.port_io.specs.declared.weather.Fate.TheVariants.{Works}
use Rattle.history_book.specs.Members.{◌∈◌}
use Rattle.history_book.specs.declared.item.Actor.{Actor}
use Rattle.history_book.specs.declared.item.Item.{Item}
use Rattle.system_parts.specs.Instance.{InstanceEntry}
use Rattle.script_data.specs.declared.line.Line.{Line}
use Rattle.script_data.specs.declared.line.Target.{Target}
use Rattle.script_data.specs.declared.line.Verb.{Verb}
use Rattle.script_data.specs.Data.{ScriptData}
use Rattle.command_semantics.specs.Next.{reading_at, target_node}
use Rattle.command_semantics.specs.Runs.{Played, fate_by, clocks_of, run_for, opened, line_run, lines_played, opening_played, replayed}
use Rattle.command_semantics.specs.Laws.{IsPlayable}

-- ---- before a line
abbrev pub line_of : ℕ → Actor → Verb → Line
line_of number actor verb = record { number = number; actor = actor; verb = verb }

-- of a script in range the lines before this one were played, each to its end, and came to this
pub record IsBefore (script : ScriptData) (line : Line) (p : Played) : Type 0 where
  pub in_range : AreInRange script.setup
  pub playable : IsPlayable script 0 script.lines
  pub earlier : List Line
  pub later : List Line
  pub lines : script.lines ≡ earlier ++ line ∷ later
  pub played : p ≡ lines_played script earlier (opening_played script)

-- what the node's clock shows there
abbrev pub reading_of : ScriptData → Played → ℕ → ℕ
reading_of script p node = reading_at (clocks_of script p) node

-- the node that a line asks there: the one that it names, or, where it names the master, the one that took the record last
abbrev pub node_asked : ScriptData → Played → Target → ℕ
node_asked script p to = target_node (clocks_of script p) to

-- the fate that is planned for the next call on the store
abbrev pub next_fate : ScriptData → Played → Store → Fate
next_fate script p store = fate_by script p.calls (Some store)

-- the next extension of a range works: the record has stamps for it, and its store does not fail
pub record CanExtend (script : ScriptData) (p : Played) : Type 0 where
  pub stamps : p.state.master.ceiling + script.setup.range ≤ 2 ^ 62
  pub extending : next_fate script p Master ≡ Works

-- the instance has a stamp left, or gets more by an extension
abbrev pub HasStamp : ScriptData → Played → InstanceEntry → Type 0
HasStamp script p i = (i.last < i.ceiling) ⊎ CanExtend script p

-- ---- what a line appends
-- the history has gone on by items of which this is one
pub record Appends (before after : List Item) (x : Item) : Type 0 where
  pub added : List Item
  pub is : after ≡ before ++ added
  pub has : x ∈ added

-- the line has appended the item after at most so many events
abbrev pub AppendsWithin : ScriptData → Line → Played → ℕ → Item → Type 0
AppendsWithin script line p most x = Appends p.items (run_for most script line (opened p)).played.items x

-- the line appends the item, and the script's history has it whatever comes later
pub record Grants (script : ScriptData) (line : Line) (p : Played) (x : Item) : Type 0 where
  pub appends : Appends p.items (line_run script line p).played.items x
  pub stays : x ∈ replayed script
