-- A play as its contracts see it, and what the calls make of it.
use Rattle.std.specs.Prelude.{◌≡◌, ℕ, ◌+◌, ◌≤◌, List, [], ◌∷◌, ◌++◌, length, find, Option, IfSome}
use Rattle.stamp_base.specs.declared.stage.Stage.{Stage}
use Rattle.stamp_base.specs.declared.stage.Stage.TheVariants.{Request}
use Rattle.stamp_base.specs.declared.limits.TheConstants.{LINE_LIMIT}
use Rattle.history_book.specs.declared.item.Actor.{Actor}
use Rattle.history_book.specs.declared.item.Item.{Item}
use Rattle.history_book.specs.Members.{AtEach}
use Rattle.script_data.specs.Data.{ScriptData, IsSound}
use Rattle.command_semantics.specs.Laws.{AreLinesOf}
use Rattle.turn_rules.specs.declared.turn.Turn.{Turn}
use Rattle.turn_rules.specs.declared.turn.Turn.TheVariants as turn
use Rattle.turn_rules.specs.Carried.{carried_items, AreWhole}
use Rattle.turn_rules.specs.Lawful.{AreLawful}
use Rattle.run_board.specs.declared.answers.Advance.{Advance}
use Rattle.run_board.specs.declared.answers.Advance.TheVariants as advance
use Rattle.thread_steps.specs.declared.stages.StageStep.{StageStep}
use Rattle.thread_steps.specs.declared.stages.StageStep.TheVariants as step
use Rattle.run_board.specs.Run.{Ran}
use Rattle.run_board.specs.Steps as steps
use Rattle.thread_steps.specs.declared.cursor.Cursor.{Cursor}
use Rattle.thread_steps.specs.Done.{Done, all_done, caught_up, is_same}
use Rattle.thread_scripts.specs.Actors.{AreBehind, CoverLines, AreAtTheirEnds}

-- what lies under the lock: the script with the turns that were made, and how many lines of each actor are done
pub record Played : Type 0 where
  pub ran : Ran
  pub cursors : List Cursor

-- the script is one that was read, no cursor is ahead of its actor's seat, and each line's actor has a cursor
pub record IsKept (ran : Ran) (cursors : List Cursor) : Type 0 where
  pub sound : IsSound ran.script
  pub few : length ran.script.lines ≤ LINE_LIMIT
  pub sessions : AreLinesOf ran.script.setup ran.script.lines
  pub behind : AreBehind (steps.place_of ran) cursors
  pub covered : CoverLines ran.script.lines cursors

-- ---- how far the cursors are
abbrev pub cursor_of : List Cursor → Actor → Option Cursor
cursor_of cursors actor = find (λ cursor. is_same cursor.actor actor) cursors

abbrev pub IsUpTo : ℕ → Option Cursor → Type 0
IsUpTo place cursor = IfSome cursor (λ c. place ≤ c.done)

-- where the actor had come to with a turn of its own its cursor has come too: what it lacks are lines that had nothing left to do
abbrev pub IsCountedAt : Ran → List Cursor → Actor → List Turn → Turn → Type 0
IsCountedAt ran cursors actor before t = (aim : ℕ) → t ≡ turn.Own actor aim → IsUpTo (steps.place_of (record { script = ran.script; turns = before ++ t ∷ [] }) actor) (cursor_of cursors actor)

abbrev pub AreCounted : Ran → List Cursor → Type 0
AreCounted ran cursors = (actor : Actor) → AtEach (IsCountedAt ran cursors actor) ran.turns

-- what is kept under the lock
pub record IsKeptPlay (ran : Ran) (cursors : List Cursor) : Type 0 where
  pub kept : IsKept ran cursors
  pub counted : AreCounted ran cursors

-- ---- an actor's step
-- the cursor of the share's actor comes up to the actor's seat, and the share counts as much more
pub record Counts (old new : Played) (mine now : Done) : Type 0 where
  pub actor : now.actor ≡ mine.actor
  pub aim : now.aim ≡ mine.aim
  pub cursors : new.cursors ≡ caught_up mine.actor (steps.place_of new.ran mine.actor) old.cursors
  pub counted : now.amount + all_done old.cursors ≡ mine.amount + all_done new.cursors

abbrev pub Advances : Played → Done → Advance → Played → Done → Type 0
Advances old mine advance.NoMemory new now = (new ≡ old) × (now ≡ mine)
Advances old mine answer new now = steps.Advances old.ran mine.actor mine.aim answer new.ran × Counts old new mine now

-- ---- a stage's step
abbrev pub Serves : Played → ℕ → ℕ → Stage → ℕ → StageStep → Played → Type 0
Serves old node term stage session answer new = steps.Serves old.ran node term stage session answer new.ran × (new.cursors ≡ old.cursors)

-- memory may be refused to a request stage alone
abbrev pub LacksAtRequest : Stage → StageStep → Type 0
LacksAtRequest stage step.NoMemory = stage ≡ Request
LacksAtRequest stage result = Unit {0}

-- ---- the end
-- no share is missing, no cursor has a line left, and the script is this one
pub record IsOver (script : ScriptData) (p : Played) (shares : List Done) : Type 0 where
  pub same_script : p.ran.script ≡ script
  pub all_shares : length shares ≡ length p.cursors
  pub ends : AreAtTheirEnds p.ran.script p.cursors

-- the turns are lawful and whole, and this is the history that they make of the script
pub record IsResult (script : ScriptData) (history : List Item) (turns : List Turn) : Type 0 where
  pub history_is : history ≡ carried_items script turns
  pub lawful : AreLawful script turns
  pub whole : AreWhole script turns
