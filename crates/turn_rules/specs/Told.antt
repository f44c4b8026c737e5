-- Which turns append an item, and that those which append none change nothing.
use Rattle.std.specs.Prelude.{◌≡◌, ℕ, List, [], ◌∷◌, Some}
use Rattle.stamp_base.specs.SetupNumbers.{AreInRange}
use Rattle.history_book.specs.declared.item.Actor.{Actor}
use Rattle.machine.specs.declared.event.Event.{Event}
use Rattle.machine.specs.declared.event.Event.TheVariants as event
use Rattle.script_data.specs.declared.line.Line.{Line}
use Rattle.script_data.specs.declared.line.Verb.{Verb}
use Rattle.script_data.specs.declared.line.Verb.TheVariants as verb
use Rattle.script_data.specs.Data.{ScriptData}
use Rattle.isolation_laws.specs.Sound.{ReachedInvariant}
use Rattle.command_semantics.specs.Laws.{IsPlayable, AreLinesOf}
use Rattle.command_semantics.specs.Runs.{Played, step_of, played}
use Rattle.turn_rules.specs.declared.turn.Turn.{Turn}
use Rattle.turn_rules.specs.declared.turn.Turn.TheVariants as turn
use Rattle.turn_rules.specs.Carried.{Carried, event_of, carried}
use Rattle.turn_rules.specs.Lawful.{IsInPlace, IsTold}

-- ---- own turns are told
-- the form is one for threads: it serves no request, and makes none that no line waits for
abbrev pub IsForThreads : Verb → Type 0
IsForThreads verb.Extend = ⊥
IsForThreads (verb.Accept session) = ⊥
IsForThreads (verb.Decide session) = ⊥
IsForThreads (verb.Put session) = ⊥
IsForThreads (verb.Answer session) = ⊥
IsForThreads (verb.AskBegin node) = ⊥
IsForThreads (verb.AskCommit node) = ⊥
IsForThreads _ = Unit {0}

unfoldable pub AreForThreads : List Line → Type 0
AreForThreads [] = Unit {0}
AreForThreads (line ∷ lines) = IsForThreads line.verb × AreForThreads lines

-- each event of an own turn appends an item, or opens a sweep
abbrev pub OwnTurnsAreTold : Type 0
OwnTurnsAreTold =
    (script : ScriptData) (turns : List Turn) (actor : Actor) (aim : ℕ) (e : Event) → AreInRange script.setup → IsPlayable script 0 script.lines → AreLinesOf script.setup script.lines → AreForThreads script.lines → event_of script (carried script turns) (turn.Own actor aim) ≡ Some e →
    IsTold script (carried script turns).played e

-- ---- turns of stages
abbrev pub AlwaysTells : Turn → Type 0
AlwaysTells (turn.Accept node session) = Unit {0}
AlwaysTells (turn.Put node session) = Unit {0}
AlwaysTells (turn.Extend node) = Unit {0}
AlwaysTells _ = ⊥

-- an acceptance, a put and an extension append an item wherever they can be made
abbrev pub StageTurnsAreTold : Type 0
StageTurnsAreTold =
    (script : ScriptData) (c : Carried) (t : Turn) (e : Event) → ReachedInvariant c.played.state c.played.items → AlwaysTells t → event_of script c t ≡ Some e → IsInPlace c.played.state t → IsTold script c.played e

-- a decision and an answer change nothing where they append nothing
pub record QuietTurnsChangeNothing : Type 0 where
  pub decide : (script : ScriptData) (p : Played) (node session : ℕ) → ReachedInvariant p.state p.items → (step_of script p (event.Decide node session)).items ≡ [] → played script p (event.Decide node session) ≡ p
  pub answer : (script : ScriptData) (p : Played) (node session : ℕ) → ReachedInvariant p.state p.items → (step_of script p (event.Answer node session)).items ≡ [] → played script p (event.Answer node session) ≡ p
