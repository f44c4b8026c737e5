-- How many turns serve a request, from its acceptance on, where a script is carried out by turns.
use Rattle.std.specs.Prelude.{◌≡◌, ℕ, ◌*◌, ◌≤◌, ◌==◌, Bool, true, false, List, ◌∷◌, ◌++◌, length, Some}
use Rattle.std.specs.List.{filter}
use Rattle.stamp_base.specs.SetupNumbers.{AreInRange}
use Rattle.system_parts.specs.declared.instance.Held.{Held}
use Rattle.system_parts.specs.declared.instance.Progress.{Progress}
use Rattle.system_parts.specs.declared.instance.Progress.TheVariants.{Asked, Accepted, Drawn, Settled, Handed}
use Rattle.system_parts.specs.declared.instance.Request.{Request}
use Rattle.system_parts.specs.declared.instance.Request.TheVariants.{Begin, Commit}
use Rattle.system_parts.specs.Instance.{InstanceEntry, held_of}
use Rattle.script_data.specs.Data.{ScriptData}
use Rattle.isolation_laws.specs.Words.{InstanceAt}
use Rattle.command_semantics.specs.Laws.{IsPlayable}
use Rattle.turn_rules.specs.declared.turn.Turn.{Turn}
use Rattle.turn_rules.specs.declared.turn.Turn.TheVariants as turn
use Rattle.turn_rules.specs.Carried.{carried}
use Rattle.turn_rules.specs.Lawful.{AreLawful}
use Rattle.turn_rules.specs.Told.{AreForThreads}

-- ---- the turns that serve a session's request
-- a node accepts it
abbrev pub is_acceptance : ℕ → Turn → Bool
is_acceptance session (turn.Accept node s) = s == session
is_acceptance session _ = false

-- once it is accepted, a node decides it, puts its commit, or answers it
abbrev pub is_service : ℕ → Turn → Bool
is_service session (turn.Decide node s) = s == session
is_service session (turn.Put node s) = s == session
is_service session (turn.Answer node s) = s == session
is_service session _ = false

abbrev pub acceptances : ℕ → List Turn → ℕ
acceptances session turns = length (filter (is_acceptance session) turns)

abbrev pub services : ℕ → List Turn → ℕ
services session turns = length (filter (is_service session) turns)

-- ---- how long a request takes
-- from the turn that accepts a session's request to the next that does, at most so many others serve the session, whatever turns are
-- made in between
abbrev pub RequestsEndWithin : ℕ → Type 0
RequestsEndWithin most =
    (script : ScriptData) (before after : List Turn) (node session : ℕ) → AreInRange script.setup → IsPlayable script 0 script.lines → AreForThreads script.lines → AreLawful script (before ++ turn.Accept node session ∷ after) → acceptances session after ≡ 0 →
    services session after ≤ most

-- so in all turns there are at most so many for each acceptance
abbrev pub RunsServeWithin : ℕ → Type 0
RunsServeWithin most = (script : ScriptData) (turns : List Turn) (session : ℕ) → AreForThreads script.lines → AreLawful script turns → services session turns ≤ most * acceptances session turns

-- ---- what is left to a request that has come so far
-- the first decision may find no stamp, which the session is told once
abbrev pub before_stamp : Bool → ℕ
before_stamp true = 3
before_stamp false = 4

-- a commit is put and answered, a begin answered; that it has to wait, a begin is told once
abbrev pub behind_stamp : Request → Bool → ℕ
behind_stamp (Commit session start keys) told = 2
behind_stamp (Begin session) true = 1
behind_stamp (Begin session) false = 2

abbrev pub left_at : Held → Progress → ℕ
left_at held Asked = 0
left_at held Accepted = before_stamp held.told_no_stamp
left_at held (Drawn stamp) = behind_stamp held.request held.told_not_yet
left_at held (Settled commit how) = 1
left_at held (Handed commit) = 1

-- the turns that can still serve it; none before it is accepted
abbrev pub turns_left : Held → ℕ
turns_left held = left_at held held.progress

-- the request that a node's instance holds has no more turns than are left to it, up to the next acceptance
abbrev pub RequestsKeepToWhatIsLeft : Type 0
RequestsKeepToWhatIsLeft =
    (script : ScriptData) (before after : List Turn) (node session : ℕ) (i : InstanceEntry) (held : Held) → AreInRange script.setup → IsPlayable script 0 script.lines → AreForThreads script.lines → AreLawful script (before ++ after) → InstanceAt (carried script before).played.state.nodes node i → held_of i session ≡ Some held → acceptances session after ≡ 0 →
    services session after ≤ turns_left held
