-- What can be read of a state.
use Rattle.std.specs.Prelude.{ℕ, ◌+◌, Bool, true, false, List, [], ◌∷◌, slice_get, Option, None, Some, is_some}
use Rattle.system_parts.specs.declared.session.State as state
use Rattle.system_parts.specs.declared.instance.Held.{Held}
use Rattle.system_parts.specs.declared.instance.Place.{Place}
use Rattle.system_parts.specs.declared.instance.Request.{Request}
use Rattle.system_parts.specs.declared.instance.Request.TheVariants.{Begin, Commit}
use Rattle.system_parts.specs.Instance.{InstanceEntry, held_of, place_of_progress}
use Rattle.machine.specs.declared.event.Doing.{Doing}
use Rattle.machine.specs.declared.event.Doing.TheVariants as doing
use Rattle.machine.specs.State.{Client, State}
use Rattle.machine.specs.Clients.{is_reading}

-- ---- what a session is doing
abbrev pub open_doing : Bool → Doing
open_doing true = doing.Reading
open_doing false = doing.Open

abbrev pub doing_by : state.State → Bool → Doing
doing_by state.TheVariants.Free reading = doing.Free
doing_by state.TheVariants.Asking reading = doing.Waiting
doing_by state.TheVariants.Open reading = open_doing reading
doing_by state.TheVariants.Committing reading = doing.Waiting
doing_by state.TheVariants.Placing reading = doing.Placing
doing_by state.TheVariants.OpenOutcome reading = doing.OpenOutcome
doing_by (state.TheVariants.Completing undo) reading = doing.Completing
doing_by state.TheVariants.Gone reading = doing.Gone

abbrev pub client_doing : Client → Doing
client_doing c = doing_by c.entry.state (is_reading c)

abbrev pub doing_at : Option Client → Doing
doing_at None = doing.Gone
doing_at (Some c) = client_doing c

abbrev pub doing_of : State → ℕ → Doing
doing_of w session = doing_at (slice_get w.clients session)

-- ---- the request of a session: the node that holds it, and what it is
abbrev pub held_at : Option InstanceEntry → ℕ → Option Held
held_at None session = None
held_at (Some i) session = held_of i session

abbrev pub first_holder : ℕ → Option Held → Option (ℕ × Held) → Option (ℕ × Held)
first_holder node None later = later
first_holder node (Some held) later = Some (node, held)

-- of the nodes from this number on, the first that holds a request of the session
unfoldable pub holder_from : ℕ → List (Option InstanceEntry) → ℕ → Option (ℕ × Held)
holder_from node [] session = None
holder_from node (post ∷ posts) session = first_holder node (held_at post session) (holder_from (node + 1) posts session)

abbrev pub holder_of : State → ℕ → Option (ℕ × Held)
holder_of w session = holder_from 0 w.nodes session

abbrev pub place_held : Option (ℕ × Held) → Option (ℕ × Place)
place_held None = None
place_held (Some held) = Some (held.0, place_of_progress held.1.progress)

-- where the request of a session stands
abbrev pub place_of : State → ℕ → Option (ℕ × Place)
place_of w session = place_held (holder_of w session)

abbrev pub is_commit : Request → Bool
is_commit (Begin session) = false
is_commit (Commit session start keys) = true

abbrev pub commit_held : Option (ℕ × Held) → Bool
commit_held None = false
commit_held (Some held) = is_commit held.1.request

-- a commit of the session is in flight
abbrev pub asks_commit : State → ℕ → Bool
asks_commit w session = commit_held (holder_of w session)

-- ---- the term of a node's instance, and whether a sweep is open
abbrev pub term_at : Option (Option InstanceEntry) → Option ℕ
term_at (Some (Some i)) = Some i.term
term_at _ = None

abbrev pub term_of : State → ℕ → Option ℕ
term_of w node = term_at (slice_get w.nodes node)

abbrev pub sweeping : State → Bool
sweeping w = is_some w.sweep
