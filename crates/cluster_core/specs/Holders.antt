-- The request of a session, as the node that holds it tells.
use Rattle.std.specs.Prelude.{ℕ, Bool, false, Option, None, Some}
use Rattle.system_parts.specs.declared.instance.Held.{Held}
use Rattle.system_parts.specs.declared.instance.Place.{Place}
use Rattle.system_parts.specs.Instance.{place_of_progress}
use Rattle.machine.specs.Readers.{is_commit}

-- whether it is a commit
abbrev pub holds_commit : Option Held → Bool
holds_commit None = false
holds_commit (Some held) = is_commit held.request

-- where a request stands, and whether it is a commit
abbrev pub standing_of : Option Held → Option (Place × Bool)
standing_of None = None
standing_of (Some held) = Some (place_of_progress held.progress, is_commit held.request)

-- the same, with the node that holds it
abbrev pub standing_held : Option (ℕ × Held) → Option (ℕ × Place × Bool)
standing_held None = None
standing_held (Some holder) = Some (holder.0, place_of_progress holder.1.progress, is_commit holder.1.request)
