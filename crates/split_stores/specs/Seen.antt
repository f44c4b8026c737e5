-- What a look at a locked part sees. What stands there when its lock is taken no clause says.
use Rattle.std.specs.Prelude.{◌≡◌, ℕ, ◌+◌, ◌==◌, if◌then◌else◌, Option, None, Some, is_some}
use Rattle.system_parts.specs.declared.instance.Place.{Place}
use Rattle.system_parts.specs.declared.instance.Request.{Request}
use Rattle.system_parts.specs.Instance.{InstanceEntry, request_at}
use Rattle.machine.specs.Readers.{client_doing}
use Rattle.split_parts.specs.declared.parts.SessionPart.{SessionPart}
use Rattle.split_parts.specs.declared.parts.JanitorPart.{JanitorPart}
use Rattle.split_parts.specs.declared.parts.NodePart.{NodePart}
use Rattle.split_stores.specs.declared.seen.SeenDoing.{SeenDoing}
use Rattle.split_stores.specs.declared.seen.SeenSweep.{SeenSweep}
use Rattle.split_stores.specs.declared.searching.HeldRequest.{HeldRequest}
use Rattle.split_stores.specs.declared.searching.SeenRequest.{SeenRequest}

-- ---- one part
-- what this session is doing, by its part, and which node it has asked last; the part of another tells nothing
abbrev pub doing_seen : ℕ → SessionPart → SeenDoing
doing_seen session part = record { session = session; doing = if part.number == session then Some (client_doing part.client) else None; asked = part.asked }

-- whether a sweep is open, by the janitor's part
abbrev pub sweep_seen : JanitorPart → SeenSweep
sweep_seen part = record { is_open = is_some part.sweep }

-- ---- the nodes, one after the other
-- the request of the session that a node's instance has
abbrev pub request_in : Option InstanceEntry → ℕ → Option (Request × Place)
request_in None session = None
request_in (Some i) session = request_at i session

abbrev pub held_by : ℕ → Option (Request × Place) → Option HeldRequest
held_by node None = None
held_by node (Some held) = Some (record { node = node; request = held.0; place = held.1 })

-- what the part of this node has of the session's request; the part of another has nothing that is looked for
abbrev pub found_at : ℕ → ℕ → NodePart → Option HeldRequest
found_at node session part = if part.node == node then held_by node (request_in part.post session) else None

-- the part of this node was looked at before all others
abbrev pub first_searched : ℕ → ℕ → NodePart → SeenRequest
first_searched session node part = record { session = session; nodes = 0; found = found_at node session part }

-- no node was looked at
abbrev pub none_searched : ℕ → SeenRequest
none_searched session = record { session = session; nodes = 0; found = None }

-- with a look at the part of the next node
abbrev pub searched : SeenRequest → NodePart → SeenRequest
searched seen part = record { session = seen.session; nodes = seen.nodes + 1; found = found_at seen.nodes seen.session part }

-- a request was found, or all nodes were looked at
abbrev pub IsSearched : SeenRequest → Type 0
IsSearched seen = seen.found ≡ None → seen.nodes ≡ 8
