-- What asks, the calls of a node on the requests that it holds, and its crash ask of nodes and clients.
use Rattle.std.specs.Prelude.{◌≡◌, ℕ, slice_get, Option, None, Some}
use Rattle.system_parts.specs.SessionSteps.{begin_refusal, work_refusal}
use Rattle.system_parts.specs.Instance.{InstanceEntry, held_of}
use Rattle.machine.specs.State.{Client, State}
use Rattle.machine.specs.Clients.{is_reading}
use Rattle.machine.specs.Calls.{WaitsAt, HoldsNone}
use Rattle.machine.specs.Events.Put.{to_place}
use Rattle.isolation_laws.specs.Words.{InstanceAt, ClientAt, HasRecord}

-- what stands at the node, an instance or none
abbrev pub PostAt : State → ℕ → Option InstanceEntry → Type 0
PostAt w node post = slice_get w.nodes node ≡ Some post

-- no node holds a request of a session that may begin
abbrev pub BeginMayBeAsked : State → Type 0
BeginMayBeAsked w =
    (session node : ℕ) (c : Client) (post : Option InstanceEntry) → ClientAt w.clients session c → PostAt w node post → begin_refusal c.entry.state ≡ None → HoldsNone post session

-- nor of one whose transaction may go on
abbrev pub CommitMayBeAsked : State → Type 0
CommitMayBeAsked w =
    (session node : ℕ) (c : Client) (post : Option InstanceEntry) → ClientAt w.clients session c → PostAt w node post → work_refusal c.entry.state (is_reading c) ≡ None → HoldsNone post session

-- the session of a request that a node holds waits for it, or has vanished
abbrev pub RequestsAreWaitedFor : State → Type 0
RequestsAreWaitedFor w = (node : ℕ) (post : Option InstanceEntry) → PostAt w node post → (session : ℕ) (c : Client) → ClientAt w.clients session c → WaitsAt post session c.entry

-- the commit table has no commit of a transaction whose commit is to be placed
abbrev pub PutMayBeMade : State → Type 0
PutMayBeMade w =
    (session node start commit other : ℕ) (i : InstanceEntry) → InstanceAt w.nodes node i → to_place (held_of i session) ≡ Some (start, commit) → HasRecord w.pairs start other → ⊥
