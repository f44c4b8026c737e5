-- What may still be placed: commits in flight, by how far they have come, and what can still arrive below a start.
use Rattle.std.specs.Prelude.{◌≡◌, ℕ, ◌<◌, ◌⊎◌, Bool, true, false, List, Option, None, Some}
use Rattle.system_parts.specs.declared.session.State.{State as SessionState}
use Rattle.system_parts.specs.declared.session.State.TheVariants as phase
use Rattle.system_parts.specs.declared.instance.Progress.{Progress}
use Rattle.system_parts.specs.declared.instance.Progress.TheVariants as progress
use Rattle.system_parts.specs.declared.instance.Request.TheVariants.{Commit}
use Rattle.system_parts.specs.Instance.{InstanceEntry}
use Rattle.machine.specs.State.{Client}
use Rattle.isolation_laws.specs.Words.{InstanceAt, HeldBy, ClientAt, OpenAt}

pub data Stage : Type 0 where
  -- it waits to be accepted
  Waits : Stage
  -- it is accepted by an instance that drew this stamp last
  Taken : (last : ℕ) → Stage
  -- it has its commit, which is to be placed
  Has : (commit : ℕ) → Stage

-- a commit in flight: whose it is, its start, its keys and its stage
pub record InFlight : Type 0 where
  pub session : ℕ
  pub start : ℕ
  pub keys : List ℕ
  pub stage : Stage

abbrev pub stage_of : ℕ → Progress → Option Stage
stage_of last progress.Asked = Some Waits
stage_of last progress.Accepted = Some (Taken last)
stage_of last (progress.Drawn commit) = Some (Has commit)
stage_of last (progress.Handed commit) = Some (Has commit)
stage_of last (progress.Settled commit how) = None

-- an instance holds it, and it is not settled
pub record HeldPending (nodes : List (Option InstanceEntry)) (q : InFlight) : Type 0 where
  pub node : ℕ
  pub instance_of : InstanceEntry
  pub progress_of : Progress
  pub at : InstanceAt nodes node instance_of
  pub held : HeldBy instance_of q.session (Commit q.session q.start q.keys) progress_of
  pub stage_is : stage_of instance_of.last progress_of ≡ Some q.stage

-- the session has its commit, and places it itself
abbrev pub is_placing : SessionState → Bool
is_placing phase.Placing = true
is_placing _ = false

pub record PlacingAt (clients : List Client) (q : InFlight) : Type 0 where
  pub client : Client
  pub at : ClientAt clients q.session client
  pub state_is : is_placing client.entry.state ≡ true
  pub start_is : client.entry.start ≡ Some q.start
  pub keys_are : client.entry.keys ≡ q.keys
  pub commit_of : ℕ
  pub commit_is : client.entry.commit ≡ Some commit_of
  pub stage_is : q.stage ≡ Has commit_of

-- the commit is in flight: an instance holds it, or its session is placing it
abbrev pub Pending : List Client → List (Option InstanceEntry) → InFlight → Type 0
Pending clients nodes q = HeldPending nodes q ⊎ PlacingAt clients q

-- it can be placed, and then counts against a reader with the start b
abbrev pub IsStageBelow : ℕ → Stage → Type 0
IsStageBelow b Waits = ⊥
IsStageBelow b (Taken last) = last < b
IsStageBelow b (Has commit) = commit < b

-- a commit of t may still arrive below the start b
pub record ComesBelow (clients : List Client) (nodes : List (Option InstanceEntry)) (b t : ℕ) : Type 0 where
  pub coming : InFlight
  pub pending : Pending clients nodes coming
  pub start_is : coming.start ≡ t
  pub below : IsStageBelow b coming.stage

-- a commit of t is in flight
pub record IsPending (clients : List Client) (nodes : List (Option InstanceEntry)) (t : ℕ) : Type 0 where
  pub coming : InFlight
  pub pending : Pending clients nodes coming
  pub start_is : coming.start ≡ t

-- the transaction is open in a session
pub record IsOpen (clients : List Client) (t : ℕ) : Type 0 where
  pub session : ℕ
  pub epoch : ℕ
  pub open_at : OpenAt clients session t epoch

-- the transaction may still be placed: it is open, or its commit is in flight
abbrev pub Live : List Client → List (Option InstanceEntry) → ℕ → Type 0
Live clients nodes t = IsOpen clients t ⊎ IsPending clients nodes t
