-- Sessions and the requests that instances hold of them.
use Rattle.std.specs.Prelude.{◌≡◌, ◌≢◌, ℕ, ◌<◌, ◌≤◌, ◌⊎◌, true, false, IsTrue, List, [], Option, Some}
use Rattle.stamp_base.specs.SetupNumbers.{SetupNumbers}
use Rattle.history_book.specs.Isolation.{Committed}
use Rattle.history_book.specs.declared.item.Item.{Item}
use Rattle.system_parts.specs.declared.session.State.{State as SessionState}
use Rattle.system_parts.specs.declared.session.State.TheVariants as phase
use Rattle.system_parts.specs.SessionSteps.{has_transaction}
use Rattle.system_parts.specs.declared.instance.Progress.{Progress}
use Rattle.system_parts.specs.declared.instance.Progress.TheVariants as progress
use Rattle.system_parts.specs.declared.instance.Request.{Request}
use Rattle.system_parts.specs.declared.instance.Request.TheVariants.{Begin, Commit}
use Rattle.system_parts.specs.declared.instance.Settled.{Settled}
use Rattle.system_parts.specs.declared.instance.Settled.TheVariants as how
use Rattle.system_parts.specs.Instance.{InstanceEntry, session_of}
use Rattle.machine.specs.State.{Client}
use Rattle.isolation_laws.specs.Words.{InstanceAt, HeldBy, ClientAt, OpenAt, Begun, DrewStart, DrewCommit, HasDrawn, written_keys}
use Rattle.isolation_laws.specs.Pending.{Stage, Waits, Taken, Has, InFlight, stage_of, is_placing, Pending}

-- a session with a transaction began it itself
pub record HaveBegun (clients : List Client) (h : List Item) : Type 0 where
  pub begun : (s : ℕ) (c : Client) → ClientAt clients s c → IsTrue (has_transaction c.entry.state) → (t : ℕ) × (c.entry.start ≡ Some t) × Begun h s t

-- the session waits for an answer to the request, or has vanished
abbrev pub WaitsFor : Request → Client → Type 0
WaitsFor (Begin session) c = (c.entry.state ≡ phase.Gone) ⊎ (c.entry.state ≡ phase.Asking)
WaitsFor (Commit session start keys) c = (c.entry.state ≡ phase.Gone) ⊎ ((c.entry.state ≡ phase.Committing) × (c.entry.start ≡ Some start))

-- a request is held under its own session, which waits for it, and by one node alone
pub record AreRequests (nodes : List (Option InstanceEntry)) (clients : List Client) : Type 0 where
  pub own : (n s : ℕ) (i : InstanceEntry) (request : Request) (p : Progress) → InstanceAt nodes n i → HeldBy i s request p → session_of request ≡ s
  pub waits : (n s : ℕ) (i : InstanceEntry) (request : Request) (p : Progress) → InstanceAt nodes n i → HeldBy i s request p → (c : Client) × ClientAt clients s c × WaitsFor request c
  pub one : (n m s : ℕ) (i j : InstanceEntry) (request other : Request) (p q : Progress) → InstanceAt nodes n i → InstanceAt nodes m j → HeldBy i s request p → HeldBy j s other q → n ≡ m

-- a start that was drawn for a begin in flight was begun by nobody
pub record AreStarting (nodes : List (Option InstanceEntry)) (h : List Item) : Type 0 where
  pub drawn : (n s t : ℕ) (i : InstanceEntry) → InstanceAt nodes n i → HeldBy i s (Begin s) (progress.Drawn t) → DrewStart h s n i.term t
  pub unbegun : (n s t r : ℕ) (i : InstanceEntry) → InstanceAt nodes n i → HeldBy i s (Begin s) (progress.Drawn t) → Begun h r t → ⊥

-- by how far a commit in flight has come: none was drawn, or this one was and none is placed
abbrev pub IsDrawnSoFar : List Item → InFlight → Stage → Type 0
IsDrawnSoFar h q Waits = HasDrawn h q.start → ⊥
IsDrawnSoFar h q (Taken last) = HasDrawn h q.start → ⊥
IsDrawnSoFar h q (Has commit) = ((n : ℕ) × (term : ℕ) × DrewCommit h q.session n term q.start commit) × ((c : ℕ) → Committed h q.start c → ⊥)

-- a commit in flight was begun by its session, and asks for all keys that it wrote; one that an instance holds was drawn there
pub record ArePending (clients : List Client) (nodes : List (Option InstanceEntry)) (h : List Item) : Type 0 where
  pub begun : (q : InFlight) → Pending clients nodes q → Begun h q.session q.start
  pub keys : (q : InFlight) → Pending clients nodes q → (q.keys ≡ written_keys h q.start) × (q.keys ≢ [])
  pub so_far : (q : InFlight) → Pending clients nodes q → IsDrawnSoFar h q q.stage
  pub here : (n s t c : ℕ) (keys : List ℕ) (p : Progress) (i : InstanceEntry) → InstanceAt nodes n i → HeldBy i s (Commit s t keys) p → stage_of i.last p ≡ Some (Has c) → DrewCommit h s n i.term t c

-- how a settled commit stands in the history; a faulted put owes nothing
abbrev pub IsSettled : List Item → ℕ → ℕ → Settled → Type 0
IsSettled h t c how.Placed = Committed h t c
IsSettled h t c how.Invalid = (d : ℕ) → Committed h t d → ⊥
IsSettled h t c how.Faulted = Unit {0}

pub record AreSettled (nodes : List (Option InstanceEntry)) (h : List Item) : Type 0 where
  pub begun : (n s t c : ℕ) (keys : List ℕ) (by : Settled) (i : InstanceEntry) → InstanceAt nodes n i → HeldBy i s (Commit s t keys) (progress.Settled c by) → Begun h s t
  pub drawn : (n s t c : ℕ) (keys : List ℕ) (by : Settled) (i : InstanceEntry) → InstanceAt nodes n i → HeldBy i s (Commit s t keys) (progress.Settled c by) → DrewCommit h s n i.term t c
  pub settled : (n s t c : ℕ) (keys : List ℕ) (by : Settled) (i : InstanceEntry) → InstanceAt nodes n i → HeldBy i s (Commit s t keys) (progress.Settled c by) → IsSettled h t c by

-- a transaction begins and commits in one term
pub record AreAccepted (nodes : List (Option InstanceEntry)) : Type 0 where
  pub within : (n s t : ℕ) (keys : List ℕ) (i : InstanceEntry) → InstanceAt nodes n i → HeldBy i s (Commit s t keys) progress.Accepted → (i.epoch < t) × (t ≤ i.last)

-- an open transaction has drawn no commit, and began above its epoch
pub record AreOpen (clients : List Client) (h : List Item) : Type 0 where
  pub undrawn : (s t e : ℕ) → OpenAt clients s t e → HasDrawn h t → ⊥
  pub above : (s t e : ℕ) → OpenAt clients s t e → e < t

-- the session's transaction is in flight or of open outcome
abbrev pub HasAsked : SessionState → Type 0
HasAsked state = (state ≡ phase.Committing) ⊎ ((state ≡ phase.OpenOutcome) ⊎ (is_placing state ≡ true))

-- a session's write list has the keys that its transaction wrote; one that has asked for its commit has written
pub record AreKeys (clients : List Client) (h : List Item) : Type 0 where
  pub written : (s t : ℕ) (c : Client) → ClientAt clients s c → (c.entry.state ≡ phase.Open) ⊎ HasAsked c.entry.state → c.entry.start ≡ Some t → c.entry.keys ≡ written_keys h t
  pub some : (s : ℕ) (c : Client) → ClientAt clients s c → HasAsked c.entry.state → c.entry.keys ≢ []

-- where commits are not direct none is handed over, and no session places its own
pub record AreForm (setup : SetupNumbers) (nodes : List (Option InstanceEntry)) (clients : List Client) : Type 0 where
  pub handed : (n s c : ℕ) (i : InstanceEntry) (request : Request) → InstanceAt nodes n i → HeldBy i s request (progress.Handed c) → setup.direct ≡ true
  pub plain : setup.direct ≡ false → (s : ℕ) (c : Client) → ClientAt clients s c → is_placing c.entry.state ≡ true → ⊥

pub record RequestFacts (setup : SetupNumbers) (nodes : List (Option InstanceEntry)) (clients : List Client) (h : List Item) : Type 0 where
  pub have_begun : HaveBegun clients h
  pub requests : AreRequests nodes clients
  pub starting : AreStarting nodes h
  pub pending : ArePending clients nodes h
  pub settled : AreSettled nodes h
  pub accepted : AreAccepted nodes
  pub opened : AreOpen clients h
  pub keys : AreKeys clients h
  pub form : AreForm setup nodes clients
