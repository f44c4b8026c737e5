-- What is true of an oracle's instance over all its calls.
use Rattle.std.specs.Prelude.{◌≡◌, ℕ, ◌+◌, ◌<◌, ◌≤◌, List, [], All, Any, Contains, IfSome, Option, None, Some, Result, Ok}
use Rattle.history_book.specs.declared.cause.Cause.{Cause}
use Rattle.system_parts.specs.declared.buckets.Recorded.{Recorded}
use Rattle.system_parts.specs.declared.instance.Request.{Request}
use Rattle.system_parts.specs.declared.instance.Request.TheVariants.{Begin, Commit}
use Rattle.system_parts.specs.declared.instance.Progress.{Progress}
use Rattle.system_parts.specs.declared.instance.Progress.TheVariants.{Drawn, Settled, Handed}
use Rattle.system_parts.specs.declared.instance.Held.{Held}
use Rattle.system_parts.specs.declared.instance.Settled.{Settled as How}
use Rattle.system_parts.specs.declared.instance.Decided.{Decided}
use Rattle.system_parts.specs.declared.instance.Decided.TheVariants as decided
use Rattle.system_parts.specs.Buckets.{contents, CommitsRise, last_commit}
use Rattle.system_parts.specs.Instance.{InstanceEntry, session_of, held_of, in_flight, unsettled_commit}
use Rattle.system_parts.specs.InstanceSteps.{pairs_by, instance_ask, instance_accept, instance_decide, instance_refuse, instance_settle, instance_answer, instance_widened, instance_renewed, instance_stopped}

-- the calls that change an instance
pub data InstanceCall : Type 0 where
  Asks : (request : Request) → InstanceCall
  Accepts : (session reading : ℕ) → InstanceCall
  Decides : (session : ℕ) → InstanceCall
  Refuses : (session : ℕ) → InstanceCall
  Settles : (session : ℕ) (how : How) → InstanceCall
  Answers : (session : ℕ) → InstanceCall
  Widens : (ceiling : ℕ) → InstanceCall
  Renews : (until : ℕ) → InstanceCall
  Stops : (why : Cause) → InstanceCall

abbrev pub after_call : InstanceEntry → InstanceCall → InstanceEntry
after_call i (Asks request) = (instance_ask i request).left
after_call i (Accepts session reading) = (instance_accept i session reading).left
after_call i (Decides session) = (instance_decide i session).left
after_call i (Refuses session) = (instance_refuse i session).left
after_call i (Settles session how) = (instance_settle i session how).left
after_call i (Answers session) = (instance_answer i session).left
after_call i (Widens ceiling) = instance_widened i ceiling
after_call i (Renews until) = instance_renewed i until
after_call i (Stops why) = instance_stopped i why

-- what a range that is widened asks for
abbrev pub CanCall : InstanceEntry → InstanceCall → Type 0
CanCall i (Widens ceiling) = i.ceiling ≤ ceiling
CanCall i _ = Unit {0}

-- ---- whose request
-- the session whose request a call is about
abbrev pub call_session : InstanceCall → Option ℕ
call_session (Asks request) = Some (session_of request)
call_session (Accepts session reading) = Some session
call_session (Decides session) = Some session
call_session (Refuses session) = Some session
call_session (Settles session how) = Some session
call_session (Answers session) = Some session
call_session _ = None

-- all but the requests is as before
abbrev pub ChangesRequestsAlone : InstanceEntry → InstanceEntry → Type 0
ChangesRequestsAlone old new = new ≡ record old { requests = new.requests }

-- a call on a request that is no decision
abbrev pub IsNoDecision : InstanceCall → Type 0
IsNoDecision (Asks request) = Unit {0}
IsNoDecision (Accepts session reading) = Unit {0}
IsNoDecision (Refuses session) = Unit {0}
IsNoDecision (Settles session how) = Unit {0}
IsNoDecision (Answers session) = Unit {0}
IsNoDecision _ = ⊥

-- no more requests are held than there are slots
abbrev pub FitsItsSlots : InstanceEntry → Type 0
FitsItsSlots i = in_flight i ≤ i.slots

-- ---- stamps
-- the last stamp is at least the epoch, and at most the ceiling
pub record IsInRange (i : InstanceEntry) : Type 0 where
  pub above : i.epoch ≤ i.last
  pub within : i.last ≤ i.ceiling

-- the grant stays, and stamps, range and lease go up
pub record GoesUp (old new : InstanceEntry) : Type 0 where
  pub node : new.node ≡ old.node
  pub term : new.term ≡ old.term
  pub epoch : new.epoch ≡ old.epoch
  pub slots : new.slots ≡ old.slots
  pub direct : new.direct ≡ old.direct
  pub last : old.last ≤ new.last
  pub ceiling : old.ceiling ≤ new.ceiling
  pub until : old.until ≤ new.until

abbrev pub stamp_of : Decided → ℕ
stamp_of (decided.Started stamp) = stamp
stamp_of (decided.Drawn stamp) = stamp

-- the stamp is the next one, above the epoch and in the range
pub record DrawsNext (i : InstanceEntry) (stamp : ℕ) (left : InstanceEntry) : Type 0 where
  pub next : stamp ≡ i.last + 1
  pub above : i.epoch < stamp
  pub within : stamp ≤ i.ceiling
  pub last : left.last ≡ stamp

-- ---- begins
-- a commit that was drawn and is not settled is not below the start
abbrev pub IsNotBelow : ℕ → Option Held → Type 0
IsNotBelow start held = IfSome (unsettled_commit held) (λ commit. start ≤ commit)

-- the commit is the least below the start that was drawn and is not settled
pub record IsLeastUnsettled (start commit : ℕ) (requests : List (Option Held)) : Type 0 where
  pub below : commit < start
  pub there : Any (λ held. unsettled_commit held ≡ Some commit) requests
  pub least : All (λ held. IfSome (unsettled_commit held) (λ other. other < start → commit ≤ other)) requests

-- ---- the stamps of requests
abbrev pub progress_stamp : Progress → Option ℕ
progress_stamp (Drawn stamp) = Some stamp
progress_stamp (Settled commit how) = Some commit
progress_stamp (Handed commit) = Some commit
progress_stamp _ = None

-- what was drawn for a request lies above the epoch, and is at most the last stamp
abbrev pub IsDrawnWithin : ℕ → ℕ → Option Held → Type 0
IsDrawnWithin epoch last None = Unit {0}
IsDrawnWithin epoch last (Some held) = IfSome (progress_stamp held.progress) (λ stamp. (epoch < stamp) × (stamp ≤ last))

abbrev pub AreDrawnWithin : InstanceEntry → Type 0
AreDrawnWithin i = All (IsDrawnWithin i.epoch i.last) i.requests

-- ---- commits
-- the buckets hold what was recorded by commits that rise, up to the last stamp
pub record IsRecordedIn (count width : ℕ) (pairs : List Recorded) (i : InstanceEntry) : Type 0 where
  pub holds : i.buckets ≡ contents count width pairs
  pub rise : CommitsRise pairs
  pub up_to : All (λ pair. pair.commit ≤ i.last) pairs

-- what a decision records for a request
abbrev pub decided_pairs : Option Held → Result Decided Cause → List Recorded
decided_pairs (Some held) (Ok drawn) = pairs_by held.request (stamp_of drawn)
decided_pairs held answer = []

abbrev pub call_pairs : InstanceEntry → InstanceCall → List Recorded
call_pairs i (Decides session) = decided_pairs (held_of i session) (instance_decide i session).answer
call_pairs i _ = []

-- no commit was recorded above the start for any of the keys
abbrev pub IsFreeAt : List Recorded → ℕ → List ℕ → Type 0
IsFreeAt pairs start keys = (key commit : ℕ) → Contains keys key → last_commit pairs key ≡ Some commit → commit ≤ start

-- the request is no commit, or no commit was recorded above its start for any of its keys
abbrev pub RequestIsFree : List Recorded → Request → Type 0
RequestIsFree pairs (Begin session) = Unit {0}
RequestIsFree pairs (Commit session start keys) = IsFreeAt pairs start keys

abbrev pub HeldIsFree : List Recorded → Option Held → Type 0
HeldIsFree pairs None = ⊥
HeldIsFree pairs (Some held) = RequestIsFree pairs held.request
