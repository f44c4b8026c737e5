-- What the outcomes of events ask of a state: its parts fit together. Each is asked for by one event alone.
use Rattle.std.specs.Prelude.{◌≡◌, ℕ, ◌⊎◌, Bool, List, [], ◌∷◌, Option, None, Some}
use Rattle.stamp_base.specs.declared.stores.Mark.{Mark}
use Rattle.history_book.specs.declared.cause.Cause.{Cause}
use Rattle.system_parts.specs.Pairs.{mark_of}
use Rattle.system_parts.specs.declared.asks.Ask.{Ask}
use Rattle.system_parts.specs.declared.asks.Ask.TheVariants as ask
use Rattle.system_parts.specs.declared.session.State.TheVariants as phase
use Rattle.system_parts.specs.Resolve.{Settling}
use Rattle.system_parts.specs.SessionSteps.{step_refusal, handed_commit}
use Rattle.system_parts.specs.Sweep.{Sweeping, sweep_ask}
use Rattle.system_parts.specs.declared.instance.Progress.{Progress}
use Rattle.system_parts.specs.declared.instance.Request.{Request}
use Rattle.system_parts.specs.Instance.{InstanceEntry, session_of}
use Rattle.system_parts.specs.InstanceSteps.{IsStop}
use Rattle.machine.specs.State.{UnderWay, Nothing, Reads, Settles, Completes, Client, State}
use Rattle.machine.specs.Clients.{is_reading}
use Rattle.machine.specs.Events.Step.{own_resolve, work_of}
use Rattle.machine.specs.FoundAt.{InstanceAt, HeldBy, ClientAt, Marked}
use Rattle.machine.specs.Due.{Places}

-- ---- asked for by Decide: a refusal that is kept is one of the master record
abbrev pub StopOf : Option Cause → Type 0
StopOf None = Unit {0}
StopOf (Some why) = IsStop why

pub record AreStops (nodes : List (Option InstanceEntry)) : Type 0 where
  pub stop : (n : ℕ) (i : InstanceEntry) → InstanceAt nodes n i → StopOf i.stop

-- ---- asked for by Crash: a request is held under its own session
pub record AreOwnRequests (nodes : List (Option InstanceEntry)) : Type 0 where
  pub own : (n s : ℕ) (i : InstanceEntry) (request : Request) (p : Progress) → InstanceAt nodes n i → HeldBy i s request p → session_of request ≡ s

-- ---- asked for by SweepStep: an open sweep asks something
pub record SweepAsks (sweep : Option Sweeping) : Type 0 where
  pub asks : (s : Sweeping) → sweep ≡ Some s → sweep_ask s ≡ None → ⊥

-- ---- asked for by Step
-- the step lists no keys
abbrev pub NoList : Ask → Type 0
NoList asked = (txn : ℕ) → asked ≡ ask.Keys txn → ⊥

-- it is the resolve that is under way, or the one that is due
abbrev pub IsResolve : Client → Settling → Type 0
IsResolve c x = (c.under_way ≡ Settles x) ⊎ ((c.under_way ≡ Nothing) × (own_resolve c.entry.start c.entry.keys ≡ Settles x))

-- it is the completion that is under way
pub record IsCompletion (c : Client) (asked : Ask) (asks : List Ask) : Type 0 where
  pub undo : Bool
  pub completing : c.entry.state ≡ phase.Completing undo
  pub under_way : c.under_way ≡ Completes (asked ∷ asks)
  pub no_list : NoList asked

-- what is done next is what is under way, and fits the state
abbrev pub IsWork : Client → UnderWay → Type 0
IsWork c Nothing = Unit {0}
IsWork c (Reads r) = c.under_way ≡ Reads r
IsWork c (Settles x) = (c.entry.state ≡ phase.OpenOutcome) × IsResolve c x
IsWork c (Completes []) = Unit {0}
IsWork c (Completes (asked ∷ asks)) = IsCompletion c asked asks

-- a session that may make a step has work that fits its state, or a commit to place; what stands in the table in that commit's place
-- is a mark
pub record StepsFit (w : State) : Type 0 where
  pub work : (s : ℕ) (c : Client) → ClientAt w.clients s c → handed_commit c.entry ≡ None → step_refusal c.entry.state (is_reading c) ≡ None → IsWork c (work_of c)
  pub marked : (s start commit : ℕ) (mark : Mark) → Places w s start commit → mark_of w.pairs start ≡ Some mark → Marked w.pairs start

-- ---- all of them
pub record Fits (w : State) : Type 0 where
  pub stops : AreStops w.nodes
  pub own : AreOwnRequests w.nodes
  pub sweeps : SweepAsks w.sweep
  pub steps : StepsFit w
